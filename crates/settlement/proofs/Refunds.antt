-- Shortfalls and refunds are small, and no allocation of theirs is refused.
use Rattle.std.proofs.Common.{◌≡◌, ℕ, zero, suc, ◌+◌, ◌-◌, ◌*◌, ◌/◌, ◌<◌, ◌≤◌, min, max, Bool, true, false, cond, eqb, List, map, length, ℤ, pos, ◌+ℤ◌, ◌-ℤ◌, ◌*ℤ◌, nat_abs, ◌≤ℤ◌, Some, None, filter, Option, sym, refl, ap, ◌∙◌, inl, inr, zero-add, arith, lit≤}
use lib.Signed.{lt_z}
use Rattle.std.specs.Int.{int_max}
use Rattle.std.specs.List.{range_with_len, All}
use Rattle.std.proofs.lemmas.Int.{ints, clamps}
use Rattle.std.proofs.lemmas.Bool.Decides.{nat_tests}
use Rattle.std.proofs.lemmas.Bool.{eq-eqb}
use Rattle.std.proofs.lemmas.List.{length-map}
use Rattle.std.proofs.lemmas.List.FromFn.{length-range_with_len, length-map-range_with_len}
use Rattle.std.proofs.lemmas.List.Elements.{All-weaker, All-filter, filter_passes}
use Rattle.events.specs.declared.event.Event.{Event}
use Rattle.events.specs.declared.event.Reading.{Reading}
use Rattle.events.specs.declared.resource.ResourceKind.{ResourceKind}
use Rattle.events.specs.declared.resource.ResourceKind.TheVariants.{Generator, Demand}
use Rattle.settlement.specs.Sums.{sum, at, is_zero, Meaning}
use Rattle.settlement.specs.Days.{Day, resources, hours, resource, owns, owned, assigned, reading}
use Rattle.settlement.specs.Shortfalls.{minutes_in, counts, rise, response_of, counted, response, held, shortfall, over_response, net_shortfall, refund_minutes, retroactive_shortfalls, retroactive_shortfall, largest_shortfall, day_refund, refund_part}
use Rattle.settlement.specs.Laws.{Lawful, Allocable, BoundedDay}
use Rattle.settlement.proofs.Sums.{sum_above, sum_below, sum_swap}
use Rattle.settlement.proofs.Bounds.{zero_or_above, product_above, product_left, magnitude_le, one_le, at_above, kept_length, all_owned, kept_at, largest_above, largest_below, largest_none, thousand_below, thousand_above, admissible, share_above, share_below, share_part}

-- ---- minutes

minutes_from : (S E a n : ℕ) → sum (range_with_len a n) (λ k. pos (min E (60 * k + 60) - max S (60 * k))) ≡ pos (min E (60 * (a + n)) - max S (60 * a))
minutes_from S E a zero = ap pos (omega arith)
minutes_from S E a (suc n) = ap (λ (z : ℤ). pos (min E (60 * a + 60) - max S (60 * a)) +ℤ z) (minutes_from S E (a + 1) n) ∙ ap pos (omega arith)

pub all_minutes : (e : Event) → e.end ≤ 1440 → sum hours (minutes_in e) ≡ pos (e.end - e.start)
unfolding minutes_in
all_minutes e h = minutes_from e.start e.end 0 24 ∙ ap pos (omega arith)

pub minutes_small : (e : Event) (k : ℕ) → minutes_in e k ≤ℤ pos 60
unfolding minutes_in
minutes_small e k = let h : min e.end (60 * k + 60) - max e.start (60 * k) ≤ 60 = omega arith in omega (arith, ints)

pub minutes_above : (e : Event) (k : ℕ) → pos 0 ≤ℤ minutes_in e k
unfolding minutes_in
minutes_above e k = omega (arith, ints)

-- ---- assigned, shortfall, over-response

rise_above : (a b : Option ℕ) → pos 0 ≤ℤ rise a b
rise_above None b = omega (arith, ints)
rise_above (Some a) None = omega (arith, ints)
rise_above (Some a) (Some b) = omega (arith, ints, clamps)

response_above : (k : ResourceKind) (r : Reading) → pos 0 ≤ℤ response_of k r
response_above Generator r = rise_above r.start r.end
response_above Demand r = rise_above r.end r.start

pub floored_above : (z : ℤ) → pos 0 ≤ℤ int_max z (pos 0)
floored_above z = omega (arith, ints, clamps)

pub floored_below : (a b : ℤ) → pos 0 ≤ℤ a → pos 0 ≤ℤ b → int_max (a -ℤ b) (pos 0) ≤ℤ a
floored_below a b h k = omega (arith, ints, clamps)

pub not_over : (b : Bool) (z : ℤ) → pos 0 ≤ℤ cond b (pos 0) (int_max z (pos 0))
not_over true z = omega (arith, ints)
not_over false z = floored_above z

pub size_of : (z : ℤ) → pos 0 ≤ℤ z → pos (nat_abs z) ≤ℤ z
size_of z h = omega (arith, ints)

pub everywhere : {X : Type 0} (P : X → Type 0) → ((x : X) → P x) → (xs : List X) → All P xs
everywhere P h xs k d l = h _

pub all_both : {X : Type 0} (P Q R : X → Type 0) → ((x : X) → P x → Q x → R x) → (xs : List X) → All P xs → All Q xs → All R xs
all_both P Q R h xs p q k d l = h _ (p k d l) (q k d l)

pub not_above : (z : ℤ) → lt_z (pos 0) z ≡ false → z ≤ℤ pos 0
not_above z h = grind (arith, ints)

module _ (d : Day) (b : BoundedDay d) where
  pub assigned_small : (h r : ℕ) → h < 24 → r < length d.roll → assigned d h r ≤ℤ pos 500000
  assigned_small h r i l = let n = (b.assignments h r i l).kwh in omega (arith, ints)

  pub shortfall_above : (e : Event) (r : ℕ) → pos 0 ≤ℤ shortfall d e r
  unfolding shortfall
  shortfall_above e r = floored_above (held d e r -ℤ response d e r)

  pub shortfall_small : (e : Event) (r : ℕ) → e.start ≤ 1439 → r < length d.roll → shortfall d e r ≤ℤ pos 500000
  unfolding shortfall response
  shortfall_small e r s l =
      let a = assigned_small (e.start / 60) r (omega arith) l in
      let f = floored_below (held d e r) (response d e r) (omega (arith, ints)) (response_above (resource d r).kind (reading e r)) in
      omega (arith, ints)

  pub over_above : (e : Event) (r : ℕ) → pos 0 ≤ℤ over_response d e r
  unfolding over_response
  over_above e r = not_over (is_zero (held d e r)) (response d e r -ℤ held d e r)

  few_owned : (m : ℕ) → length (owned d m (resources d)) ≤ 16
  few_owned m = let k = kept_length (owns d m) (resources d) in let n = length-range_with_len 0 (length d.roll) in let f = b.few_resources in omega arith

  shortfalls_above : (e : Event) (m : ℕ) → All (λ r. pos 0 ≤ℤ shortfall d e r) (owned d m (resources d))
  shortfalls_above e m = all_owned d (λ r. pos 0 ≤ℤ shortfall d e r) m (λ r l. shortfall_above e r)

  pub net_above : (e : Event) (m : ℕ) → pos 0 ≤ℤ net_shortfall d e m
  unfolding net_shortfall
  net_above e m = floored_above (sum (owned d m (resources d)) (shortfall d e) -ℤ sum (owned d m (resources d)) (over_response d e))

  pub net_below : (e : Event) (m : ℕ) → net_shortfall d e m ≤ℤ sum (owned d m (resources d)) (shortfall d e)
  unfolding net_shortfall
  net_below e m =
      floored_below (sum (owned d m (resources d)) (shortfall d e)) (sum (owned d m (resources d)) (over_response d e))
      (sum_above (owned d m (resources d)) (shortfall d e) (shortfalls_above e m))
      (sum_above (owned d m (resources d)) (over_response d e) (all_owned d (λ r. pos 0 ≤ℤ over_response d e r) m (λ r l. over_above e r)))

  pub shortfalls_accepted : (e : Event) (m : ℕ) → e.start ≤ 1439 → Allocable (net_shortfall d e m) (map (shortfall d e) (owned d m (resources d)))
  shortfalls_accepted e m s = elim (zero_or_above (net_shortfall d e m) (net_above e m)) [
    | inl z ↦ inl z
    | inr h ↦
        let few = few_owned m in
        let n = length-map (owned d m (resources d)) (shortfall d e) in
        let low = net_below e m in
        let most : sum (owned d m (resources d)) (shortfall d e) ≤ℤ pos 8000000 =
        let i = sum_below (owned d m (resources d)) (shortfall d e) 500000 (all_owned d (λ r. shortfall d e r ≤ℤ pos 500000) m (λ r l. shortfall_small e r s l)) in omega (arith, ints) in
        let size = magnitude_le (owned d m (resources d)) (shortfall d e) (shortfall d e) (All-weaker (λ r. pos 0 ≤ℤ shortfall d e r) (λ r. pos (nat_abs (shortfall d e r)) ≤ℤ shortfall d e r) (λ r l. size_of _ l) (owned d m (resources d)) (shortfalls_above e m)) in
        inr (admissible (net_shortfall d e m) (map (shortfall d e) (owned d m (resources d))) 8000000 8000000 (omega arith) (net_above e m) (omega (arith, ints)) (omega (arith, ints)) (lit≤ tt) (lit≤ tt) (omega (arith, ints)))
  ]

  counted_starts : All (λ e. e.start ≤ 1439) (counted d)
  unfolding counted
  counted_starts = All-filter counts (λ e. e.start ≤ 1439) d.closed b.starts

  counted_ends : All (λ e. e.end ≤ 1440) (counted d)
  unfolding counted
  counted_ends = All-filter counts (λ e. e.end ≤ 1440) d.closed b.ends

  counted_counts : All (λ e. counts e ≡ true) (counted d)
  unfolding counted
  counted_counts = filter_passes counts d.closed

  few_counted : length (counted d) ≤ 4
  unfolding counted
  few_counted = let k = kept_length counts d.closed in let f = b.few_events in omega arith

  pub all_shortfalls_accepted : (m : ℕ) → All (λ e. Allocable (net_shortfall d e m) (map (shortfall d e) (owned d m (resources d)))) (counted d)
  all_shortfalls_accepted m = All-weaker (λ e. e.start ≤ 1439) (λ e. Allocable (net_shortfall d e m) (map (shortfall d e) (owned d m (resources d)))) (λ e s. shortfalls_accepted e m s) (counted d) counted_starts

  -- ---- the retroactive shortfall of a resource

  retroactive_bounds : (t : Meaning) (e : Event) (r : ℕ) → Lawful t → e.start ≤ 1439 → r < length d.roll
      → (pos 0 ≤ℤ retroactive_shortfall t d r e) × (retroactive_shortfall t d r e ≤ℤ shortfall d e r)
  unfolding retroactive_shortfall retroactive_shortfalls
  retroactive_bounds t e r lawful s l =
      let m = (resource d r).owner in
      let place = kept_at (owns d m) (shortfall d e) 0 r (length d.roll) l (ap (λ (i : ℕ). eqb (resource d i).owner m) (zero-add r) ∙ eq-eqb m m refl) in
      let weight : at (map (shortfall d e) (owned d m (resources d))) (length (owned d m (range_with_len 0 r))) ≡ shortfall d e r = place.0 ∙ ap (shortfall d e) (zero-add r) in
      let here : length (owned d m (range_with_len 0 r)) < length (map (shortfall d e) (owned d m (resources d))) = rw (length-map (owned d m (resources d)) (shortfall d e)) place.1 in (
        share_above t (net_shortfall d e m) (map (shortfall d e) (owned d m (resources d))) (length (owned d m (range_with_len 0 r))) lawful (shortfalls_accepted e m s) here (rw weight (shortfall_above e r)),
        rw (sym weight) (share_below t (net_shortfall d e m) (map (shortfall d e) (owned d m (resources d))) (length (owned d m (range_with_len 0 r))) lawful (shortfalls_accepted e m s) here (rw weight (shortfall_above e r)) (net_below e m)),
      )

  -- ---- the refund of a resource

  pub worst_above : (t : Meaning) (r : ℕ) → pos 0 ≤ℤ largest_shortfall t d r
  unfolding largest_shortfall
  worst_above t r = largest_above (counted d) (retroactive_shortfall t d r)

  pub worst_small : (t : Meaning) (r : ℕ) → Lawful t → r < length d.roll → largest_shortfall t d r ≤ℤ pos 500000
  unfolding largest_shortfall
  worst_small t r lawful l =
      largest_below (counted d) (retroactive_shortfall t d r) (pos 500000) (omega (arith, ints))
      (All-weaker (λ e. e.start ≤ 1439) (λ e. retroactive_shortfall t d r e ≤ℤ pos 500000)
      (λ e s. let p = (retroactive_bounds t e r lawful s l).1 in let q = shortfall_small e r s l in omega (arith, ints)) (counted d) counted_starts)

  pub refund_above : (t : Meaning) (r : ℕ) → pos 0 ≤ℤ day_refund t d r
  unfolding day_refund
  refund_above t r = thousand_above (largest_shortfall t d r *ℤ pos (resource d r).interval_price_sum) (product_above (largest_shortfall t d r) (pos (resource d r).interval_price_sum) (worst_above t r) (omega (arith, ints)))

  pub refund_small : (t : Meaning) (r : ℕ) → Lawful t → r < length d.roll → day_refund t d r ≤ℤ pos 2000000000
  unfolding day_refund
  refund_small t r lawful l =
      let p = product_left (largest_shortfall t d r) (pos 500000) (pos (resource d r).interval_price_sum) (worst_small t r lawful l) (omega (arith, ints)) in
      let f = b.price_sums r l in
      thousand_below (largest_shortfall t d r *ℤ pos (resource d r).interval_price_sum) (pos 2000000000) (omega (arith, ints))

  no_refund : (t : Meaning) (r : ℕ) → largest_shortfall t d r ≡ pos 0 → day_refund t d r ≡ pos 0
  unfolding day_refund
  no_refund t r e =
      let z : largest_shortfall t d r *ℤ pos (resource d r).interval_price_sum ≡ pos 0 = ap (λ (y : ℤ). y *ℤ pos (resource d r).interval_price_sum) e ∙ omega (arith, ints) in
      let low = thousand_above (largest_shortfall t d r *ℤ pos (resource d r).interval_price_sum) (omega (arith, ints)) in
      let high = thousand_below (largest_shortfall t d r *ℤ pos (resource d r).interval_price_sum) (pos 0) (omega (arith, ints)) in
      omega (arith, ints)

  -- ---- its minutes

  abbrev short_in : ℕ → List Event
  short_in r = filter (λ e. lt_z (pos 0) (shortfall d e r)) (counted d)

  pub minutes_each : (r k : ℕ) → (pos 0 ≤ℤ refund_minutes d r k) × (refund_minutes d r k ≤ℤ pos 240)
  unfolding refund_minutes
  minutes_each r k =
      let n = kept_length (λ e. lt_z (pos 0) (shortfall d e r)) (counted d) in
      let f = few_counted in
      let s = sum_below (short_in r) (λ e. minutes_in e k) 60 (everywhere (λ e. minutes_in e k ≤ℤ pos 60) (λ e. minutes_small e k) (short_in r)) in
      (sum_above (short_in r) (λ e. minutes_in e k) (everywhere (λ e. pos 0 ≤ℤ minutes_in e k) (λ e. minutes_above e k) (short_in r)), omega (arith, ints))

  total_minutes : (r : ℕ) → sum hours (refund_minutes d r) ≡ sum (short_in r) (λ e. sum hours (minutes_in e))
  unfolding refund_minutes
  total_minutes r = sum_swap hours (short_in r) (λ k e. minutes_in e k)

  -- no minutes, no shortfall
  no_minutes : (t : Meaning) (r : ℕ) → Lawful t → r < length d.roll → sum hours (refund_minutes d r) ≡ pos 0 → largest_shortfall t d r ≡ pos 0
  unfolding largest_shortfall
  no_minutes t r lawful l e =
      largest_none (λ e. lt_z (pos 0) (shortfall d e r)) (counted d) (retroactive_shortfall t d r) (λ e. sum hours (minutes_in e))
      (All-weaker (λ e. e.start ≤ 1439) (λ e. lt_z (pos 0) (shortfall d e r) ≡ false → retroactive_shortfall t d r e ≤ℤ pos 0)
      (λ e s f. let p = (retroactive_bounds t e r lawful s l).1 in let z = not_above (shortfall d e r) f in omega (arith, ints)) (counted d) counted_starts)
      (all_both (λ e. e.end ≤ 1440) (λ e. counts e ≡ true) (λ e. pos 1 ≤ℤ sum hours (minutes_in e))
      (λ e h c. rw (all_minutes e h) (let n : 1 ≤ e.end - e.start = grind (arith, nat_tests) in omega (arith, ints))) (counted d) counted_ends counted_counts)
      (sym (total_minutes r) ∙ e)

  pub refunds_accepted : (t : Meaning) (r : ℕ) → Lawful t → r < length d.roll → Allocable (day_refund t d r) (map (refund_minutes d r) hours)
  refunds_accepted t r lawful l =
      let low = sum_above hours (refund_minutes d r) (everywhere (λ k. pos 0 ≤ℤ refund_minutes d r k) (λ k. (minutes_each r k).0) hours) in
      let most = sum_below hours (refund_minutes d r) 240 (everywhere (λ k. refund_minutes d r k ≤ℤ pos 240) (λ k. (minutes_each r k).1) hours) in
      let size = magnitude_le hours (refund_minutes d r) (refund_minutes d r) (everywhere (λ k. pos (nat_abs (refund_minutes d r k)) ≤ℤ refund_minutes d r k) (λ k. size_of (refund_minutes d r k) (minutes_each r k).0) hours) in
      let n = length-map-range_with_len (refund_minutes d r) 0 24 in
      elim (zero_or_above (sum hours (refund_minutes d r)) low) [
        | inl z ↦ inl (no_refund t r (no_minutes t r lawful l z))
        | inr h ↦ inr (admissible (day_refund t d r) (map (refund_minutes d r) hours) 2000000000 5760 (omega arith) (refund_above t r) (refund_small t r lawful l) (omega (arith, ints)) (lit≤ tt) (lit≤ tt) h)
      ]

  pub part_bounds : (t : Meaning) (k r : ℕ) → Lawful t → k < 24 → r < length d.roll → (pos 0 ≤ℤ refund_part t d k r) × (refund_part t d k r ≤ℤ pos 2000000000)
  unfolding refund_part
  part_bounds t k r lawful h l =
      let ws = map (refund_minutes d r) hours in
      let here : k < length ws = rw (length-map-range_with_len (refund_minutes d r) 0 24) h in
      let each = everywhere (λ k. pos 0 ≤ℤ refund_minutes d r k) (λ k. (minutes_each r k).0) hours in
      let a = share_above t (day_refund t d r) ws k lawful (refunds_accepted t r lawful l) here (at_above hours (refund_minutes d r) k each) in
      let p = share_part t (day_refund t d r) ws k lawful (refunds_accepted t r lawful l) here (one_le hours (refund_minutes d r) k each) in
      let s = refund_small t r lawful l in
      (a, omega (arith, ints))
