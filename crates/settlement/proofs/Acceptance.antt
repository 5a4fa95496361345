-- No allocation of an hour that can be settled is refused.
use Rattle.std.proofs.Common.{◌≡◌, ℕ, ◌*◌, ◌<◌, ◌≤◌, Bool, true, false, cond, ◌&&◌, eqb, List, map, length, ℤ, pos, ◌+ℤ◌, ◌-ℤ◌, ◌*ℤ◌, nat_abs, ◌≤ℤ◌, ◌<ℤ◌, sym, refl, ap, ◌∙◌, subst, inl, inr, arith, lit≤}
use lib.Signed.{lt_z}
use Rattle.std.specs.Int.{int_max}
use Rattle.std.specs.List.{All}
use Rattle.std.proofs.lemmas.Int.{ints, clamps}
use Rattle.std.proofs.lemmas.Bool.Decides.{nat_tests}
use Rattle.std.proofs.lemmas.List.FromFn.{length-range_with_len, length-map-range_with_len, fill_by_all}
use Rattle.allocation.specs.Rounding.{half_up}
use Rattle.allocation.specs.Refusals.{Admissible}
use Rattle.hours.specs.declared.hour.Hour.{Hour}
use Rattle.hours.specs.declared.assignment.Assignment.{Assignment}
use Rattle.hours.specs.declared.assignment.Assignment.TheVariants.{Unassigned, TierOne, SelfScheduled, PoolScheduled}
use Rattle.hours.specs.Assignments.{kwh_of, Small}
use Rattle.settlement.specs.Sums.{sum, largest, at, is_zero, all_zero, Meaning}
use Rattle.settlement.specs.Days.{Day, members, resources, owned, assignment, is_tier_one, assigned, load, Sales}
use Rattle.settlement.specs.Shortfalls.{shortfall, refund_part}
use Rattle.settlement.specs.Settlement.{opportunity_cost, total_assigned, counted_here, delivered, delivered_tier_one, total_load, clearing_credit_of, opportunity_cost_credit_of, total_clearing, total_opportunity_cost, net_sales, own, obligations, total_refund, is_refunding, adjusted_obligation_of, adjusted_obligations, purchase, buyers, refund_weight, payees, unsettleable}
use Rattle.settlement.specs.Laws.{Lawful, Allocable, NoneRefused, Bounded}
use Rattle.settlement.proofs.Sums.{sum_plus, sum_swap, sum_above, sum_below, sum_scaled, all_counting}
use Rattle.settlement.proofs.Shares.{allocated_length}
use Rattle.settlement.proofs.Balances.{allocated_all}
use Rattle.settlement.proofs.Obligations.{total_adjusted}
use Rattle.settlement.proofs.Bounds.{zero_or_above, product_above, product_left, magnitude_le, at_above, largest_above, thousand_below, thousand_above, admissible, share_above, share_part, one_le, not_all_zero, above_test, not_both}
use Rattle.settlement.proofs.Refunds.{everywhere, not_over, floored_above, floored_below, assigned_small, all_shortfalls_accepted, refunds_accepted, part_bounds}

-- ---- credits of a resource

none_or : (b : Bool) (z u : ℤ) → pos 0 ≤ℤ u → pos 0 ≤ℤ z → z ≤ℤ u → (pos 0 ≤ℤ cond b (pos 0) z) × (cond b (pos 0) z ≤ℤ u)
none_or true z u h l k = (omega (arith, ints), h)
none_or false z u h l k = (l, k)

-- a price of at most 400,000
priced : (p : ℕ) (z : ℤ) → p ≤ 400000 → pos 0 ≤ℤ z → (pos 0 ≤ℤ half_up (pos p *ℤ z) (pos 1000)) × (half_up (pos p *ℤ z) (pos 1000) ≤ℤ (pos 400 *ℤ z))
priced p z h k =
    let m = product_left (pos p) (pos 400000) z (omega (arith, ints)) k in (
      thousand_above (pos p *ℤ z) (product_above (pos p) z (omega (arith, ints)) k),
      thousand_below (pos p *ℤ z) (pos 400 *ℤ z) (omega (arith, ints)),
    )

cost_bounds : (a : Assignment ℕ) (z c : ℤ) → Small a → pos 0 ≤ℤ z → z ≤ℤ pos 500000 → pos 0 ≤ℤ c
    → (pos 0 ≤ℤ opportunity_cost a z c) × (opportunity_cost a z c ≤ℤ pos 500000000) × (opportunity_cost a z c ≤ℤ (pos 500000000 *ℤ pos (kwh_of a)))
cost_bounds Unassigned z c s h k l = (omega (arith, ints), omega (arith, ints), omega (arith, ints))
cost_bounds (TierOne n) z c s h k l = (omega (arith, ints), omega (arith, ints), omega (arith, ints))
cost_bounds (SelfScheduled n) z c s h k l = (omega (arith, ints), omega (arith, ints), omega (arith, ints))
cost_bounds (PoolScheduled n o f) z c s h k l = by (eqb n 0) refl
  where
    v : ℤ
    v = half_up (pos o *ℤ z) (pos 1000) +ℤ pos f -ℤ c

    by : (e : Bool) → eqb n 0 ≡ e → (pos 0 ≤ℤ cond e (pos 0) (int_max v (pos 0))) × (cond e (pos 0) (int_max v (pos 0)) ≤ℤ pos 500000000) × (cond e (pos 0) (int_max v (pos 0)) ≤ℤ (pos 500000000 *ℤ pos n))
    by true e = (omega (arith, ints), omega (arith, ints), omega (arith, ints))
    by false e =
        let p = (priced o z s.offer h).1 in
        let g = s.costs in
        let m : 1 ≤ n = grind (arith, nat_tests) in
        let most : int_max v (pos 0) ≤ℤ pos 500000000 = omega (arith, ints, clamps) in
        (floored_above v, most, omega (arith, ints))

-- ---- weights

weight_size : (b : Bool) (o s p n : ℤ) → pos 0 ≤ℤ o → pos 0 ≤ℤ s → pos 0 ≤ℤ p → pos 0 ≤ℤ n → pos (nat_abs (cond b (pos 0) (int_max (o +ℤ (s -ℤ p) -ℤ n) (pos 0)))) ≤ℤ (o +ℤ (s +ℤ p))
weight_size true o s p n ho hs hp hn = omega (arith, ints)
weight_size false o s p n ho hs hp hn = omega (arith, ints, clamps)

pub not_zero : (z : ℤ) → pos 0 ≤ℤ z → is_zero z ≡ false → pos 0 <ℤ z
not_zero z h e = elim (zero_or_above z h) [ inl p ↦ let q : is_zero z ≡ true = ap is_zero p in let c : ◌≡◌ {A = ℕ} 0 1 = cc in absurd (omega arith) | inr l ↦ l ]

module _ (d : Day) (k : ℕ) (x : Hour) (q : Sales) (b : Bounded d k x q) where
  pub each_resource : (P : ℕ → Type 0) → ((r : ℕ) → r < length d.roll → P r) → All P (resources d)
  each_resource P h = all_counting P 0 (length d.roll) (λ r l. h r (omega arith))

  pub each_member : (P : ℕ → Type 0) → ((m : ℕ) → m < d.member_count → P m) → All P (members d)
  each_member P h = all_counting P 0 d.member_count (λ m l. h m (omega arith))

  pub A_above : pos 0 ≤ℤ total_assigned d k
  unfolding total_assigned
  A_above = sum_above (resources d) (assigned d k) (everywhere (λ r. pos 0 ≤ℤ assigned d k r) (λ r. omega (arith, ints)) (resources d))

  pub A_small : total_assigned d k ≤ℤ pos 8000000
  unfolding total_assigned
  A_small =
      let s = sum_below (resources d) (assigned d k) 500000 (each_resource (λ r. assigned d k r ≤ℤ pos 500000) (λ r l. assigned_small d b.day k r b.hour l)) in
      let n = length-range_with_len 0 (length d.roll) in
      let f = b.day.few_resources in
      omega (arith, ints)

  pub T_above : pos 0 ≤ℤ total_load d x
  unfolding total_load
  T_above = sum_above (members d) (load x) (everywhere (λ m. pos 0 ≤ℤ load x m) (λ m. omega (arith, ints)) (members d))

  pub T_small : total_load d x ≤ℤ pos 1600000000
  unfolding total_load
  T_small =
      let s = sum_below (members d) (load x) 100000000 (each_member (λ m. load x m ≤ℤ pos 100000000) (λ m l. let h = b.loads m l in omega (arith, ints))) in
      let n = length-range_with_len 0 d.member_count in
      let f = b.day.few_members in
      omega (arith, ints)

  pub delivered_bounds : (r : ℕ) → (pos 0 ≤ℤ delivered d k r) × (delivered d k r ≤ℤ assigned d k r)
  unfolding delivered
  delivered_bounds r = (
    floored_above (assigned d k r -ℤ largest (counted_here d k) (λ e. shortfall d e r)),
    floored_below (assigned d k r) (largest (counted_here d k) (λ e. shortfall d e r)) (omega (arith, ints)) (largest_above (counted_here d k) (λ e. shortfall d e r)),
  )

  pub tier_one_above : (r : ℕ) → pos 0 ≤ℤ delivered_tier_one d k r
  unfolding delivered_tier_one
  tier_one_above r = either (is_tier_one (assignment d k r)) (delivered d k r) (delivered_bounds r).0
    where
      either : (b : Bool) (z : ℤ) → pos 0 ≤ℤ z → pos 0 ≤ℤ cond b z (pos 0)
      either true z h = h
      either false z h = omega (arith, ints)

  pub credit_bounds : (r : ℕ) → (pos 0 ≤ℤ clearing_credit_of d k x r) × (clearing_credit_of d k x r ≤ℤ (pos 400 *ℤ assigned d k r))
  unfolding clearing_credit_of
  credit_bounds r =
      let v = delivered_bounds r in
      let p = priced x.synchronized_price (delivered d k r) b.price v.0 in
      let low = p.1 in
      let more = v.1 in
      none_or (is_tier_one (assignment d k r) && eqb x.non_synchronized_price 0) (half_up (pos x.synchronized_price *ℤ delivered d k r) (pos 1000)) (pos 400 *ℤ assigned d k r) (omega (arith, ints)) p.0 (omega (arith, ints))

  pub C_above : pos 0 ≤ℤ total_clearing d k x
  unfolding total_clearing
  C_above = sum_above (resources d) (clearing_credit_of d k x) (everywhere (λ r. pos 0 ≤ℤ clearing_credit_of d k x r) (λ r. (credit_bounds r).0) (resources d))

  pub C_scaled : total_clearing d k x ≤ℤ (pos 400 *ℤ total_assigned d k)
  unfolding total_clearing total_assigned
  C_scaled = sum_scaled 400 (resources d) (clearing_credit_of d k x) (assigned d k) (everywhere (λ r. clearing_credit_of d k x r ≤ℤ (pos 400 *ℤ assigned d k r)) (λ r. (credit_bounds r).1) (resources d))

  pub costs : (r : ℕ) → r < length d.roll → (pos 0 ≤ℤ opportunity_cost_credit_of d k x r) × (opportunity_cost_credit_of d k x r ≤ℤ pos 500000000) × (opportunity_cost_credit_of d k x r ≤ℤ (pos 500000000 *ℤ assigned d k r))
  unfolding opportunity_cost_credit_of
  costs r l =
      let v = delivered_bounds r in
      let a = assigned_small d b.day k r b.hour l in
      let u = v.1 in
      cost_bounds (assignment d k r) (delivered d k r) (clearing_credit_of d k x r) (b.day.assignments k r b.hour l) v.0 (omega (arith, ints)) (credit_bounds r).0

  pub O_above : pos 0 ≤ℤ total_opportunity_cost d k x
  unfolding total_opportunity_cost
  O_above = sum_above (resources d) (opportunity_cost_credit_of d k x) (each_resource (λ r. pos 0 ≤ℤ opportunity_cost_credit_of d k x r) (λ r l. (costs r l).0))

  pub O_small : total_opportunity_cost d k x ≤ℤ pos 8000000000
  unfolding total_opportunity_cost
  O_small =
      let s = sum_below (resources d) (opportunity_cost_credit_of d k x) 500000000 (each_resource (λ r. opportunity_cost_credit_of d k x r ≤ℤ pos 500000000) (λ r l. (costs r l).1)) in
      let n = length-range_with_len 0 (length d.roll) in
      let f = b.day.few_resources in
      omega (arith, ints)

  O_scaled : total_opportunity_cost d k x ≤ℤ (pos 500000000 *ℤ total_assigned d k)
  unfolding total_opportunity_cost total_assigned
  O_scaled = sum_scaled 500000000 (resources d) (opportunity_cost_credit_of d k x) (assigned d k) (each_resource (λ r. opportunity_cost_credit_of d k x r ≤ℤ (pos 500000000 *ℤ assigned d k r)) (λ r l. (costs r l).2))

  -- ---- trades

  abbrev pub sold : ℕ → ℤ
  sold m = sum (members d) (λ other. pos (q m other))

  abbrev pub bought : ℕ → ℤ
  bought m = sum (members d) (λ other. pos (q other m))

  pub sold_above : (m : ℕ) → pos 0 ≤ℤ sold m
  sold_above m = sum_above (members d) (λ other. pos (q m other)) (everywhere (λ other. pos 0 ≤ℤ pos (q m other)) (λ other. omega (arith, ints)) (members d))

  pub bought_above : (m : ℕ) → pos 0 ≤ℤ bought m
  bought_above m = sum_above (members d) (λ other. pos (q other m)) (everywhere (λ other. pos 0 ≤ℤ pos (q other m)) (λ other. omega (arith, ints)) (members d))

  -- where there is a load for what is assigned
  module _ (t : Meaning) (lawful : Lawful t) (loaded : pos 0 <ℤ total_assigned d k → pos 0 <ℤ total_load d x) where
    pub reserve : Allocable (total_assigned d k) (map (load x) (members d))
    unfolding total_load
    reserve = elim (zero_or_above (total_assigned d k) A_above) [
      | inl z ↦ inl z
      | inr h ↦
          let few = b.day.few_members in
          let n = length-map-range_with_len (load x) 0 d.member_count in
          let most = T_small in
          let size = magnitude_le (members d) (load x) (load x) (everywhere (λ m. pos (nat_abs (load x m)) ≤ℤ load x m) (λ m. omega (arith, ints)) (members d)) in
          inr (admissible (total_assigned d k) (map (load x) (members d)) 8000000 1600000000 (omega arith) A_above A_small (omega (arith, ints)) (lit≤ tt) (lit≤ tt) (loaded h))
    ]

    pub obligation_above : (m : ℕ) → m < d.member_count → pos 0 ≤ℤ at (obligations t d k x) m
    unfolding obligations
    obligation_above m l =
        share_above t (total_assigned d k) (map (load x) (members d)) m lawful reserve (rw (length-map-range_with_len (load x) 0 d.member_count) l)
        (at_above (members d) (load x) m (everywhere (λ m. pos 0 ≤ℤ load x m) (λ m. omega (arith, ints)) (members d)))

    pub obligation_small : (m : ℕ) → m < d.member_count → at (obligations t d k x) m ≤ℤ pos 8000000
    unfolding obligations
    obligation_small m l =
        let loads = everywhere (λ m. pos 0 ≤ℤ load x m) (λ m. omega (arith, ints)) (members d) in
        let p = share_part t (total_assigned d k) (map (load x) (members d)) m lawful reserve (rw (length-map-range_with_len (load x) 0 d.member_count) l) (one_le (members d) (load x) m loads) in
        let a = A_small in
        omega (arith, ints)

    -- what every weight of a member is within
    abbrev pub reach : ℕ → ℤ
    reach m = at (obligations t d k x) m +ℤ (sold m +ℤ bought m)

    pub total_reach : sum (members d) reach ≤ℤ pos 72000000
    unfolding obligations
    total_reach =
        let a = A_small in
        let e = sum_plus (members d) (at (obligations t d k x)) (λ m. sold m +ℤ bought m) in
        let f = sum_plus (members d) sold bought in
        let g = allocated_all t d (total_assigned d k) (map (load x) (members d)) lawful reserve (length-map-range_with_len (load x) 0 d.member_count) in
        let h = b.trades in
        let s = sum_swap (members d) (members d) (λ other m. pos (q other m)) in
        linear (sum (members d) reach) (sum (members d) (at (obligations t d k x))) (sum (members d) (λ m. sold m +ℤ bought m)) (sum (members d) sold) (sum (members d) bought) (total_assigned d k) e f g h (sym s) a
      where
        linear : (r o sb s p A : ℤ) → r ≡ o +ℤ sb → sb ≡ s +ℤ p → o ≡ A → s ≤ℤ pos 32000000 → p ≡ s → A ≤ℤ pos 8000000 → r ≤ℤ pos 72000000
        linear r o sb s p A e f g h i a = omega (arith, ints)

    weighed : (a : ℤ) (f : ℕ → ℤ) (α : ℕ) → pos 0 ≤ℤ a → a ≤ℤ pos α → α * 72000000 ≤ 4000000000000000000
        → ((m : ℕ) → m < d.member_count → pos (nat_abs (f m)) ≤ℤ reach m) → pos 0 <ℤ sum (members d) f → Admissible a (map f (members d))
    weighed a f α h k p w l =
        let few = b.day.few_members in
        let n = length-map-range_with_len f 0 d.member_count in
        let size = magnitude_le (members d) f reach (each_member (λ m. pos (nat_abs (f m)) ≤ℤ reach m) w) in
        let most = total_reach in
        admissible a (map f (members d)) α 72000000 (omega arith) h k (omega (arith, ints)) (lit≤ tt) p l

    pub adjusted_size : (m : ℕ) → m < d.member_count → pos (nat_abs (adjusted_obligation_of t d k x q m)) ≤ℤ reach m
    unfolding adjusted_obligation_of net_sales
    adjusted_size m l = linear (at (obligations t d k x) m) (sold m) (bought m) (obligation_above m l) (sold_above m) (bought_above m)
      where
        linear : (o s p : ℤ) → pos 0 ≤ℤ o → pos 0 ≤ℤ s → pos 0 ≤ℤ p → pos (nat_abs (o +ℤ (s -ℤ p))) ≤ℤ (o +ℤ (s +ℤ p))
        linear o s p ho hs hp = omega (arith, ints)

    pub purchase_size : (m : ℕ) → m < d.member_count → pos (nat_abs (purchase t d k x q m)) ≤ℤ reach m
    unfolding purchase adjusted_obligation_of net_sales
    purchase_size m l =
        weight_size false (at (obligations t d k x) m) (sold m) (bought m) (own d m (delivered d k)) (obligation_above m l) (sold_above m) (bought_above m)
        (sum_above (owned d m (resources d)) (delivered d k) (everywhere (λ r. pos 0 ≤ℤ delivered d k r) (λ r. (delivered_bounds r).0) (owned d m (resources d))))

    pub purchase_above : (m : ℕ) → pos 0 ≤ℤ purchase t d k x q m
    unfolding purchase
    purchase_above m = floored_above (adjusted_obligation_of t d k x q m -ℤ own d m (delivered d k))

    pub refund_weight_size : (m : ℕ) → m < d.member_count → pos (nat_abs (refund_weight t d k x q m)) ≤ℤ reach m
    unfolding refund_weight adjusted_obligation_of net_sales
    refund_weight_size m l =
        weight_size (is_refunding t d m) (at (obligations t d k x) m) (sold m) (bought m) (own d m (delivered_tier_one d k)) (obligation_above m l) (sold_above m) (bought_above m)
        (sum_above (owned d m (resources d)) (delivered_tier_one d k) (everywhere (λ r. pos 0 ≤ℤ delivered_tier_one d k r) (λ r. tier_one_above r) (owned d m (resources d))))

    pub refund_weight_above : (m : ℕ) → pos 0 ≤ℤ refund_weight t d k x q m
    unfolding refund_weight
    refund_weight_above m = not_over (is_refunding t d m) (adjusted_obligation_of t d k x q m -ℤ own d m (delivered_tier_one d k))

    -- ---- the three that are paid by weights of members

    by_adjusted : (a : ℤ) (α : ℕ) → pos 0 ≤ℤ a → a ≤ℤ pos α → α * 72000000 ≤ 4000000000000000000 → pos 0 <ℤ total_assigned d k → Admissible a (adjusted_obligations t d k x q)
    by_adjusted a α h l p s = weighed a (adjusted_obligation_of t d k x q) α h l p adjusted_size (rw (total_adjusted t d k x q lawful reserve) s)

    pub clearing : Allocable (total_clearing d k x) (adjusted_obligations t d k x q)
    clearing = elim (zero_or_above (total_clearing d k x) C_above) [
      | inl z ↦ inl z
      | inr h ↦
          let s = C_scaled in
          let a = A_small in
          inr (by_adjusted (total_clearing d k x) 3200000000 C_above (omega (arith, ints)) (lit≤ tt) (omega (arith, ints)))
    ]

    pub opportunity_costs : Allocable (total_opportunity_cost d k x) (buyers t d k x q)
    opportunity_costs = elim (zero_or_above (total_opportunity_cost d k x) O_above) [
      | inl z ↦ inl z
      | inr h ↦ inr (by h (all_zero (map (purchase t d k x q) (members d))) refl)
    ]
      where
        by : pos 0 <ℤ total_opportunity_cost d k x → (e : Bool) → all_zero (map (purchase t d k x q) (members d)) ≡ e → Admissible (total_opportunity_cost d k x) (cond e (adjusted_obligations t d k x q) (map (purchase t d k x q) (members d)))
        by h true e =
            let s = O_scaled in
            by_adjusted (total_opportunity_cost d k x) 8000000000 O_above O_small (lit≤ tt) (omega (arith, ints))
        by h false e =
            weighed (total_opportunity_cost d k x) (purchase t d k x q) 8000000000 O_above O_small (lit≤ tt) purchase_size
            (not_all_zero (members d) (purchase t d k x q) (everywhere (λ m. pos 0 ≤ℤ purchase t d k x q m) purchase_above (members d)) e)

    pub R_above : pos 0 ≤ℤ total_refund t d k
    unfolding total_refund
    R_above = sum_above (resources d) (refund_part t d k) (each_resource (λ r. pos 0 ≤ℤ refund_part t d k r) (λ r l. (part_bounds d b.day t k r lawful b.hour l).0))

    pub R_small : total_refund t d k ≤ℤ pos 32000000000
    unfolding total_refund
    R_small =
        let s = sum_below (resources d) (refund_part t d k) 2000000000 (each_resource (λ r. refund_part t d k r ≤ℤ pos 2000000000) (λ r l. (part_bounds d b.day t k r lawful b.hour l).1)) in
        let n = length-range_with_len 0 (length d.roll) in
        let f = b.day.few_resources in
        omega (arith, ints)

    -- the obligations by their places
    obligations_are : obligations t d k x ≡ map (at (obligations t d k x)) (members d)
    unfolding obligations
    obligations_are = fill_by_all (at (obligations t d k x)) (obligations t d k x) d.member_count (pos 0) (allocated_length t (total_assigned d k) (map (load x) (members d)) lawful reserve ∙ length-map-range_with_len (load x) 0 d.member_count) (λ m l. refl)

    by_obligations : all_zero (obligations t d k x) ≡ false → Admissible (total_refund t d k) (obligations t d k x)
    by_obligations e =
        subst (λ (ws : List ℤ). Admissible (total_refund t d k) ws) (sym obligations_are)
        (weighed (total_refund t d k) (at (obligations t d k x)) 32000000000 R_above R_small (lit≤ tt)
        (λ m l. linear (at (obligations t d k x) m) (sold m) (bought m) (obligation_above m l) (sold_above m) (bought_above m))
        (not_all_zero (members d) (at (obligations t d k x)) (each_member (λ m. pos 0 ≤ℤ at (obligations t d k x) m) obligation_above) (sym (ap all_zero obligations_are) ∙ e)))
      where
        linear : (o s p : ℤ) → pos 0 ≤ℤ o → pos 0 ≤ℤ s → pos 0 ≤ℤ p → pos (nat_abs o) ≤ℤ (o +ℤ (s +ℤ p))
        linear o s p ho hs hp = omega (arith, ints)

    -- where there is a member for what is refunded
    pub refunds : (pos 0 <ℤ total_refund t d k → all_zero (payees t d k x q) ≡ false) → Allocable (total_refund t d k) (payees t d k x q)
    refunds payable = elim (zero_or_above (total_refund t d k) R_above) [
      | inl z ↦ inl z
      | inr h ↦ inr (by (all_zero (map (refund_weight t d k x q) (members d))) refl (payable h))
    ]
      where
        by : (e : Bool) → all_zero (map (refund_weight t d k x q) (members d)) ≡ e → all_zero (cond e (obligations t d k x) (map (refund_weight t d k x q) (members d))) ≡ false
            → Admissible (total_refund t d k) (cond e (obligations t d k x) (map (refund_weight t d k x q) (members d)))
        by true e f = by_obligations f
        by false e f =
            weighed (total_refund t d k) (refund_weight t d k x q) 32000000000 R_above R_small (lit≤ tt) refund_weight_size
            (not_all_zero (members d) (refund_weight t d k x q) (everywhere (λ m. pos 0 ≤ℤ refund_weight t d k x q m) refund_weight_above (members d)) e)

  module _ (t : Meaning) (lawful : Lawful t) (accepted : unsettleable t d k x q ≡ false) where
    pub loaded : pos 0 <ℤ total_assigned d k → pos 0 <ℤ total_load d x
    unfolding unsettleable
    loaded h = not_zero (total_load d x) T_above ((not_both (lt_z (pos 0) (total_assigned d k)) (is_zero (total_load d x)) (lt_z (pos 0) (total_refund t d k)) (all_zero (payees t d k x q)) accepted).0 (above_test _ h))

    pub payable : pos 0 <ℤ total_refund t d k → all_zero (payees t d k x q) ≡ false
    unfolding unsettleable
    payable h = (not_both (lt_z (pos 0) (total_assigned d k)) (is_zero (total_load d x)) (lt_z (pos 0) (total_refund t d k)) (all_zero (payees t d k x q)) accepted).1 (above_test _ h)

    pub none_refused : NoneRefused t d k x q
    none_refused = record {
      shortfalls = all_shortfalls_accepted d b.day;
      day_refunds = λ r l. refunds_accepted d b.day t r lawful l;
      reserve = reserve t lawful loaded;
      clearing = clearing t lawful loaded;
      opportunity_costs = opportunity_costs t lawful loaded;
      refunds = refunds t lawful loaded payable;
    }
