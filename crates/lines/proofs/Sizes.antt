-- How large the figures of an hour are.
use Rattle.std.proofs.Common.{◌≡◌, ℕ, zero, suc, ◌*◌, ◌<◌, ◌≤◌, Bool, true, false, ◌&&◌, List, [], ◌∷◌, map, length, take, ℤ, pos, ◌+ℤ◌, ◌-ℤ◌, nat_abs, ◌≤ℤ◌, ◌<ℤ◌, sym, ap, ◌∙◌, arith, get_or-take}
use lib.Signed.{lt_z}
use Rattle.std.specs.List.{range_with_len}
use Rattle.std.proofs.lemmas.Int.{ints}
use Rattle.std.proofs.lemmas.List.{length-take}
use Rattle.std.proofs.lemmas.List.FromFn.{fill_by_all}
use Rattle.allocation.specs.Weights.{magnitude}
use Rattle.inputs.specs.declared.tables.Tables.{Tables}
use Rattle.settlement.specs.Sums.{sum, at, is_zero, Meaning}
use Rattle.settlement.specs.Days.{members, assigned, load}
use Rattle.settlement.specs.Settlement.{total_assigned, total_load, net_sales, obligations, adjusted_obligation_of}
use Rattle.settlement.specs.Laws.{Lawful, Allocable}
use Rattle.settlement.proofs.Sums.{sum_all, all_counting}
use Rattle.settlement.proofs.Steps.{small_at}
use Rattle.settlement.proofs.Bounds.{one_le, above_test}
use Rattle.settlement.proofs.Obligations.{at_members}
use Rattle.settlement.proofs.Refunds.{assigned_small}
use Rattle.settlement.proofs.Acceptance.{not_zero, T_above, each_member, sold_above, bought_above, reach, total_reach, reserve, obligation_above, obligation_small, adjusted_size}
use Rattle.settlement.proofs.Tables.{bounded, bounded_day}
use Rattle.settlement.specs.Figures.{First, Modest, Moderate, the_day, the_hour, the_sales}
use Rattle.lines.specs.Steps.{no_load, Shares}

-- ---- figures at places

-- figures within a bound
pub modest_by : (n b : ℕ) (xs : List ℤ) (f : ℕ → ℤ) → First n xs f → ((r : ℕ) → r < n → (pos 0 ≤ℤ f r) × (f r ≤ℤ pos b)) → b ≤ 1000000000000 → Modest n xs
modest_by n b xs f e h l r i = small_at (at xs r) (f r) b (e r i) (h r i).0 (h r i).1 l

pub moderate : (n : ℕ) (xs : List ℤ) → Modest n xs → Moderate n xs
moderate n xs h r i = omega (arith, h r i)

-- the magnitudes of few figures come to less than what a sum holds
pub magnitude_fits : (n : ℕ) (xs : List ℤ) → n ≤ 16 → Moderate n xs → magnitude (take n xs) ≤ 9223372036854775807
magnitude_fits n xs few h = let m = by n xs h in omega arith
  where
    by : (n : ℕ) (xs : List ℤ) → Moderate n xs → magnitude (take n xs) ≤ n * 16000000000000
    by zero xs h = omega arith
    by (suc n) [] h = omega arith
    by (suc n) (x ∷ xs) h = let first = h 0 (omega arith) in let rest = by n xs (λ k l. h (suc k) (omega arith)) in omega arith

-- a sum over places, by what stands there
pub sum_first : (n : ℕ) (xs : List ℤ) (f : ℕ → ℤ) → First n xs f → sum (range_with_len 0 n) (at xs) ≡ sum (range_with_len 0 n) f
sum_first n xs f h = sum_all (range_with_len 0 n) (at xs) f (all_counting (λ r. at xs r ≡ f r) 0 n (λ r l. h r (omega arith)))

-- the figures at the first n places, as a list
pub first_list : (n : ℕ) (xs : List ℤ) (f : ℕ → ℤ) → n ≤ length xs → First n xs f → take n xs ≡ map f (range_with_len 0 n)
first_list n xs f l h = fill_by_all f (take n xs) n (pos 0) (simp length-take (omega arith)) (λ k i. get_or-take n xs k (pos 0) i ∙ h k i)

-- a share by its place
pub share_at : (t : Tables) (xs ss : List ℤ) (m : ℕ) → Shares t xs ss → m < (the_day t).member_count → at xs m ≡ at ss m
share_at t xs ss m h l = sym (get_or-take (the_day t).member_count xs m (pos 0) l) ∙ ap (λ (zs : List ℤ). at zs m) h

-- ---- figures of the hour

pub other_false : (a b : Bool) → (a && b) ≡ false → a ≡ true → b ≡ false
other_false a b e f = grind arith

module _ (t : Tables) (k : ℕ) (h : k < 24) where
  pub assigned_bounds : (r : ℕ) → r < length (the_day t).roll → (pos 0 ≤ℤ assigned (the_day t) k r) × (assigned (the_day t) k r ≤ℤ pos 500000)
  assigned_bounds r l = (omega (arith, ints), assigned_small (the_day t) (bounded_day t) k r h l)

  module _ (s : Meaning) (lawful : Lawful s) (ok : no_load t k ≡ false) where
    pub carried : pos 0 <ℤ total_assigned (the_day t) k → pos 0 <ℤ total_load (the_day t) (the_hour t k)
    carried a =
        not_zero (total_load (the_day t) (the_hour t k)) (T_above (the_day t) k (the_hour t k) (the_sales t k) (bounded t k h))
        (other_false (lt_z (pos 0) (total_assigned (the_day t) k)) (is_zero (total_load (the_day t) (the_hour t k))) ok (above_test _ a))

    pub reserve_allocable : Allocable (total_assigned (the_day t) k) (map (load (the_hour t k)) (members (the_day t)))
    reserve_allocable = reserve (the_day t) k (the_hour t k) (the_sales t k) (bounded t k h) s lawful carried

    reach_small : (m : ℕ) → m < (the_day t).member_count → reach (the_day t) k (the_hour t k) (the_sales t k) (bounded t k h) s lawful carried m ≤ℤ pos 72000000
    reach_small m l =
        let d = the_day t in
        let b = bounded t k h in
        let f = reach d k (the_hour t k) (the_sales t k) b s lawful carried in
        let all = each_member d k (the_hour t k) (the_sales t k) b (λ m. pos 0 ≤ℤ f m) (λ m i.
        above _ _ _ (obligation_above d k (the_hour t k) (the_sales t k) b s lawful carried m i) (sold_above d k (the_hour t k) (the_sales t k) b m) (bought_above d k (the_hour t k) (the_sales t k) b m)) in
        let one = one_le (members d) f m all in
        let e = at_members d f m l in
        let most = total_reach d k (the_hour t k) (the_sales t k) b s lawful carried in
        within _ _ _ e one most
      where
        above : (o u v : ℤ) → pos 0 ≤ℤ o → pos 0 ≤ℤ u → pos 0 ≤ℤ v → pos 0 ≤ℤ (o +ℤ (u +ℤ v))
        above o u v a b c = omega (arith, ints)

        within : (a f s : ℤ) → a ≡ f → a ≤ℤ s → s ≤ℤ pos 72000000 → f ≤ℤ pos 72000000
        within a f s e l m = omega (arith, ints)

    pub owed_small : (m : ℕ) → m < (the_day t).member_count → nat_abs (at (obligations s (the_day t) k (the_hour t k)) m) ≤ 8000000
    owed_small m l =
        let a = obligation_above (the_day t) k (the_hour t k) (the_sales t k) (bounded t k h) s lawful carried m l in
        let b = obligation_small (the_day t) k (the_hour t k) (the_sales t k) (bounded t k h) s lawful carried m l in
        omega (arith, ints)

    pub net_small : (m : ℕ) → m < (the_day t).member_count → nat_abs (net_sales (the_day t) (the_sales t k) m) ≤ 72000000
    unfolding net_sales
    net_small m l =
        let d = the_day t in
        let b = bounded t k h in
        linear (at (obligations s d k (the_hour t k)) m) _ _ (obligation_above d k (the_hour t k) (the_sales t k) b s lawful carried m l)
        (sold_above d k (the_hour t k) (the_sales t k) b m) (bought_above d k (the_hour t k) (the_sales t k) b m) (reach_small m l)
      where
        linear : (o u v : ℤ) → pos 0 ≤ℤ o → pos 0 ≤ℤ u → pos 0 ≤ℤ v → (o +ℤ (u +ℤ v)) ≤ℤ pos 72000000 → nat_abs (u -ℤ v) ≤ 72000000
        linear o u v a b c e = omega (arith, ints)

    pub adjusted_small : (m : ℕ) → m < (the_day t).member_count → nat_abs (adjusted_obligation_of s (the_day t) k (the_hour t k) (the_sales t k) m) ≤ 72000000
    adjusted_small m l =
        let a = adjusted_size (the_day t) k (the_hour t k) (the_sales t k) (bounded t k h) s lawful carried m l in
        let b = reach_small m l in
        omega (arith, ints)
