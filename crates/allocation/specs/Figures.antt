-- Cumulative rounding keeps the laws of a rule.
use Rattle.std.specs.Prelude.{◌≡◌, ℕ, zero, suc, ◌+◌, ◌<◌, ◌≤◌, List, map, length, get_or, take, ℤ, pos, ◌+ℤ◌, ◌-ℤ◌, ◌*ℤ◌, ◌≤ℤ◌, ◌<ℤ◌, slice_index_or, slice_set}
use Rattle.std.proofs.Common.{sym, ap, subst, ◌∙◌, arith, add-one, get_or-set_other}
use Rattle.std.proofs.lemmas.Int.{ints}
use Rattle.std.proofs.Math.IntN.{zero-*ℤ, *ℤ-zero}
use Rattle.std.specs.List.{range_with_len}
use Rattle.std.proofs.lemmas.List.{take_all}
use Rattle.std.proofs.lemmas.List.Edits.{fill_by_more}
use Rattle.std.proofs.lemmas.List.FromFn.{get_or-map-range_with_len, take-map-range_with_len, map-range_with_len_more}
use Rattle.allocation.specs.Rounding.{half_up}
use Rattle.allocation.specs.Weights.{total}
use Rattle.allocation.specs.Rules.{Rounded, EachRounded}
use Rattle.allocation.specs.Cumulative.{figure, rise, cumulative, FirstShares}
use Rattle.allocation.specs.Products.{difference_times, times_sum}
use Rattle.allocation.specs.RoundingLemmas.{rounded_from_near, half_up_low, half_up_high, half_up_multiple}
use Rattle.allocation.specs.Totals.{total_push, total_more}

-- no weights are owed nothing
pub figure_none : (a : ℤ) (ws : List ℤ) → pos 0 <ℤ total ws → pos 0 ≡ figure a ws 0
unfolding figure
figure_none a ws h = half_up_multiple (pos 0) (total ws) h ∙ ap (λ (z : ℤ). half_up z (total ws)) (zero-*ℤ (total ws) ∙ sym (*ℤ-zero a))

-- all weights are owed the amount
pub figure_all : (a : ℤ) (ws : List ℤ) → pos 0 <ℤ total ws → figure a ws (length ws) ≡ a
unfolding figure
figure_all a ws h =
    ap (λ (z : List ℤ). half_up (a *ℤ total z) (total ws)) (take_all (length ws) ws (omega arith)) ∙ sym (half_up_multiple a (total ws) h)

rises_total : (a : ℤ) (ws : List ℤ) (k : ℕ) → total (map (rise a ws) (range_with_len 0 k)) ≡ figure a ws k -ℤ figure a ws 0
rises_total a ws zero = omega (arith, ints)
rises_total a ws (suc k) =
    let e = ap total (map-range_with_len_more (rise a ws) 0 k k (omega arith)) in
    let p = total_push (map (rise a ws) (range_with_len 0 k)) (rise a ws k) in
    let h = rises_total a ws k in
    let next : total (map (rise a ws) (range_with_len 0 (k + 1))) ≡ figure a ws (k + 1) -ℤ figure a ws 0 = omega (arith, ints) in
    subst (λ (n : ℕ). total (map (rise a ws) (range_with_len 0 n)) ≡ figure a ws n -ℤ figure a ws 0) (add-one k) next

pub first_shares : (a : ℤ) (ws : List ℤ) → pos 0 <ℤ total ws → FirstShares a ws (cumulative a ws)
first_shares a ws h k l =
    let e = ap total (take-map-range_with_len (rise a ws) 0 (length ws) k l) in
    let t = rises_total a ws k in
    let none = figure_none a ws h in
    omega (arith, ints)

pub cumulative_whole : (a : ℤ) (ws : List ℤ) → pos 0 <ℤ total ws → total (cumulative a ws) ≡ a
cumulative_whole a ws h =
    let t = rises_total a ws (length ws) in
    let none = figure_none a ws h in
    let all = figure_all a ws h in
    omega (arith, ints)

-- the products of `rise_rounded` as variables: `omega` would take each apart
step : (d p q t t' x w : ℤ) → d ≡ p -ℤ q → t' ≡ t +ℤ x
    → (pos 2 *ℤ p) ≤ℤ (pos 2 *ℤ t' +ℤ w) → (pos 2 *ℤ t') <ℤ (pos 2 *ℤ p +ℤ w)
    → (pos 2 *ℤ q) ≤ℤ (pos 2 *ℤ t +ℤ w) → (pos 2 *ℤ t) <ℤ (pos 2 *ℤ q +ℤ w)
    → (d <ℤ (x +ℤ w)) × (x <ℤ (d +ℤ w))
step d p q t t' x w e f pl ph ql qh = (omega (arith, ints), omega (arith, ints))

rise_rounded : (a : ℤ) (ws : List ℤ) (k : ℕ) → pos 0 <ℤ total ws → k < length ws → Rounded (rise a ws k) (a *ℤ slice_index_or ws k (pos 0)) (total ws)
unfolding figure
rise_rounded a ws k h l =
    let w = total ws in
    let x = get_or ws k (pos 0) in
    let t = a *ℤ total (take k ws) in
    let t' = a *ℤ total (take (k + 1) ws) in
    let e : t' ≡ t +ℤ a *ℤ x = ap (λ (z : ℤ). a *ℤ z) (total_more ws k l) ∙ times_sum a (total (take k ws)) x in
    let p = half_up t' w in
    let q = half_up t w in
    rounded_from_near (p -ℤ q) (a *ℤ x) w h
    (step ((p -ℤ q) *ℤ w) (p *ℤ w) (q *ℤ w) t t' (a *ℤ x) w (difference_times p q w) e
    (half_up_low t' w h) (half_up_high t' w h) (half_up_low t w h) (half_up_high t w h))

pub cumulative_rounded : (a : ℤ) (ws : List ℤ) → pos 0 <ℤ total ws → EachRounded a ws (cumulative a ws)
cumulative_rounded a ws h k l =
    rw (get_or-map-range_with_len (rise a ws) 0 (length ws) k k (pos 0) l (omega arith)) (rise_rounded a ws k h l)

-- one turn of the loop that writes the rises, at the numbers as the code has them
pub record Turned (a : ℤ) (ws out : List ℤ) (i : ℕ) (sum figure_now : ℤ) : Type 0 where
  pub sum_on : sum ≡ total (take i ws)
  pub figure_on : figure_now ≡ figure a ws i
  pub written : (k : ℕ) → k < i → slice_index_or out k (pos 0) ≡ rise a ws k

pub turn : (a w s s' f f' d : ℤ) (ws out : List ℤ) (i : ℕ) → w ≡ total ws → i < length ws → i < length out
    → s' ≡ s +ℤ slice_index_or ws i (pos 0) → f' ≡ half_up (a *ℤ s') w → d ≡ f' -ℤ f
    → Turned a ws out i s f → Turned a ws (slice_set out i d) (i + 1) s' f'
unfolding figure
turn a w s s' f f' d ws out i ew l lo es ef ed t =
    let sum : s' ≡ total (take (i + 1) ws) = es ∙ ap (λ (z : ℤ). z +ℤ slice_index_or ws i (pos 0)) t.sum_on ∙ sym (total_more ws i l) in
    let fig : f' ≡ figure a ws (i + 1) = ef ∙ ap (λ (z : ℤ). half_up (a *ℤ z) w) sum ∙ ap (half_up (a *ℤ total (take (i + 1) ws))) ew in
    let rose : d ≡ rise a ws i = ed ∙ ap (λ (z : ℤ). z -ℤ f) fig ∙ ap (λ (z : ℤ). figure a ws (i + 1) -ℤ z) t.figure_on in
    record {
      sum_on = sum;
      figure_on = fig;
      written = rw rose (fill_by_more (rise a ws) out i (pos 0) lo t.written);
    }

-- the same where the weights are written over: the places after the first i still hold them
pub record TurnedInPlace (a : ℤ) (ws out : List ℤ) (i : ℕ) (sum figure_now : ℤ) : Type 0 where
  pub turned : Turned a ws out i sum figure_now
  pub waiting : (k : ℕ) → i ≤ k → slice_index_or out k (pos 0) ≡ slice_index_or ws k (pos 0)

pub turn_in_place : (a w s s' f f' d : ℤ) (ws out : List ℤ) (i : ℕ) → w ≡ total ws → i < length ws → i < length out
    → s' ≡ s +ℤ slice_index_or out i (pos 0) → f' ≡ half_up (a *ℤ s') w → d ≡ f' -ℤ f
    → TurnedInPlace a ws out i s f → TurnedInPlace a ws (slice_set out i d) (i + 1) s' f'
turn_in_place a w s s' f f' d ws out i ew l lo es ef ed t =
    record {
      turned = turn a w s s' f f' d ws out i ew l lo (es ∙ ap (λ (z : ℤ). s +ℤ z) (t.waiting i (omega arith))) ef ed t.turned;
      waiting = λ k h. get_or-set_other out i k d (pos 0) (omega arith) ∙ t.waiting k (omega arith);
    }
