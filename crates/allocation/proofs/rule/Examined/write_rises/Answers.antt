use Rattle.std.proofs.Common.{ℕ, ◌+◌, ◌<◌, ◌≤◌, List, length, get_or, ℤ, pos, ◌+ℤ◌, nat_abs, refl, ◌∙◌, arith, w64, SFits, rules}
use Rattle.std.proofs.lemmas.Int.{ints, to_z-of_z}
use Rattle.std.proofs.lemmas.List.FromFn.{fill_by_all}
use Rattle.allocation.specs.Weights.{magnitude}
use Rattle.allocation.specs.Cumulative.{rise}
use Rattle.allocation.specs.Totals.{total_more}
use Rattle.allocation.specs.Figures.{figure_none, turn_in_place, TurnedInPlace}
use Rattle.allocation.specs.Verdicts.{admitted, front_size, product_size}
use Rattle.allocation.proofs.rule.Examined.write_rises.Goals as goal

-- the sum after this turn's weight is small
on : (a : ℤ) (ws out : List ℤ) (i : ℕ) (s f : ℤ) → i < length ws → TurnedInPlace a ws out i s f → nat_abs (s +ℤ get_or out i (pos 0)) ≤ magnitude ws
on a ws out i s f l t =
    let e = t.turned.sum_on in
    let x = t.waiting i (omega arith) in
    let m = total_more ws i l in
    let h = front_size ws (i + 1) in
    omega (arith, ints)

pub copy_from_slice-requires : goal.copy_from_slice-requires
copy_from_slice-requires c = (admitted _ _ _ _ c.requires).places

pub loop-place-init : goal.loop-place-init
loop-place-init c = (
  record {
    turned = record { sum_on = refl; figure_on = figure_none c.args.self.now.amount c.args.self.now.weights.now c.args.self.now.passed.above; written = λ k l. absurd (omega arith) };
    waiting = λ k l. cc;
  },
  omega arith,
)

pub overflow_add-sum : goal.overflow_add-sum
overflow_add-sum c =
    let s = c.args.self.now in
    let n = (admitted _ _ _ _ c.requires).places in
    let h = on _ s.weights.now _ c.loop-place.place-index _ _ (omega arith) c.loop-place.invariant.0 in
    let l = s.passed.light in
    let fx : SFits w64 (get_or c.loop-place.out c.loop-place.place-index (pos 0)) = search rules in
    omega (arith, ints)

pub owed-figure-requires : goal.owed-figure-requires
owed-figure-requires c =
    let s = c.args.self.now in
    let n = (admitted _ _ _ _ c.requires).places in
    let l = s.passed.light in
    let fx : SFits w64 (get_or c.loop-place.out c.loop-place.place-index (pos 0)) = search rules in
    let h = on _ s.weights.now _ c.loop-place.place-index _ _ (omega arith) c.loop-place.invariant.0 in
    product_size _ s.weights.now _ s.passed (omega (arith, ints))

pub loop-place-preserved : goal.loop-place-preserved
loop-place-preserved c =
    let s = c.args.self.now in
    let n = (admitted _ _ _ _ c.requires).places in
    let fx : SFits w64 (get_or c.loop-place.out c.loop-place.place-index (pos 0)) = search rules in
    let r : SFits w64 c.owed-figure.result = omega (arith, ints) in
    let v = to_z-of_z w64 c.owed-figure.result r ∙ c.owed-figure.ensures.value in
    let h = on _ s.weights.now _ c.loop-place.place-index _ _ (omega arith) c.loop-place.invariant.0 in
    let l = s.passed.light in
    (turn_in_place _ _ _ _ _ _ _ _ _ _ s.sum (omega arith) (omega arith) (omega (arith, ints)) v (omega (arith, ints)) c.loop-place.invariant.0, omega (arith, ints))

pub returns : goal.returns
returns c =
    let ws = c.args.self.now.weights.now in
    let n = (admitted _ _ _ _ c.requires).places in
    let w = c.loop-place.invariant.0.turned.written in
    fill_by_all (rise _ ws) c.loop-place.out (length ws) (pos 0) (omega arith) (λ k l. w k (omega arith))
