use Rattle.std.proofs.Common.{ℕ, Bool, nat_eq, get_or, arith, rules}
use Rattle.std.proofs.lemmas.Int.{ints}
use Rattle.events.specs.Resources.{no_resource}
use Rattle.settlement.specs.Sums.{at}
use Rattle.settlement.proofs.Steps.{own_yes, own_no}
use Rattle.settlement.proofs.figures.own_sum.Goals as goal
use Rattle.settlement.proofs.figures.own_sum.Goals.{then-resource-member, else-resource-member}

pub loop-place-preserved : goal.loop-place-preserved
loop-place-preserved c =
    let p : ℕ → Bool = λ k. nat_eq (get_or c.args.resources.now k no_resource).owner c.args.member in
    let f = at c.args.figures.now in
    let n = c.loop-place.place in
    let s = c.requires.small n (search rules) in
    elim c.if-resource-member.branch [
      | then-resource-member w ↦ let e = own_yes p f n (search rules) in (omega (arith, ints, w.sum-is), omega (arith, ints, w.sum-is))
      | else-resource-member w ↦ let e = own_no p f n (search rules) in (omega (arith, ints, w.sum-is), omega (arith, ints, w.sum-is))
    ]
