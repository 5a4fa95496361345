use Rattle.std.proofs.Common.{◌+◌, arith}
use Rattle.std.proofs.lemmas.Int.{ints}
use Rattle.allocation.specs.Totals.{total_more}
use Rattle.allocation.specs.Verdicts.{front_size}
use Rattle.allocation.proofs.rule.total_of.Goals as goal

pub overflow_add-sum : goal.overflow_add-sum
overflow_add-sum c =
    let e = total_more c.args.weights.now c.loop-w.w-index c.loop-w-test.true in
    let h = front_size c.args.weights.now (c.loop-w.w-index + 1) in
    omega (arith, ints)

pub loop-w-preserved : goal.loop-w-preserved
loop-w-preserved c = let e = total_more c.args.weights.now c.loop-w.w-index c.loop-w-test.true in let f = overflow_add-sum c in omega (arith, ints)
