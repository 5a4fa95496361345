use Rattle.std.proofs.Common.{arith}
use Rattle.std.proofs.lemmas.Int.{ints}
use Rattle.allocation.specs.Verdicts.{total_size}
use Rattle.allocation.proofs.rule.Examined.owed.Goals as goal

pub divide_half_up-requires-clause-light : goal.divide_half_up-requires-clause-light
divide_half_up-requires-clause-light c =
    let s = c.args.self.now in
    let l = s.passed.light in
    let z = total_size s.weights.now in
    let e = s.sum in
    omega (arith, ints)
