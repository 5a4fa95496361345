use Rattle.std.proofs.Common.{arith, rules}
use Rattle.std.proofs.lemmas.Int.{ints}
use Rattle.allocation.specs.Rounding.{floor, half_up}
use Rattle.allocation.specs.RoundingLemmas.{half_up_bound}
use Rattle.allocation.proofs.cumulative.divide_half_up.Goals as goal

pub returns-clause-value : goal.returns-clause-value
unfolding half_up floor
returns-clause-value c = search rules

pub returns-clause-bound : goal.returns-clause-bound
unfolding half_up floor
returns-clause-bound c =
    let b = half_up_bound c.args.x c.args.w 2000000000 c.requires.above c.requires.light in
    let e = returns-clause-value c in
    omega (arith, ints, e)
