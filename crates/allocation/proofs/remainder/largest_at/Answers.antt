use Rattle.std.proofs.Common.{arith}
use Rattle.allocation.specs.Remainders.{largest_is}
use Rattle.allocation.proofs.remainder.largest_at.Goals as goal

pub returns-clause-value : goal.returns-clause-value
returns-clause-value c =
    let i = c.loop-place.invariant in
    largest_is c.args.keys.now c.loop-place.best i.0 (λ j l. i.3 j (omega arith)) (λ j l. i.4 j (omega arith))
