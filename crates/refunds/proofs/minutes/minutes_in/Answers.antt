use Rattle.std.proofs.Common.{arith}
use Rattle.std.proofs.lemmas.Int.{ints}
use Rattle.settlement.specs.Shortfalls.{minutes_in}
use Rattle.refunds.proofs.minutes.minutes_in.Goals as goal

pub returns : goal.returns
unfolding minutes_in
returns c = let first = rw c.unwrap-first.ensures at c.try_from.ensures in omega (arith, ints, first)
