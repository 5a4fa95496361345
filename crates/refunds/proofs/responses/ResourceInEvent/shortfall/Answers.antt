use Rattle.std.proofs.Common.{arith}
use Rattle.std.proofs.lemmas.Int.{ints, clamps}
use Rattle.settlement.specs.Shortfalls.{shortfall}
use Rattle.refunds.proofs.responses.ResourceInEvent.shortfall.Goals as goal

pub returns : goal.returns
unfolding shortfall
returns c = omega (arith, ints, clamps)
