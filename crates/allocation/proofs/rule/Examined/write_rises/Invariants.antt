use Rattle.std.proofs.Common.{◌≤◌, nat_abs}
use Rattle.allocation.specs.Figures.{TurnedInPlace}
use Rattle.allocation.proofs.rule.Examined.write_rises.Given as goal

abbrev pub invariant-loop-place : goal.invariant-loop-place
invariant-loop-place l = TurnedInPlace l.self.amount l.self.weights.now l.out l.place-index l.sum l.before × (nat_abs l.before ≤ 4000000002000000000)
