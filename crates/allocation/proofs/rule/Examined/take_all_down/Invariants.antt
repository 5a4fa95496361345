use Rattle.allocation.specs.Remainders.{Lowering}
use Rattle.allocation.proofs.rule.Examined.take_all_down.Given as goal

abbrev pub invariant-loop-place : goal.invariant-loop-place
invariant-loop-place l = Lowering l.self.amount l.self.whole l.self.weights.now l.place l.left l.shares l.keys
