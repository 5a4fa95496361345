use Rattle.std.proofs.Common.{◌-ℤ◌}
use Rattle.allocation.specs.Remainders.{Serving}
use Rattle.allocation.proofs.rule.Examined.write_shares.Given as goal

abbrev pub invariant-loop : goal.invariant-loop
invariant-loop l = Serving l.self.amount l.self.weights.now (l.left -ℤ l.counter) l.shares l.keys
