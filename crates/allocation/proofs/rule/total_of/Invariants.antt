use Rattle.std.proofs.Common.{◌≡◌, take}
use Rattle.allocation.specs.Weights.{total}
use Rattle.allocation.proofs.rule.total_of.Given as goal

abbrev pub invariant-loop-w : goal.invariant-loop-w
invariant-loop-w l = l.sum ≡ total (take l.w-index l.weights)
