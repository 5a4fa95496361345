use Rattle.std.proofs.Common.{◌≡◌, ◌≤◌, take, count_by}
use Rattle.hours.proofs.settled.SettledHours.clear_all.Given as goal

abbrev pub invariant-loop-settled : goal.invariant-loop-settled
invariant-loop-settled l = (l.cleared ≡ count_by (λ b. b) (take l.settled-index l.settled-items)) × (l.cleared ≤ l.settled-index)
