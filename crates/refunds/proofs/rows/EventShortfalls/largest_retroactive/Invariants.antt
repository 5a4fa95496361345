use Rattle.std.proofs.Common.{◌≡◌, ℕ, ◌<◌, cond, length, take, pos}
use Rattle.settlement.specs.Sums.{at, largest}
use Rattle.settlement.specs.Shortfalls.{counts, retroactive_shortfall}
use Rattle.settlement.specs.Figures.{the_day}
use Rattle.refunds.proofs.rows.EventShortfalls.largest_retroactive.Given as goal

abbrev pub invariant-loop-event : goal.invariant-loop-event
invariant-loop-event g l =
    (r : ℕ) → r < length (the_day l.self.tables.now).roll →
    at l.largest r ≡ largest (take (length l.yielded) (the_day l.self.tables.now).closed) (λ e. cond (counts e) (retroactive_shortfall (g.R.AllocationRule.shares l.rule) (the_day l.self.tables.now) r e) (pos 0))
