use Rattle.std.proofs.Common.{◌≡◌, ℕ, ◌<◌, length}
use Rattle.settlement.specs.Sums.{at}
use Rattle.settlement.specs.Days.{resource}
use Rattle.settlement.specs.Shortfalls.{retroactive_shortfall}
use Rattle.settlement.specs.Figures.{the_day}
use Rattle.refunds.proofs.event.EventOfDay.retroactive_shortfalls.Given as goal

abbrev pub invariant-loop-member : goal.invariant-loop-member
invariant-loop-member g l =
    (r : ℕ) → r < length (the_day l.self.tables.now).roll → (resource (the_day l.self.tables.now) r).owner < l.member →
    at l.retroactive r ≡ retroactive_shortfall (g.R.AllocationRule.shares l.rule) (the_day l.self.tables.now) r l.self.event.now
