use Rattle.std.proofs.Common.{◌≡◌, ℕ, ◌<◌, cond, length, take, pos}
use lib.Signed.{lt_z}
use Rattle.settlement.specs.Sums.{at, largest}
use Rattle.settlement.specs.Shortfalls.{counts, minutes_in, shortfall}
use Rattle.settlement.specs.Figures.{the_day}
use Rattle.refunds.proofs.rows.EventShortfalls.largest_shortfalls.Given as goal

abbrev pub invariant-loop-event : goal.invariant-loop-event
invariant-loop-event l =
    (r : ℕ) → r < length (the_day l.self.tables.now).roll →
    at l.largest r ≡ largest (take (length l.yielded) (the_day l.self.tables.now).closed) (λ e. cond (counts e) (cond (lt_z (pos 0) (minutes_in e l.hour.place)) (shortfall (the_day l.self.tables.now) e r) (pos 0)) (pos 0))
