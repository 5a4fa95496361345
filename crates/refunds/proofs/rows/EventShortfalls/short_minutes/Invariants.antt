use Rattle.std.proofs.Common.{◌≡◌, ◌*◌, ◌≤◌, cond, length, take, pos}
use lib.Signed.{lt_z}
use Rattle.settlement.specs.Sums.{sum}
use Rattle.settlement.specs.Shortfalls.{counts, shortfall, minutes_in}
use Rattle.settlement.specs.Figures.{the_day}
use Rattle.refunds.proofs.rows.EventShortfalls.short_minutes.Given as goal

abbrev pub invariant-loop-event : goal.invariant-loop-event
invariant-loop-event l =
    (pos l.minutes ≡ sum (take (length l.yielded) (the_day l.self.tables.now).closed) (λ e. cond (counts e) (cond (lt_z (pos 0) (shortfall (the_day l.self.tables.now) e l.resource)) (minutes_in e l.hour) (pos 0)) (pos 0))) ×
    (l.minutes ≤ length l.yielded * 60)
