use Rattle.std.proofs.Common.{◌≡◌, ◌≤◌, map, length}
use Rattle.std.specs.List.{range_with_len}
use Rattle.settlement.specs.Sums.{at}
use Rattle.settlement.specs.Days.{owned}
use Rattle.settlement.specs.Figures.{the_day}
use Rattle.refunds.proofs.owners.gather.Given as goal

abbrev pub invariant-loop-place : goal.invariant-loop-place
invariant-loop-place l =
    (length l.own ≤ l.place) ×
    (l.own ≡ map (at l.figures) (owned (the_day l.owner.tables.now) l.owner.member (range_with_len 0 l.place)))
