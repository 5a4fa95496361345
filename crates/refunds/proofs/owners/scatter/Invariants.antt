use Rattle.std.proofs.Common.{◌≡◌, ◌≤◌, cond, length}
use Rattle.std.specs.List.{range_with_len}
use Rattle.settlement.specs.Sums.{at}
use Rattle.settlement.specs.Days.{owns, owned}
use Rattle.settlement.specs.Figures.{the_day}
use Rattle.refunds.specs.Rows.{own_share}
use Rattle.refunds.proofs.Places.{Filled}
use Rattle.refunds.proofs.owners.scatter.Given as goal

abbrev pub invariant-loop-place : goal.invariant-loop-place
invariant-loop-place l =
    (l.next ≡ length (owned (the_day l.owner.tables.now) l.owner.member (range_with_len 0 l.place))) ×
    (l.next ≤ l.place) ×
    Filled (λ r. cond (owns (the_day l.owner.tables.now) l.owner.member r) (own_share (the_day l.owner.tables.now) l.owner.member l.shares r) (at l.initial.out r))
    (at l.initial.out) l.place l.out
