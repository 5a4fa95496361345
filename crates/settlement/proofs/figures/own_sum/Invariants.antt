use Rattle.std.proofs.Common.{◌≡◌, ◌*◌, ◌≤◌, nat_eq, get_or, unsigned_abs, filter}
use Rattle.std.specs.List.{range_with_len}
use Rattle.events.specs.Resources.{no_resource}
use Rattle.settlement.specs.Sums.{sum, at}
use Rattle.settlement.proofs.figures.own_sum.Given as goal

abbrev pub invariant-loop-place : goal.invariant-loop-place
invariant-loop-place l =
    (l.sum ≡ sum (filter (λ k. nat_eq (get_or l.resources k no_resource).owner l.member) (range_with_len 0 l.place)) (at l.figures))
    × (unsigned_abs l.sum ≤ l.place * 1000000000000)
