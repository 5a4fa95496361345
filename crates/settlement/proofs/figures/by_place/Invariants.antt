use Rattle.std.proofs.Common.{◌≡◌, ◌<◌, ℕ, length, slice_index_or}
use Rattle.settlement.proofs.figures.by_place.Given as goal

abbrev pub invariant-loop-place : goal.invariant-loop-place
invariant-loop-place g l =
    (length l.slot-items ≡ l.fn.count)
    × ((k : ℕ) → k < l.fn.count → goal.F-pre g l.of k)
    × ((k : ℕ) → k < l.place → goal.F-post g l.of k (slice_index_or l.slot-items k l.fn.after))
