use Rattle.std.proofs.Common.{◌≡◌, ℕ, ◌<◌, ◌≤◌, length, get_or, pos, ◌≤ℤ◌}
use Rattle.allocation.proofs.remainder.largest_at.Given as goal

abbrev pub invariant-loop-place : goal.invariant-loop-place
invariant-loop-place l =
    (l.best < length l.keys) × (l.best ≤ l.place) × (l.most ≡ get_or l.keys l.best (pos 0)) × ((j : ℕ) → j < l.place → get_or l.keys j (pos 0) ≤ℤ get_or l.keys l.best (pos 0))
    × ((j : ℕ) → j < l.place → get_or l.keys j (pos 0) ≡ get_or l.keys l.best (pos 0) → l.best ≤ j)
