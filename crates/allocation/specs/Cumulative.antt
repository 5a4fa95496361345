-- Cumulative rounding: the weights are taken together from the first on, and what they are owed together is rounded.
use Rattle.std.specs.Prelude.{◌≡◌, ℕ, ◌+◌, ◌≤◌, List, map, length, take, ℤ, ◌-ℤ◌, ◌*ℤ◌}
use Rattle.std.specs.List.{range_with_len}
use Rattle.allocation.specs.Rounding.{half_up}
use Rattle.allocation.specs.Weights.{total}

-- what the first k weights are owed together: amount × their sum ÷ the sum of all, half up
unfoldable pub figure : ℤ → List ℤ → ℕ → ℤ
figure amount weights k = half_up (amount *ℤ total (take k weights)) (total weights)

-- the share at place k, counted from 0: the rise of the figure at that weight
abbrev pub rise : ℤ → List ℤ → ℕ → ℤ
rise amount weights k = figure amount weights (k + 1) -ℤ figure amount weights k

abbrev pub cumulative : ℤ → List ℤ → List ℤ
cumulative amount weights = map (rise amount weights) (range_with_len 0 (length weights))

-- the first k shares together are the figure for k
abbrev pub FirstShares : ℤ → List ℤ → List ℤ → Type 0
FirstShares amount weights shares = (k : ℕ) → k ≤ length weights → total (take k shares) ≡ figure amount weights k
