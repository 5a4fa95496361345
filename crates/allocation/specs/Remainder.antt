-- Largest remainder: each share is taken down, and the units left over go one each to the largest dropped fractions.
use Rattle.std.specs.Prelude.{◌≡◌, ℕ, zero, suc, ◌<◌, cond, ◌⊎◌, List, [], ◌∷◌, map, length, ℤ, pos, ◌+ℤ◌, ◌-ℤ◌, ◌*ℤ◌, ◌<ℤ◌, int_lt, slice_index_or, slice_set, unsigned_abs}
use Rattle.allocation.specs.Rounding.{floor}
use Rattle.allocation.specs.Weights.{total}

-- a share taken down
abbrev pub lower : ℤ → ℤ → ℤ → ℤ
lower amount w weight = floor (amount *ℤ weight) w

-- what it drops, in w-ths
abbrev pub dropped : ℤ → ℤ → ℤ → ℤ
dropped amount w weight = amount *ℤ weight -ℤ lower amount w weight *ℤ w

-- the place of the largest number, the earliest of equals
abbrev pub largest : List ℤ → ℕ
largest [] = 0
largest (x ∷ xs) = cond (int_lt x (slice_index_or xs (largest xs) x)) (suc (largest xs)) 0

-- n units, one each, to the places of the largest keys, earlier places first; a place that got one has key 0 from then on
abbrev pub hand_out : ℕ → List ℤ → List ℤ → List ℤ
hand_out zero shares keys = shares
hand_out (suc n) shares keys =
    hand_out n (slice_set shares (largest keys) (slice_index_or shares (largest keys) (pos 0) +ℤ pos 1)) (slice_set keys (largest keys) (pos 0))

-- the shares where the weights add up to w
abbrev pub by_remainder : ℤ → ℤ → List ℤ → List ℤ
by_remainder amount w weights =
    hand_out (unsigned_abs (amount -ℤ total (map (lower amount w) weights))) (map (lower amount w) weights) (map (dropped amount w) weights)

abbrev pub remainder : ℤ → List ℤ → List ℤ
remainder amount weights = by_remainder amount (total weights) weights

-- what the share at place k is, taken down, and what it then drops
abbrev pub lower_at : ℤ → List ℤ → ℕ → ℤ
lower_at amount weights k = lower amount (total weights) (slice_index_or weights k (pos 0))

abbrev pub dropped_at : ℤ → List ℤ → ℕ → ℤ
dropped_at amount weights k = dropped amount (total weights) (slice_index_or weights k (pos 0))

-- place i comes before place j: it dropped more, or as much and stands earlier
abbrev pub ComesBefore : ℤ → List ℤ → ℕ → ℕ → Type 0
ComesBefore amount weights i j =
    (dropped_at amount weights j <ℤ dropped_at amount weights i) ⊎ ((dropped_at amount weights j ≡ dropped_at amount weights i) × (i < j))

-- a share is taken up only if it dropped something, and a place that was taken up comes before each that was taken down
pub record LargestFirst (amount : ℤ) (weights shares : List ℤ) : Type 0 where
  pub down_or_up : (k : ℕ) → k < length weights
      → (slice_index_or shares k (pos 0) ≡ lower_at amount weights k)
      ⊎ ((slice_index_or shares k (pos 0) ≡ lower_at amount weights k +ℤ pos 1) × (pos 0 <ℤ dropped_at amount weights k))
  pub in_order : (i j : ℕ) → i < length weights → j < length weights
      → slice_index_or shares i (pos 0) ≡ lower_at amount weights i +ℤ pos 1
      → slice_index_or shares j (pos 0) ≡ lower_at amount weights j
      → ComesBefore amount weights i j
