-- What every allocation rule answers, and what its shares are.
use Rattle.std.specs.Prelude.{◌≡◌, ℕ, ◌<◌, ◌⊎◌, List, length, ℤ, pos, ◌-ℤ◌, ◌*ℤ◌, ◌<ℤ◌, Ok, Err, Result, slice_index_or, unsigned_abs}
use Rattle.allocation.specs.declared.refusal.AllocationRefusal.{AllocationRefusal}
use Rattle.allocation.specs.Weights.{total}
use Rattle.allocation.specs.Rounding.{floor, ceiling}

-- what a rule answers and leaves in the places, by the verdict: the shares, or the refusal and the places as before
abbrev pub Allocated : Result ℤ AllocationRefusal → Result (Unit {0}) AllocationRefusal → List ℤ → List ℤ → List ℤ → Type 0
Allocated (Ok w) answer before after shares = (answer ≡ Ok tt) × (after ≡ shares)
Allocated (Err e) answer before after shares = (answer ≡ Err e) × (after ≡ before)

-- x ÷ w taken down or up to a whole number
abbrev pub Rounded : ℤ → ℤ → ℤ → Type 0
Rounded share x w = (share ≡ floor x w) ⊎ (share ≡ ceiling x w)

-- each share is amount × weight ÷ the sum of the weights, taken down or up to a whole number
abbrev pub EachRounded : ℤ → List ℤ → List ℤ → Type 0
EachRounded amount weights shares =
    (k : ℕ) → k < length weights → Rounded (slice_index_or shares k (pos 0)) (amount *ℤ slice_index_or weights k (pos 0)) (total weights)

-- |share × w − x| < w: the share is off x ÷ w by less than one
abbrev pub Close : ℤ → ℤ → ℤ → Type 0
Close share x w = pos (unsigned_abs (share *ℤ w -ℤ x)) <ℤ w

-- each share is off amount × weight ÷ the sum of the weights by less than one
abbrev pub EachClose : ℤ → List ℤ → List ℤ → Type 0
EachClose amount weights shares =
    (k : ℕ) → k < length weights → Close (slice_index_or shares k (pos 0)) (amount *ℤ slice_index_or weights k (pos 0)) (total weights)
