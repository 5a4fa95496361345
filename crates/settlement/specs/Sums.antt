-- Sums, largest values and allocated amounts.
use Rattle.std.specs.Prelude.{ℕ, Bool, true, cond, ◌&&◌, List, [], ◌∷◌, map, ℤ, pos, ◌==◌, slice_index_or, unsigned_abs}
use Rattle.std.specs.Int.{int_max}
use Rattle.allocation.specs.Weights.{total}
use Rattle.allocation.specs.Rounding.{half_up}

abbrev pub sum : {X : Type 0} → List X → (X → ℤ) → ℤ
sum xs f = total (map f xs)

-- the largest value, and zero at least
abbrev pub largest : {X : Type 0} → List X → (X → ℤ) → ℤ
largest [] f = pos 0
largest (x ∷ xs) f = int_max (f x) (largest xs f)

abbrev pub at_least_zero : ℤ → ℤ
at_least_zero z = int_max z (pos 0)

abbrev pub is_zero : ℤ → Bool
is_zero z = unsigned_abs z == 0

abbrev pub all_zero : List ℤ → Bool
all_zero [] = true
all_zero (x ∷ xs) = is_zero x && all_zero xs

-- the first weights, unless all of them are zero
abbrev pub or_else : List ℤ → List ℤ → List ℤ
or_else first second = cond (all_zero first) second first

abbrev pub at : List ℤ → ℕ → ℤ
at xs k = slice_index_or xs k (pos 0)

-- a product of kWh and cents per MWh, in cents, half up
abbrev pub per_thousand : ℤ → ℤ
per_thousand z = half_up z (pos 1000)

-- what a rule means: its shares of each amount over each list of weights
abbrev pub Meaning : Type 0
Meaning = ℤ → List ℤ → List ℤ

-- zeros if there is nothing to allocate, or else the rule's shares
unfoldable pub allocated : Meaning → ℤ → List ℤ → List ℤ
allocated t amount weights = cond (is_zero amount) (map (λ _. pos 0) weights) (t amount weights)
