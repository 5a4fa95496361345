-- What a list of weights comes to.
use Rattle.std.specs.Prelude.{ℕ, ◌+◌, List, [], ◌∷◌, ℤ, pos, ◌+ℤ◌, unsigned_abs}

-- the sum
abbrev pub total : List ℤ → ℤ
total [] = pos 0
total (x ∷ xs) = x +ℤ total xs

-- the sum of the magnitudes
abbrev pub magnitude : List ℤ → ℕ
magnitude [] = 0
magnitude (x ∷ xs) = unsigned_abs x + magnitude xs
