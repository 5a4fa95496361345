-- Keys of elements.
use Rattle.std.specs.Prelude.{◌≤◌, Bool, List, count_by}

-- no two elements have one key
abbrev pub Apart : {X K : Type 0} → (X → K → Bool) → List X → Type 0
Apart {X} {K} matches xs = (k : K) → count_by (λ x. matches x k) xs ≤ 1
