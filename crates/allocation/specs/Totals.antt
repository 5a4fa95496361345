-- Sums of integers.
use Rattle.std.specs.Prelude.{◌≡◌, ℕ, zero, suc, ◌+◌, ◌<◌, List, [], ◌∷◌, ◌++◌, length, take, ℤ, pos, ◌+ℤ◌, ◌-ℤ◌, slice_index_or, slice_set}
use Rattle.std.proofs.Common.{ap, ◌∙◌, arith}
use Rattle.std.proofs.lemmas.Int.{ints}
use Rattle.std.proofs.lemmas.List.{take_more}
use Rattle.allocation.specs.Weights.{total}

pub total_push : (xs : List ℤ) (x : ℤ) → total (xs ++ x ∷ []) ≡ total xs +ℤ x
total_push [] x = omega (arith, ints)
total_push (y ∷ ys) x = let h = total_push ys x in omega (arith, ints)

pub total_more : (xs : List ℤ) (k : ℕ) → k < length xs → total (take (k + 1) xs) ≡ total (take k xs) +ℤ slice_index_or xs k (pos 0)
total_more xs k l = ap total (take_more xs k (pos 0) l) ∙ total_push (take k xs) (slice_index_or xs k (pos 0))

pub total_set : (xs : List ℤ) (k : ℕ) (v : ℤ) → k < length xs → total (slice_set xs k v) ≡ total xs +ℤ (v -ℤ slice_index_or xs k (pos 0))
total_set [] k v l = absurd (omega arith)
total_set (x ∷ xs) zero v l = omega (arith, ints)
total_set (x ∷ xs) (suc k) v l = let h = total_set xs k v (omega arith) in omega (arith, ints)
