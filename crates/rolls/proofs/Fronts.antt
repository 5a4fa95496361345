-- The first n elements of a list.
use Rattle.std.proofs.Common.{◌≡◌, ℕ, zero, suc, ◌+◌, ◌<◌, ◌≤◌, List, [], ◌∷◌, length, get_or, take, set, sum_by, refl, ap, ◌∙◌, inl, inr, arith}
use Rattle.std.proofs.lemmas.List.{length-set, length-take, get_or-set_same, get_or-set_other}
use Rattle.std.proofs.lemmas.List.Sums.{sum_by_more, sum_by-set}
use Rattle.std.proofs.lemmas.Bool.{cases_eq}

-- a write, and then the front
pub take_set_any : {X : Type 0} (n : ℕ) (xs : List X) (i : ℕ) (y : X) → take n (set xs i y) ≡ set (take n xs) i y
take_set_any zero xs i y = refl
take_set_any (suc n) [] i y = refl
take_set_any (suc n) (x ∷ xs) zero y = refl
take_set_any (suc n) (x ∷ xs) (suc i) y = ap (λ zs. x ∷ zs) (take_set_any n xs i y)

-- writing the element at j elsewhere leaves it at j
copied : {X : Type 0} (xs : List X) (i j : ℕ) (d : X) → j < length xs → get_or (set xs i (get_or xs j d)) j d ≡ get_or xs j d
copied xs i j d l = elim (cases_eq j i) [ inl e ↦ rw (← e, get_or-set_same) | inr h ↦ rw get_or-set_other ]

-- the last element over the one at i, and one fewer: every sum loses what stood at i
pub sum_removed : {X : Type 0} (f : X → ℕ) (xs : List X) (n m i : ℕ) (d e : X) → n ≡ m + 1 → i < n → n ≤ length xs → sum_by f (take m (set xs i (get_or xs m e))) + f (get_or (take n xs) i d) ≡ sum_by f (take n xs)
sum_removed f xs n m i d e is l within =
    let y = get_or xs m e in
    let ys = set xs i y in
    let m_in : m < length xs = omega arith in
    let m_still : m < length ys = omega (arith, length-set xs i y) in
    let i_in : i < length (take n xs) = omega (arith, length-take n xs) in
    let whole = ap (λ (k : ℕ). sum_by f (take k ys)) is ∙ sum_by_more f ys m e m_still in
    omega (arith, whole, ap f (copied xs i m e m_in), ap (sum_by f) (take_set_any n xs i y), sum_by-set f (take n xs) i y d i_in)
