-- Largest values over the first events.
use Rattle.std.proofs.Common.{◌≡◌, ℕ, ◌+◌, ◌<◌, ◌≤◌, Bool, true, false, cond, List, [], ◌∷◌, ◌++◌, length, get_or, take, ℤ, pos, filter, sym, refl, ap, ◌∙◌, arith}
use Rattle.std.specs.Int.{int_max}
use Rattle.std.proofs.lemmas.Int.{ints, clamps}
use Rattle.std.proofs.lemmas.List.{take_more, take_all}
use Rattle.settlement.specs.Sums.{largest}
use Rattle.settlement.proofs.Bounds.{largest_above}

largest_push : {X : Type 0} (xs : List X) (y : X) (f : X → ℤ) → largest (xs ++ y ∷ []) f ≡ int_max (f y) (largest xs f)
largest_push [] y f = refl
largest_push (x ∷ xs) y f = let h = largest_push xs y f in omega (arith, ints, clamps)

-- one more of a front
largest_more : {X : Type 0} (xs : List X) (f : X → ℤ) (i : ℕ) (d : X) → i < length xs → largest (take (i + 1) xs) f ≡ int_max (f (get_or xs i d)) (largest (take i xs) f)
largest_more {X} xs f i d l = ap (λ (ys : List X). largest ys f) (take_more xs i d l) ∙ largest_push (take i xs) (get_or xs i d) f

-- what is not kept counts as zero
pub largest_kept : {X : Type 0} (p : X → Bool) (xs : List X) (f : X → ℤ) → largest (filter p xs) f ≡ largest xs (λ x. cond (p x) (f x) (pos 0))
largest_kept p [] f = refl
largest_kept p (x ∷ xs) f = by (p x) (largest_kept p xs f)
  where
    by : (b : Bool) → largest (filter p xs) f ≡ largest xs (λ x. cond (p x) (f x) (pos 0)) → largest (cond b (x ∷ filter p xs) (filter p xs)) f ≡ int_max (cond b (f x) (pos 0)) (largest xs (λ x. cond (p x) (f x) (pos 0)))
    by true h = ap (int_max (f x)) h
    by false h = let a = largest_above xs (λ x. cond (p x) (f x) (pos 0)) in h ∙ omega (arith, ints, clamps)

-- a loop's step: the largest so far is raised to the value of the next element, or that is zero
pub raised : {X : Type 0} (xs : List X) (f : X → ℤ) (i j : ℕ) (d x : X) (v w z : ℤ) → i < length xs → x ≡ get_or xs i d → j ≡ i + 1 → z ≡ int_max v w → v ≡ f x → w ≡ largest (take i xs) f → z ≡ largest (take j xs) f
raised {X} xs f i j d x v w z l is next e p q = let m = largest_more xs f i d l in let n = ap (λ (k : ℕ). largest (take k xs) f) next in let g = ap f is in cc

pub not_raised : {X : Type 0} (xs : List X) (f : X → ℤ) (i j : ℕ) (d x : X) (z : ℤ) → i < length xs → x ≡ get_or xs i d → j ≡ i + 1 → f x ≡ pos 0 → z ≡ largest (take i xs) f → z ≡ largest (take j xs) f
not_raised {X} xs f i j d x z l is next e q =
    let m = largest_more xs f i d l in
    let a = largest_above (take i xs) f in
    let n = ap (λ (k : ℕ). largest (take k xs) f) next in
    let g = ap f is in
    omega (arith, ints, clamps)

-- and its end
pub largest_all : {X : Type 0} (p : X → Bool) (xs : List X) (f : X → ℤ) (i : ℕ) (z : ℤ) → length xs ≤ i → z ≡ largest (take i xs) (λ x. cond (p x) (f x) (pos 0)) → z ≡ largest (filter p xs) f
largest_all {X} p xs f i z l h = h ∙ ap (λ (us : List X). largest us (λ x. cond (p x) (f x) (pos 0))) (take_all i xs l) ∙ sym (largest_kept p xs f)
