-- The first place whose element passes a test.
use Rattle.std.proofs.Common.{◌≡◌, ℕ, ◌+◌, ◌<◌, ◌≤◌, Bool, true, false, not, cond, List, [], ◌∷◌, length, get_or, Some, None, count_by, refl, ap, arith}
use Rattle.std.specs.Prelude.{position}
use Rattle.std.specs.List.{prefix_len}
use Rattle.std.proofs.lemmas.Bool.Decides.{nat_tests}
use Rattle.std.proofs.lemmas.List.Sums.{sum_by-cons, prefix_len_stops}

-- how many elements stand before it
abbrev before : {X : Type 0} → (X → Bool) → List X → ℕ
before p xs = prefix_len (λ x. not (p x)) xs

found_before : {X : Type 0} (p : X → Bool) (xs : List X) (i : ℕ) → position p xs ≡ Some i → (before p xs < length xs) × (before p xs ≡ i)
found_before p xs i e = grind (arith, nat_tests)

-- the place answered is in the list and passes
pub place_some : {X : Type 0} (p : X → Bool) (xs : List X) (i : ℕ) → position p xs ≡ Some i → (i < length xs) × ((d : X) → p (get_or xs i d) ≡ true)
place_some p xs i e =
    let b = found_before p xs i e in
    (omega (arith, b.0, b.1), λ d. let s = prefix_len_stops (λ x. not (p x)) xs d b.0 in rw (← b.1) (grind (arith, s)))

none_pass : {X : Type 0} (p : X → Bool) (xs : List X) → length xs ≤ before p xs → count_by p xs ≡ 0
none_pass p [] l = refl
none_pass p (x ∷ xs) l = by (p x) refl (none_pass p xs)
  where
    by : (b : Bool) → p x ≡ b → (length xs ≤ before p xs → count_by p xs ≡ 0) → count_by p (x ∷ xs) ≡ 0
    by true e h = absurd (omega (arith, l, ap (λ (b : Bool). cond (not b) (1 + before p xs) 0) e))
    by false e h =
        let m = ap (λ (b : Bool). cond (not b) (1 + before p xs) 0) e in
        omega (arith, h (omega (arith, l, m)), sum_by-cons (λ y. cond (p y) 1 0) x xs, ap (λ (b : Bool). cond {A = ℕ} b 1 0) e)

-- where none is answered, none passes
pub place_missing : {X : Type 0} (p : X → Bool) (xs : List X) → position p xs ≡ None → count_by p xs ≡ 0
place_missing p xs e = none_pass p xs (grind (arith, nat_tests))
