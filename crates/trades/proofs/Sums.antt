-- Sums over lists of any elements.
use Rattle.std.proofs.Common.{◌≡◌, ℕ, zero, suc, ◌+◌, ◌<◌, ◌≤◌, Bool, true, cond, not, ltb, List, [], ◌∷◌, map, length, get_or, take, drop, sum_by, count_by, sym, refl, ap, ◌∙◌, inl, inr, zero-add, add-one, arith}
use Rattle.std.specs.List.{range_with_len, flat_map, AllPass}
use Rattle.std.proofs.lemmas.List.FromFn.{sum_by-map-range_with_len_more}
use Rattle.std.proofs.lemmas.List.Sums.{sum_by-cons, sum_by-append, sum_by-take-drop, sum_by-drop_more, get_or-le-sum_by}
use Rattle.std.proofs.lemmas.Bool.{lt-ltb, cases_eq, cond-true}
use Rattle.std.proofs.lemmas.Bool.Decides.{nat_tests}

-- the sum of what is a sum at each element
pub sum_split : {X : Type 0} (f g h : X → ℕ) → ((x : X) → f x ≡ g x + h x) → (xs : List X) → sum_by f xs ≡ sum_by g xs + sum_by h xs
sum_split f g h e [] = refl
sum_split f g h e (x ∷ xs) = omega (arith, sum_by-cons f x xs, sum_by-cons g x xs, sum_by-cons h x xs, e x, sum_split f g h e xs)

sum_joined : {X A : Type 0} (f : A → ℕ) (g : X → List A) (xs : List X) → sum_by f (flat_map g xs) ≡ sum_by (sum_by f) (map g xs)
sum_joined f g [] = refl
sum_joined f g (x ∷ xs) = omega (arith, sum_by-append f (g x) (flat_map g xs), sum_by-cons (sum_by f) (g x) (map g xs), sum_joined f g xs)

-- a sum over the numbers below n of which only the part at i is not zero
up_to : {X : Type 0} (f : X → ℕ) (g : ℕ → X) (i : ℕ) → ((j : ℕ) → (j ≡ i → ⊥) → f (g j) ≡ 0) → (n : ℕ) → sum_by f (map g (range_with_len 0 n)) ≡ cond (ltb i n) (f (g i)) 0
up_to f g i e zero = grind (arith, nat_tests)
up_to f g i e (suc n) =
    let more = ap (λ (m : ℕ). sum_by f (map g (range_with_len 0 m))) (sym (add-one n)) ∙ sum_by-map-range_with_len_more f g 0 n n (zero-add n) in
    let before = up_to f g i e n in
    elim (cases_eq n i) [
      | inl p ↦ let same = ap (λ (j : ℕ). f (g j)) p in grind (arith, nat_tests)
      | inr p ↦ let none = e n p in grind (arith, nat_tests)
    ]

pub only_at : {X : Type 0} (f : X → ℕ) (g : ℕ → X) (i n : ℕ) → ((j : ℕ) → (j ≡ i → ⊥) → f (g j) ≡ 0) → i < n → sum_by f (map g (range_with_len 0 n)) ≡ f (g i)
only_at f g i n e l = up_to f g i e n ∙ cond-true (ltb i n) (f (g i)) 0 (lt-ltb i n l)

pub only_joined : {A : Type 0} (f : A → ℕ) (g : ℕ → List A) (i n : ℕ) → ((j : ℕ) → (j ≡ i → ⊥) → sum_by f (g j) ≡ 0) → i < n → sum_by f (flat_map g (range_with_len 0 n)) ≡ sum_by f (g i)
only_joined f g i n e l = sum_joined f g (range_with_len 0 n) ∙ only_at (sum_by f) g i n e l

-- where no element fails a test, all pass it
pub all_pass : {X : Type 0} (p : X → Bool) (xs : List X) → count_by (λ x. not (p x)) xs ≡ 0 → AllPass p xs
all_pass p xs h k d l = let c = get_or-le-sum_by (λ x. cond (not (p x)) 1 0) xs k d l in grind arith

-- a sum over no elements
pub none_sum : {X : Type 0} (p : X → Bool) (g : X → ℕ) (xs : List X) → count_by p xs ≡ 0 → sum_by (λ x. cond (p x) (g x) 0) xs ≡ 0
none_sum p g [] h = refl
none_sum p g (x ∷ xs) h =
    let c = sum_by-cons (λ y. cond (p y) 1 0) x xs in
    let s = sum_by-cons (λ y. cond (p y) (g y) 0) x xs in
    let rest = none_sum p g xs (omega arith) in
    grind arith

-- a sum over one element
pub only_one : {X : Type 0} (p : X → Bool) (g : X → ℕ) (xs : List X) (i : ℕ) (d : X) → i < length xs → p (get_or xs i d) ≡ true → count_by p xs ≤ 1 → sum_by (λ x. cond (p x) (g x) 0) xs ≡ g (get_or xs i d)
only_one {X} p g xs i d l h u =
    let one : X → ℕ = λ x. cond (p x) 1 0 in
    let f : X → ℕ = λ x. cond (p x) (g x) 0 in
    let here = cond-true {A = ℕ} (p (get_or xs i d)) 1 0 h in
    let cut = sum_by-take-drop one xs i in
    let at = sum_by-drop_more one xs i d l in
    let before = none_sum p g (take i xs) (omega arith) in
    let after = none_sum p g (drop (i + 1) xs) (omega arith) in
    omega (arith, sum_by-take-drop f xs i, sum_by-drop_more f xs i d l, cond-true (p (get_or xs i d)) (g (get_or xs i d)) 0 h)
