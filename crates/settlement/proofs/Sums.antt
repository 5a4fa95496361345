-- Sums over lists.
use Rattle.std.proofs.Common.{◌≡◌, ℕ, zero, suc, ◌+◌, ◌*◌, ◌<◌, ◌≤◌, Bool, true, false, cond, eqb, List, [], ◌∷◌, length, ℤ, pos, ◌+ℤ◌, ◌-ℤ◌, ◌*ℤ◌, ◌≤ℤ◌, filter, sym, refl, ap, ◌∙◌, arith}
use lib.IntN.{*ℤ-zero}
use Rattle.allocation.specs.Products.{times_sum}
use Rattle.std.specs.List.{range_with_len, All}
use Rattle.std.proofs.lemmas.Int.{ints}
use Rattle.std.proofs.lemmas.Bool.Decides.{nat_tests}
use Rattle.std.proofs.lemmas.List.Elements.{All-nil, All-cons, All-head, All-tail}
use Rattle.std.proofs.lemmas.List.FromFn.{fill_by_all}
use Rattle.allocation.specs.Weights.{total}
use Rattle.settlement.specs.Sums.{sum, at}

pub sum_plus : {X : Type 0} (xs : List X) (f g : X → ℤ) → sum xs (λ x. f x +ℤ g x) ≡ sum xs f +ℤ sum xs g
sum_plus [] f g = refl
sum_plus (x ∷ xs) f g = let h = sum_plus xs f g in omega (arith, ints)

pub sum_minus : {X : Type 0} (xs : List X) (f g : X → ℤ) → sum xs (λ x. f x -ℤ g x) ≡ sum xs f -ℤ sum xs g
sum_minus [] f g = refl
sum_minus (x ∷ xs) f g = let h = sum_minus xs f g in omega (arith, ints)

pub sum_zero : {X : Type 0} (xs : List X) → sum xs (λ _. pos 0) ≡ pos 0
sum_zero [] = refl
sum_zero (x ∷ xs) = let h = sum_zero xs in omega (arith, ints)

-- either order
pub sum_swap : {X Y : Type 0} (xs : List X) (ys : List Y) (f : X → Y → ℤ) → sum xs (λ x. sum ys (f x)) ≡ sum ys (λ y. sum xs (λ x. f x y))
sum_swap [] ys f = sym (sum_zero ys)
sum_swap (x ∷ xs) ys f = ap (λ (z : ℤ). sum ys (f x) +ℤ z) (sum_swap xs ys f) ∙ sym (sum_plus ys (f x) (λ y. sum xs (λ x. f x y)))

pub sum_kept : {X : Type 0} (p : X → Bool) (xs : List X) (f : X → ℤ) → sum (filter p xs) f ≡ sum xs (λ x. cond (p x) (f x) (pos 0))
sum_kept p [] f = refl
sum_kept p (x ∷ xs) f = by (p x) (sum_kept p xs f)
  where
    by : (b : Bool) → sum (filter p xs) f ≡ sum xs (λ x. cond (p x) (f x) (pos 0)) → sum (cond b (x ∷ filter p xs) (filter p xs)) f ≡ cond b (f x) (pos 0) +ℤ sum xs (λ x. cond (p x) (f x) (pos 0))
    by true h = ap (λ (z : ℤ). f x +ℤ z) h
    by false h = omega (arith, ints)

-- one place of many
pub sum_none : (o a n : ℕ) (v : ℤ) → o < a → sum (range_with_len a n) (λ m. cond (eqb o m) v (pos 0)) ≡ pos 0
sum_none o a zero v h = refl
sum_none o a (suc n) v h =
    let e : eqb o a ≡ false = grind (arith, nat_tests) in
    let i = sum_none o (a + 1) n v (omega arith) in
    rw e (omega (arith, ints))

pub sum_pick : (o a n : ℕ) (v : ℤ) → a ≤ o → o < a + n → sum (range_with_len a n) (λ m. cond (eqb o m) v (pos 0)) ≡ v
sum_pick o a zero v l h = absurd (omega arith)
sum_pick o a (suc n) v l h = by (eqb o a) refl (λ le. sum_pick o (a + 1) n v le (omega arith))
  where
    by : (b : Bool) → eqb o a ≡ b → (a + 1 ≤ o → sum (range_with_len (a + 1) n) (λ m. cond (eqb o m) v (pos 0)) ≡ v) → cond (eqb o a) v (pos 0) +ℤ sum (range_with_len (a + 1) n) (λ m. cond (eqb o m) v (pos 0)) ≡ v
    by true e again =
        let le : o < a + 1 = grind (arith, nat_tests) in
        let i = sum_none o (a + 1) n v le in
        rw e (omega (arith, ints))
    by false e again =
        let le : a + 1 ≤ o = grind (arith, nat_tests) in
        let i = again le in
        rw e (omega (arith, ints))

pub sum_all : {X : Type 0} (xs : List X) (f g : X → ℤ) → All (λ x. f x ≡ g x) xs → sum xs f ≡ sum xs g
sum_all [] f g h = refl
sum_all (x ∷ xs) f g h = let i = sum_all xs f g (All-tail (λ x. f x ≡ g x) x xs h) in let e = All-head (λ x. f x ≡ g x) x xs h in omega (arith, ints)

-- each member's own, over all members
pub sum_owned : (n : ℕ) (owner : ℕ → ℕ) (rs : List ℕ) (f : ℕ → ℤ) → All (λ r. owner r < n) rs
    → sum (range_with_len 0 n) (λ m. sum (filter (λ r. eqb (owner r) m) rs) f) ≡ sum rs f
sum_owned n owner rs f h =
    ap (sum (range_with_len 0 n)) (λ i m. sum_kept (λ r. eqb (owner r) m) rs f i)
    ∙ sum_swap (range_with_len 0 n) rs (λ m r. cond (eqb (owner r) m) (f r) (pos 0))
    ∙ each rs h
  where
    each : (rs : List ℕ) → All (λ r. owner r < n) rs → sum rs (λ r. sum (range_with_len 0 n) (λ m. cond (eqb (owner r) m) (f r) (pos 0))) ≡ sum rs f
    each [] h = refl
    each (r ∷ rs) h =
        let i = each rs (All-tail (λ r. owner r < n) r rs h) in
        let l = All-head (λ r. owner r < n) r rs h in
        let p = sum_pick (owner r) 0 n (f r) (omega arith) (omega arith) in
        omega (arith, ints)

-- a list by its places
pub sum_at : (xs : List ℤ) (n : ℕ) → length xs ≡ n → sum (range_with_len 0 n) (at xs) ≡ total xs
sum_at xs n e = sym (ap total (fill_by_all (at xs) xs n (pos 0) e (λ k l. refl)))

pub all_counting : (P : ℕ → Type 0) (a n : ℕ) → ((r : ℕ) → r < a + n → P r) → All P (range_with_len a n)
all_counting P a zero h = All-nil P
all_counting P a (suc n) h = All-cons P a (range_with_len (a + 1) n) (h a (omega arith)) (all_counting P (a + 1) n (λ r l. h r (omega arith)))

pub sum_le : {X : Type 0} (xs : List X) (f g : X → ℤ) → All (λ x. f x ≤ℤ g x) xs → sum xs f ≤ℤ sum xs g
sum_le [] f g h = omega (arith, ints)
sum_le (x ∷ xs) f g h = let i = sum_le xs f g (All-tail (λ x. f x ≤ℤ g x) x xs h) in let e = All-head (λ x. f x ≤ℤ g x) x xs h in omega (arith, ints)

pub sum_above : {X : Type 0} (xs : List X) (f : X → ℤ) → All (λ x. pos 0 ≤ℤ f x) xs → pos 0 ≤ℤ sum xs f
sum_above [] f h = omega (arith, ints)
sum_above (x ∷ xs) f h = let i = sum_above xs f (All-tail (λ x. pos 0 ≤ℤ f x) x xs h) in let e = All-head (λ x. pos 0 ≤ℤ f x) x xs h in omega (arith, ints)

pub sum_below : {X : Type 0} (xs : List X) (f : X → ℤ) (b : ℕ) → All (λ x. f x ≤ℤ pos b) xs → sum xs f ≤ℤ pos (length xs * b)
sum_below [] f b h = omega (arith, ints)
sum_below (x ∷ xs) f b h = let i = sum_below xs f b (All-tail (λ x. f x ≤ℤ pos b) x xs h) in let e = All-head (λ x. f x ≤ℤ pos b) x xs h in omega (arith, ints)

-- each at most c times another
pub sum_scaled : {X : Type 0} (c : ℕ) (xs : List X) (f g : X → ℤ) → All (λ x. f x ≤ℤ (pos c *ℤ g x)) xs → sum xs f ≤ℤ (pos c *ℤ sum xs g)
sum_scaled c [] f g h = let z = *ℤ-zero (pos c) in omega (arith, ints)
sum_scaled c (x ∷ xs) f g h =
    let i = sum_scaled c xs f g (All-tail (λ x. f x ≤ℤ (pos c *ℤ g x)) x xs h) in
    rw (times_sum (pos c) (g x) (sum xs g)) (added (f x) (pos c *ℤ g x) (sum xs f) (pos c *ℤ sum xs g) (All-head (λ x. f x ≤ℤ (pos c *ℤ g x)) x xs h) i)
  where
    added : (a b u v : ℤ) → a ≤ℤ b → u ≤ℤ v → (a +ℤ u) ≤ℤ (b +ℤ v)
    added a b u v h k = omega (arith, ints)
