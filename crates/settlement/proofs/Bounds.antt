-- Bounds of sums, of largest values and of shares.
use Rattle.std.proofs.Common.{◌≡◌, ℕ, zero, suc, ◌+◌, ◌*◌, ◌<◌, ◌≤◌, Bool, true, false, cond, ◌&&◌, ◌||◌, ◌⊎◌, List, [], ◌∷◌, map, length, ℤ, pos, negsuc, ◌+ℤ◌, ◌*ℤ◌, nat_abs, ◌≤ℤ◌, ◌<ℤ◌, filter, sym, refl, ap, ◌∙◌, inl, inr, mul-le-mul_right, mul-le-mul_left, arith}
use borrow.Author.Differences.{le_out}
use lib.IntN.{*ℤ_comm}
use lib.Signed.{lt_z}
use Rattle.std.specs.Int.{int_max}
use Rattle.std.specs.List.{range_with_len, All}
use Rattle.std.proofs.lemmas.Int.{ints, clamps, by_lt_z}
use Rattle.std.proofs.lemmas.List.Elements.{All-head, All-tail, All-weaker, All-filter}
use Rattle.std.proofs.lemmas.List.Sums.{length-filter, count_by-le-length}
use Rattle.allocation.specs.Weights.{total, magnitude}
use Rattle.allocation.specs.Rounding.{half_up}
use Rattle.allocation.specs.Refusals.{Admissible}
use Rattle.allocation.specs.RoundingLemmas.{half_up_low, half_up_high}
use Rattle.allocation.specs.Products.{next_multiple}
use Rattle.settlement.specs.Sums.{sum, largest, is_zero, all_zero, at, Meaning, allocated}
use Rattle.settlement.specs.Days.{Day, resources, owns, owned}
use Rattle.settlement.specs.Laws.{Lawful, Allocable}
use Rattle.settlement.proofs.Sums.{sum_above, all_counting}
use Rattle.settlement.proofs.Shares.{cases, at_zeros, allocated_near}

-- ---- integers

pub zero_or_above : (a : ℤ) → pos 0 ≤ℤ a → (a ≡ pos 0) ⊎ (pos 0 <ℤ a)
zero_or_above (pos zero) h = inl refl
zero_or_above (pos (suc n)) h = inr (omega (arith, ints))
zero_or_above (negsuc n) h = absurd (omega (arith, ints))

pub product_above : (a b : ℤ) → pos 0 ≤ℤ a → pos 0 ≤ℤ b → pos 0 ≤ℤ (a *ℤ b)
product_above (pos a) (pos b) h k = omega (arith, ints)
product_above (negsuc a) b h k = absurd (omega (arith, ints))
product_above (pos a) (negsuc b) h k = absurd (omega (arith, ints))

-- a larger left factor
pub product_left : (a b c : ℤ) → a ≤ℤ b → pos 0 ≤ℤ c → (a *ℤ c) ≤ℤ (b *ℤ c)
product_left a b (pos n) h k = omega (arith, ints, mul-le-mul_right n (le_out a b h))
product_left a b (negsuc n) h k = absurd (omega (arith, ints))

-- what is less than one multiple more is at most the multiple
pub below_next : (p b w : ℤ) → pos 0 <ℤ w → (p *ℤ w) <ℤ ((b *ℤ w) +ℤ w) → p ≤ℤ b
below_next p b w h k = by_lt_z b p (λ l. let m = next_multiple b p w h l in absurd (omega (arith, ints))) (λ l. l)

pub above_next : (p w : ℤ) → pos 0 <ℤ w → pos 0 <ℤ ((p *ℤ w) +ℤ w) → pos 0 ≤ℤ p
above_next p w h k = by_lt_z p (pos 0) (λ l. let m = next_multiple p (pos 0) w h l in absurd (omega (arith, ints))) (λ l. l)

-- ---- sums

pub magnitude_le : {X : Type 0} (xs : List X) (f g : X → ℤ) → All (λ x. pos (nat_abs (f x)) ≤ℤ g x) xs → pos (magnitude (map f xs)) ≤ℤ sum xs g
magnitude_le [] f g h = omega (arith, ints)
magnitude_le {X} (x ∷ xs) f g h = let P = λ (x : X). pos (nat_abs (f x)) ≤ℤ g x in let i = magnitude_le xs f g (All-tail P x xs h) in let e = All-head P x xs h in omega (arith, ints)

pub one_le : {X : Type 0} (xs : List X) (f : X → ℤ) (k : ℕ) → All (λ x. pos 0 ≤ℤ f x) xs → at (map f xs) k ≤ℤ sum xs f
one_le [] f k h = omega (arith, ints)
one_le (x ∷ xs) f zero h = let i = sum_above xs f (All-tail (λ x. pos 0 ≤ℤ f x) x xs h) in omega (arith, ints)
one_le (x ∷ xs) f (suc k) h = let i = one_le xs f k (All-tail (λ x. pos 0 ≤ℤ f x) x xs h) in let e = All-head (λ x. pos 0 ≤ℤ f x) x xs h in omega (arith, ints)

pub at_above : {X : Type 0} (xs : List X) (f : X → ℤ) (k : ℕ) → All (λ x. pos 0 ≤ℤ f x) xs → pos 0 ≤ℤ at (map f xs) k
at_above [] f k h = omega (arith, ints)
at_above (x ∷ xs) f zero h = All-head (λ x. pos 0 ≤ℤ f x) x xs h
at_above (x ∷ xs) f (suc k) h = at_above xs f k (All-tail (λ x. pos 0 ≤ℤ f x) x xs h)

-- weights that are not negative, and not all zero
pub not_all_zero : {X : Type 0} (xs : List X) (f : X → ℤ) → All (λ x. pos 0 ≤ℤ f x) xs → all_zero (map f xs) ≡ false → pos 0 <ℤ sum xs f
not_all_zero [] f h e = let z : ◌≡◌ {A = ℕ} 0 1 = cc in absurd (omega arith)
not_all_zero (x ∷ xs) f h e =
    let rest = All-tail (λ x. pos 0 ≤ℤ f x) x xs h in
    let s = sum_above xs f rest in
    elim (zero_or_above (f x) (All-head (λ x. pos 0 ≤ℤ f x) x xs h)) [
      | inl z ↦ let i = not_all_zero xs f rest (sym (ap (λ (y : ℤ). is_zero y && all_zero (map f xs)) z) ∙ e) in omega (arith, ints)
      | inr l ↦ omega (arith, ints)
    ]

-- ---- what is kept of a list

pub kept_length : {X : Type 0} (p : X → Bool) (xs : List X) → length (filter p xs) ≤ length xs
kept_length p xs = rw (length-filter p xs) (count_by-le-length p xs)

-- what holds of every resource holds of an owner's
pub all_owned : (d : Day) (P : ℕ → Type 0) (m : ℕ) → ((r : ℕ) → r < length d.roll → P r) → All P (owned d m (resources d))
all_owned d P m h = All-filter (owns d m) P (resources d) (all_counting P 0 (length d.roll) (λ r l. h r (omega arith)))

-- the place of one that is kept is the number kept before it
pub kept_at : (p : ℕ → Bool) (f : ℕ → ℤ) (a i n : ℕ) → i < n → p (a + i) ≡ true
    → (at (map f (filter p (range_with_len a n))) (length (filter p (range_with_len a i))) ≡ f (a + i)) × (length (filter p (range_with_len a i)) < length (filter p (range_with_len a n)))
kept_at p f a i zero l e = absurd (omega arith)
kept_at p f a zero (suc n) l e =
    let z : a + 0 ≡ a = omega arith in
    let y : p a ≡ true = sym (ap p z) ∙ e in
    rw (z, y) (refl, omega arith)
kept_at p f a (suc i) (suc n) l e =
    let z : a + suc i ≡ (a + 1) + i = omega arith in
    by (p a) (kept_at p f (a + 1) i n (omega arith) (sym (ap p z) ∙ e)) z
  where
    by : (b : Bool)
        → (at (map f (filter p (range_with_len (a + 1) n))) (length (filter p (range_with_len (a + 1) i))) ≡ f ((a + 1) + i)) × (length (filter p (range_with_len (a + 1) i)) < length (filter p (range_with_len (a + 1) n)))
        → a + suc i ≡ (a + 1) + i
        → (at (map f (cond b (a ∷ filter p (range_with_len (a + 1) n)) (filter p (range_with_len (a + 1) n)))) (length (cond b (a ∷ filter p (range_with_len (a + 1) i)) (filter p (range_with_len (a + 1) i)))) ≡ f (a + suc i))
        × (length (cond b (a ∷ filter p (range_with_len (a + 1) i)) (filter p (range_with_len (a + 1) i))) < length (cond b (a ∷ filter p (range_with_len (a + 1) n)) (filter p (range_with_len (a + 1) n))))
    by true h z = (h.0 ∙ sym (ap f z), let k = h.1 in omega arith)
    by false h z = (h.0 ∙ sym (ap f z), h.1)

-- ---- the largest of a list

pub largest_above : {X : Type 0} (xs : List X) (f : X → ℤ) → pos 0 ≤ℤ largest xs f
largest_above [] f = omega (arith, ints)
largest_above (x ∷ xs) f = let i = largest_above xs f in omega (arith, ints, clamps)

pub largest_below : {X : Type 0} (xs : List X) (f : X → ℤ) (b : ℤ) → pos 0 ≤ℤ b → All (λ x. f x ≤ℤ b) xs → largest xs f ≤ℤ b
largest_below [] f b z h = z
largest_below (x ∷ xs) f b z h = let i = largest_below xs f b z (All-tail (λ x. f x ≤ℤ b) x xs h) in let e = All-head (λ x. f x ≤ℤ b) x xs h in omega (arith, ints, clamps)

-- nothing is kept, and what is not kept has none
pub largest_none : {X : Type 0} (p : X → Bool) (xs : List X) (f g : X → ℤ) → All (λ x. p x ≡ false → f x ≤ℤ pos 0) xs → All (λ x. pos 1 ≤ℤ g x) xs
    → sum (filter p xs) g ≡ pos 0 → largest xs f ≡ pos 0
largest_none p [] f g h k e = refl
largest_none p (x ∷ xs) f g h k e = by (p x) refl e (largest_none p xs f g (All-tail (λ x. p x ≡ false → f x ≤ℤ pos 0) x xs h) some)
  where
    some : All (λ x. pos 1 ≤ℤ g x) xs
    some = All-tail (λ x. pos 1 ≤ℤ g x) x xs k

    by : (b : Bool) → p x ≡ b → sum (cond b (x ∷ filter p xs) (filter p xs)) g ≡ pos 0 → (sum (filter p xs) g ≡ pos 0 → largest xs f ≡ pos 0) → int_max (f x) (largest xs f) ≡ pos 0
    by true y z again = let s = sum_above (filter p xs) g (All-filter p (λ x. pos 0 ≤ℤ g x) xs (All-weaker (λ x. pos 1 ≤ℤ g x) (λ x. pos 0 ≤ℤ g x) (λ x l. omega (arith, ints)) xs some)) in let l = All-head (λ x. pos 1 ≤ℤ g x) x xs k in absurd (omega (arith, ints))
    by false y z again = let i = again z in let l = All-head (λ x. p x ≡ false → f x ≤ℤ pos 0) x xs h y in omega (arith, ints, clamps)

-- ---- rounding

-- at most b thousand is at most b
pub thousand_below : (z b : ℤ) → z ≤ℤ (pos 1000 *ℤ b) → half_up z (pos 1000) ≤ℤ b
thousand_below z b h = let n = half_up_low z (pos 1000) (omega (arith, ints)) in omega (arith, ints)

pub thousand_above : (z : ℤ) → pos 0 ≤ℤ z → pos 0 ≤ℤ half_up z (pos 1000)
thousand_above z h = let n = half_up_high z (pos 1000) (omega (arith, ints)) in omega (arith, ints)

-- ---- shares

pub admissible : (a : ℤ) (ws : List ℤ) (α β : ℕ) → length ws ≤ 64 → pos 0 ≤ℤ a → a ≤ℤ pos α → magnitude ws ≤ β → β ≤ 2000000000 → α * β ≤ 4000000000000000000 → pos 0 <ℤ total ws → Admissible a ws
admissible a ws α β few owed most light small product above = record {
  some = nonempty ws above;
  few = few;
  owed = owed;
  light = omega arith;
  small =
      let n : nat_abs a ≤ α = omega (arith, ints) in
      let one = mul-le-mul_left (nat_abs a) light in
      let two = mul-le-mul_right β n in
      omega arith;
  above = above;
}
  where
    nonempty : (ws : List ℤ) → pos 0 <ℤ total ws → 0 < length ws
    nonempty [] h = absurd (omega (arith, ints))
    nonempty (w ∷ ws) h = omega arith

pub share_above : (t : Meaning) (a : ℤ) (ws : List ℤ) (k : ℕ) → Lawful t → Allocable a ws → k < length ws → pos 0 ≤ℤ at ws k → pos 0 ≤ℤ at (allocated t a ws) k
share_above t a ws k l h i w = elim (cases t a ws h) [
  | inl p ↦ rw (ap (λ (zs : List ℤ). at zs k) p.1 ∙ at_zeros ws k) (omega (arith, ints))
  | inr p ↦
      let n = allocated_near t a ws k l h p.0.above i in
      let m = product_above a (at ws k) p.0.owed w in
      above_next (at (allocated t a ws) k) (total ws) p.0.above (let u = n.1 in omega (arith, ints))
]

-- a share of no more than the weights come to is no more than its weight
pub share_below : (t : Meaning) (a : ℤ) (ws : List ℤ) (k : ℕ) → Lawful t → Allocable a ws → k < length ws → pos 0 ≤ℤ at ws k → a ≤ℤ total ws → at (allocated t a ws) k ≤ℤ at ws k
share_below t a ws k l h i w s = elim (cases t a ws h) [
  | inl p ↦ rw (ap (λ (zs : List ℤ). at zs k) p.1 ∙ at_zeros ws k) w
  | inr p ↦
      let n = (allocated_near t a ws k l h p.0.above i).0 in
      let m = product_left a (total ws) (at ws k) s w in
      let c = *ℤ_comm (total ws) (at ws k) in
      below_next (at (allocated t a ws) k) (at ws k) (total ws) p.0.above (omega (arith, ints))
]

-- and no more than the amount, if its weight is no more than all
pub share_part : (t : Meaning) (a : ℤ) (ws : List ℤ) (k : ℕ) → Lawful t → Allocable a ws → k < length ws → at ws k ≤ℤ total ws → at (allocated t a ws) k ≤ℤ a
share_part t a ws k l h i s = elim (cases t a ws h) [
  | inl p ↦ rw (ap (λ (zs : List ℤ). at zs k) p.1 ∙ at_zeros ws k) (let e = p.0 in omega (arith, ints))
  | inr p ↦
      let n = (allocated_near t a ws k l h p.0.above i).0 in
      let m = product_left (at ws k) (total ws) a s p.0.owed in
      let c = *ℤ_comm (total ws) a in
      let c' = *ℤ_comm (at ws k) a in
      below_next (at (allocated t a ws) k) a (total ws) p.0.above (omega (arith, ints))
]

-- ---- tests

pub above_test : (a : ℤ) → pos 0 <ℤ a → lt_z (pos 0) a ≡ true
above_test a h = grind (arith, ints)

pub not_both : (a b c e : Bool) → (a && b) || (c && e) ≡ false → (a ≡ true → b ≡ false) × (c ≡ true → e ≡ false)
not_both a b c e h = (λ p. grind arith, λ p. grind arith)
