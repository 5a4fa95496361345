-- Products and whole quotients of integers.
use Rattle.std.specs.Prelude.{◌≡◌, ℕ, zero, suc, ◌*◌, ◌≤◌, ℤ, pos, negsuc, ◌+ℤ◌, ◌-ℤ◌, ◌*ℤ◌, neg_ℤ, ◌≤ℤ◌, ◌<ℤ◌, unsigned_abs}
use Rattle.std.proofs.Common.{ap, ◌∙◌, mul-le-mul_right, arith}
use borrow.Author.Differences.{up, down, sum_is_lem, product_is, lt_out}
use Rattle.std.proofs.lemmas.Int.{ints, by_lt_z}
use Rattle.std.specs.Int.{int_rem_euclid}
use Rattle.allocation.specs.Rounding.{floor, ceiling}

-- a sum times a number
pub sum_times : (a b c : ℤ) → (a +ℤ b) *ℤ c ≡ a *ℤ c +ℤ b *ℤ c
sum_times a b c = omega (arith, ints, ap (λ (n : ℕ). n * up c) (sum_is_lem a b), ap (λ (n : ℕ). n * down c) (sum_is_lem a b))

pub times_sum : (a b c : ℤ) → a *ℤ (b +ℤ c) ≡ a *ℤ b +ℤ a *ℤ c
times_sum a b c = omega (arith, ints, ap (λ (n : ℕ). up a * n) (sum_is_lem b c), ap (λ (n : ℕ). down a * n) (sum_is_lem b c))

-- the next multiple of w comes w later
pub next_multiple : (q r w : ℤ) → pos 0 <ℤ w → q <ℤ r → ((q *ℤ w) +ℤ w) ≤ℤ (r *ℤ w)
next_multiple q r (pos n) h k = omega (arith, ints, mul-le-mul_right n (lt_out q r k))
next_multiple q r (negsuc n) h k = absurd (omega (arith, ints))

-- a whole quotient taken down
pub floor_low : (x w : ℤ) → pos 0 <ℤ w → (floor x w *ℤ w) ≤ℤ x
unfolding floor
floor_low (pos a) (pos n) h = omega (arith, ints)
floor_low (negsuc a) (pos n) h = omega (arith, ints)
floor_low x (negsuc n) h = absurd (omega (arith, ints))

pub floor_high : (x w : ℤ) → pos 0 <ℤ w → x <ℤ ((floor x w *ℤ w) +ℤ w)
unfolding floor
floor_high (pos a) (pos n) h = omega (arith, ints)
floor_high (negsuc a) (pos n) h = omega (arith, ints)
floor_high x (negsuc n) h = absurd (omega (arith, ints))

-- and it is the only number between
pub floor_is : (q x w : ℤ) → pos 0 <ℤ w → (q *ℤ w) ≤ℤ x → x <ℤ ((q *ℤ w) +ℤ w) → q ≡ floor x w
floor_is q x w h low high =
    let l = floor_low x w h in
    let u = floor_high x w h in
    by_lt_z q (floor x w) (λ k. let m = next_multiple q (floor x w) w h k in absurd (omega (arith, ints)))
    (λ k. by_lt_z (floor x w) q (λ k'. let m = next_multiple (floor x w) q w h k' in absurd (omega (arith, ints))) (λ k'. omega (arith, ints)))

pub neg_times : (a b : ℤ) → neg_ℤ a *ℤ b ≡ neg_ℤ (a *ℤ b)
neg_times (pos zero) b = omega (arith, ints)
neg_times (pos (suc n)) b = omega (arith, ints)
neg_times (negsuc n) b = omega (arith, ints)

pub difference_times : (a b c : ℤ) → (a -ℤ b) *ℤ c ≡ a *ℤ c -ℤ b *ℤ c
difference_times a b c = sum_times a (neg_ℤ b) c ∙ ap (λ (z : ℤ). a *ℤ c +ℤ z) (neg_times b c)

pub times_double : (q w : ℤ) → q *ℤ (pos 2 *ℤ w) ≡ pos 2 *ℤ (q *ℤ w)
times_double q w =
    let p = product_is (pos 2) w in
    omega (arith, ints, ap (λ (n : ℕ). up q * n) p.0, ap (λ (n : ℕ). up q * n) p.1, ap (λ (n : ℕ). down q * n) p.0, ap (λ (n : ℕ). down q * n) p.1)

-- a product is no smaller than its factor
pub size_times : (q w : ℤ) → pos 0 <ℤ w → unsigned_abs q ≤ unsigned_abs (q *ℤ w)
size_times (pos a) (pos (suc n)) h = omega arith
size_times (negsuc a) (pos (suc n)) h = omega (arith, ints)
size_times q (pos zero) h = absurd (omega (arith, ints))
size_times q (negsuc n) h = absurd (omega (arith, ints))

-- a whole quotient is no larger than the number
pub floor_size : (x w : ℤ) → pos 0 <ℤ w → unsigned_abs (floor x w) ≤ unsigned_abs x
unfolding floor
floor_size (pos a) (pos n) h = omega arith
floor_size (negsuc a) (pos n) h = omega arith
floor_size x (negsuc n) h = absurd (omega (arith, ints))

pub ceiling_size : (x w : ℤ) → pos 0 <ℤ w → unsigned_abs (ceiling x w) ≤ unsigned_abs x
unfolding ceiling
ceiling_size x w h = let f = floor_size (neg_ℤ x) w h in omega (arith, ints)

-- what a whole quotient leaves
pub rest_is : (x w : ℤ) → pos 0 <ℤ w → int_rem_euclid x w ≡ x -ℤ floor x w *ℤ w
unfolding floor
rest_is (pos a) (pos n) h = omega (arith, ints)
rest_is (negsuc a) (pos n) h = omega (arith, ints)
rest_is x (negsuc n) h = absurd (omega (arith, ints))
