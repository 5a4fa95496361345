-- A quotient taken down or up to a whole number is one that is off by less than one.
use Rattle.std.specs.Prelude.{◌≡◌, ℕ, ◌+◌, ◌≤◌, List, ℤ, pos, ◌+ℤ◌, ◌-ℤ◌, ◌*ℤ◌, neg_ℤ, ◌≤ℤ◌, ◌<ℤ◌, unsigned_abs}
use Rattle.std.proofs.Common.{inl, inr, arith}
use Rattle.std.proofs.lemmas.Int.{ints, by_lt_z}
use Rattle.allocation.specs.Weights.{total}
use Rattle.allocation.specs.Rounding.{floor, ceiling, half_up}
use Rattle.allocation.specs.Rules.{Rounded, EachRounded, EachClose}
use Rattle.allocation.specs.Products.{floor_low, floor_high, floor_is, neg_times, times_double, size_times, floor_size, ceiling_size}

-- p * w is within w of x, on either side
abbrev pub Near : ℤ → ℤ → ℤ → Type 0
Near p x w = ((p *ℤ w) <ℤ (x +ℤ w)) × (x <ℤ ((p *ℤ w) +ℤ w))

near_floor : (x w : ℤ) → pos 0 <ℤ w → Near (floor x w) x w
near_floor x w h =
    let l = floor_low x w h in
    let u = floor_high x w h in
    (omega (arith, ints), omega (arith, ints))

near_ceiling : (x w : ℤ) → pos 0 <ℤ w → Near (ceiling x w) x w
unfolding ceiling
near_ceiling x w h =
    let l = floor_low (neg_ℤ x) w h in
    let u = floor_high (neg_ℤ x) w h in
    let n = neg_times (floor (neg_ℤ x) w) w in
    (omega (arith, ints), omega (arith, ints))

pub near_from_rounded : (p x w : ℤ) → pos 0 <ℤ w → Rounded p x w → Near p x w
near_from_rounded p x w h (inl e) = rw e (near_floor x w h)
near_from_rounded p x w h (inr e) = rw e (near_ceiling x w h)

-- the usable form
pub close_from_rounded : (p x w : ℤ) → pos 0 <ℤ w → Rounded p x w → pos (unsigned_abs (p *ℤ w -ℤ x)) <ℤ w
close_from_rounded p x w h r = let n = near_from_rounded p x w h r in omega (arith, ints)

pub rounded_from_near : (p x w : ℤ) → pos 0 <ℤ w → Near p x w → Rounded p x w
unfolding ceiling
rounded_from_near p x w h near =
    by_lt_z x (p *ℤ w)
    (λ k.
    let n = neg_times p w in
    let low : (neg_ℤ p *ℤ w) ≤ℤ neg_ℤ x = omega (arith, ints) in
    let high : neg_ℤ x <ℤ ((neg_ℤ p *ℤ w) +ℤ w) = omega (arith, ints) in
    let e = floor_is (neg_ℤ p) (neg_ℤ x) w h low high in
    inr (omega (arith, ints)))
    (λ k. inl (floor_is p x w h k near.1))

-- a quotient to the nearest whole number is off by at most a half
pub half_up_low : (x w : ℤ) → pos 0 <ℤ w → (pos 2 *ℤ (half_up x w *ℤ w)) ≤ℤ (pos 2 *ℤ x +ℤ w)
unfolding half_up
half_up_low x w h =
    let d : pos 0 <ℤ (pos 2 *ℤ w) = omega (arith, ints) in
    let l = floor_low (pos 2 *ℤ x +ℤ w) (pos 2 *ℤ w) d in
    let t = times_double (half_up x w) w in
    omega (arith, ints)

pub half_up_high : (x w : ℤ) → pos 0 <ℤ w → (pos 2 *ℤ x) <ℤ (pos 2 *ℤ (half_up x w *ℤ w) +ℤ w)
unfolding half_up
half_up_high x w h =
    let d : pos 0 <ℤ (pos 2 *ℤ w) = omega (arith, ints) in
    let l = floor_high (pos 2 *ℤ x +ℤ w) (pos 2 *ℤ w) d in
    let t = times_double (half_up x w) w in
    omega (arith, ints)

-- and of a multiple it is the factor
pub half_up_multiple : (a w : ℤ) → pos 0 <ℤ w → a ≡ half_up (a *ℤ w) w
unfolding half_up
half_up_multiple a w h =
    let d : pos 0 <ℤ (pos 2 *ℤ w) = omega (arith, ints) in
    let t = times_double a w in
    floor_is a (pos 2 *ℤ (a *ℤ w) +ℤ w) (pos 2 *ℤ w) d (omega (arith, ints)) (omega (arith, ints))

linear_bound : (p x w : ℤ) (n q : ℕ) → q ≤ unsigned_abs p → (pos 2 *ℤ p) ≤ℤ (pos 2 *ℤ x +ℤ w) → (pos 2 *ℤ x) <ℤ (pos 2 *ℤ p +ℤ w) → pos 0 <ℤ w → w ≤ℤ pos n → q ≤ unsigned_abs x + n
linear_bound p x w n q s l h z k = omega (arith, ints)

pub half_up_bound : (x w : ℤ) (n : ℕ) → pos 0 <ℤ w → w ≤ℤ pos n → unsigned_abs (half_up x w) ≤ unsigned_abs x + n
half_up_bound x w n h k =
    linear_bound (half_up x w *ℤ w) x w n (unsigned_abs (half_up x w)) (size_times (half_up x w) w h) (half_up_low x w h) (half_up_high x w h) h k

pub each_close : (a : ℤ) (ws shares : List ℤ) → pos 0 <ℤ total ws → EachRounded a ws shares → EachClose a ws shares
each_close a ws shares h r k l = close_from_rounded _ _ (total ws) h (r k l)

pub rounded_size : (p x w : ℤ) → pos 0 <ℤ w → Rounded p x w → unsigned_abs p ≤ unsigned_abs x
rounded_size p x w h (inl e) = rw e (floor_size x w h)
rounded_size p x w h (inr e) = rw e (ceiling_size x w h)
