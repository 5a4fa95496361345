-- What a verdict tells of the amount and the weights.
use Rattle.std.specs.Prelude.{◌≡◌, ℕ, zero, suc, ◌*◌, ◌<◌, ◌≤◌, List, [], ◌∷◌, length, take, ℤ, pos, Ok, Err, Result, slice_index_or, unsigned_abs, refl}
use Rattle.std.proofs.Common.{mul-le-mul_left, arith}
use Rattle.std.proofs.lemmas.Int.{ints}
use Rattle.std.proofs.lemmas.Bool.Decides.{nat_tests}
use Rattle.allocation.specs.declared.refusal.AllocationRefusal.{AllocationRefusal}
use Rattle.allocation.specs.Weights.{total, magnitude}
use Rattle.allocation.specs.Refusals.{verdict, Admissible}
use Rattle.allocation.specs.Rules.{Allocated}

-- an amount and weights that passed, to as many places as weights
pub record Admitted (a : ℤ) (ws : List ℤ) (n : ℕ) (w : ℤ) : Type 0 where
  pub fit : Admissible a ws
  pub whole : w ≡ total ws
  pub places : n ≡ length ws

pub admitted : (a : ℤ) (ws : List ℤ) (n : ℕ) (w : ℤ) → verdict a ws n ≡ Ok w → Admitted a ws n w
unfolding verdict
admitted a ws n w e = record {
  fit = record { some = grind (arith, nat_tests); few = grind (arith, nat_tests); owed = grind (arith, nat_tests, ints); light = grind (arith, nat_tests, ints); small = grind (arith, nat_tests, ints); above = grind (arith, nat_tests, ints) };
  whole = grind (arith, nat_tests);
  places = grind (arith, nat_tests);
}

-- and back
pub admits : (a : ℤ) (ws : List ℤ) → Admissible a ws → verdict a ws (length ws) ≡ Ok (total ws)
unfolding verdict
admits a ws h = grind (arith, nat_tests, ints)

-- where a rule answers Ok, the verdict passed and the places hold the shares
pub at_ok : (v : Result ℤ AllocationRefusal) (r : Result (Unit {0}) AllocationRefusal) (before after shares : List ℤ)
    → Allocated v r before after shares → r ≡ Ok tt → (w : ℤ) × (v ≡ Ok w) × (after ≡ shares)
at_ok (Ok w) r before after shares h e = (w, refl, h.1)
at_ok (Err x) r before after shares h e = let f = h.0 in let z : ◌≡◌ {A = ℕ} 0 1 = cc in absurd (omega arith)

-- the sum of the first k weights is no larger than all magnitudes
pub front_size : (ws : List ℤ) (k : ℕ) → unsigned_abs (total (take k ws)) ≤ magnitude ws
front_size ws zero = omega arith
front_size [] (suc k) = omega arith
front_size (x ∷ xs) (suc k) = let h = front_size xs k in omega (arith, ints)

pub total_size : (ws : List ℤ) → unsigned_abs (total ws) ≤ magnitude ws
total_size [] = omega arith
total_size (x ∷ xs) = let h = total_size xs in omega (arith, ints)

pub weight_size : (ws : List ℤ) (k : ℕ) → k < length ws → unsigned_abs (slice_index_or ws k (pos 0)) ≤ magnitude ws
weight_size [] k l = absurd (omega arith)
weight_size (x ∷ xs) zero l = omega arith
weight_size (x ∷ xs) (suc k) l = let h = weight_size xs k (omega arith) in omega arith

-- the amount times what is no larger than all magnitudes
pub product_size : (a : ℤ) (ws : List ℤ) (m : ℕ) → Admissible a ws → m ≤ magnitude ws → unsigned_abs a * m ≤ 4000000000000000000
product_size a ws m s h = let l = mul-le-mul_left (unsigned_abs a) h in let k = s.small in omega arith

-- the amount itself
pub amount_size : (a : ℤ) (ws : List ℤ) → Admissible a ws → unsigned_abs a ≤ 4000000000000000000
amount_size a ws s =
    let z = total_size ws in
    let h = s.above in
    let one : 1 ≤ magnitude ws = omega (arith, ints) in
    let k = product_size a ws 1 s one in
    omega arith
