-- What a rule refuses.
use Rattle.std.specs.Prelude.{ℕ, ◌*◌, ◌<◌, ◌≤◌, Bool, cond, not, ◌||◌, List, length, ℤ, pos, ◌≤ℤ◌, ◌<ℤ◌, Ok, Err, Result, ◌==◌, int_lt, nat_lt, unsigned_abs}
use Rattle.allocation.specs.declared.refusal.AllocationRefusal.{AllocationRefusal}
use Rattle.allocation.specs.declared.refusal.AllocationRefusal.TheVariants.{BadCount, OutOfRange, NoWeight}
use Rattle.allocation.specs.Weights.{total, magnitude}

abbrev pub number : AllocationRefusal → ℕ
number BadCount = 17
number OutOfRange = 18
number NoWeight = 19

-- no weights, more than 64, or another number of places than of weights
abbrev pub bad_count : ℕ → ℕ → Bool
bad_count count places = count == 0 || (nat_lt 64 count || not (places == count))

-- a negative amount, magnitudes above 2,000,000,000 together, or amount × that sum above 4 × 10^18
abbrev pub out_of_range : ℤ → ℕ → Bool
out_of_range amount size = int_lt amount (pos 0) || (nat_lt 2000000000 size || nat_lt 4000000000000000000 (unsigned_abs amount * size))

-- the first of the three refusals that applies, or else the sum of the weights
unfoldable pub verdict : ℤ → List ℤ → ℕ → Result ℤ AllocationRefusal
verdict amount weights places =
    cond (bad_count (length weights) places) (Err BadCount)
    (cond (out_of_range amount (magnitude weights)) (Err OutOfRange)
    (cond (int_lt (pos 0) (total weights)) (Ok (total weights)) (Err NoWeight)))

-- an amount and weights that none of the three refuses, where there is a place for each weight
pub record Admissible (amount : ℤ) (weights : List ℤ) : Type 0 where
  pub some : 0 < length weights
  pub few : length weights ≤ 64
  pub owed : pos 0 ≤ℤ amount
  pub light : magnitude weights ≤ 2000000000
  pub small : unsigned_abs amount * magnitude weights ≤ 4000000000000000000
  pub above : pos 0 <ℤ total weights
