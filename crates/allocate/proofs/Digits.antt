-- One more digit of a number.
use Rattle.std.proofs.Common.{◌≡◌, ℕ, ◌+◌, ◌-◌, ◌*◌, ◌^◌, ◌<◌, ◌≤◌, true, cond, List, length, get_or, drop, None, pow-suc, add-one, arith}
use native.Mathlib.Nat.{pow-le-pow_right}
use Rattle.std.proofs.lemmas.List.{at_drop_more}
use Rattle.std.proofs.lemmas.Bool.Decides.{nat_tests}
use Rattle.std.specs.Char.{is_ascii_digit}
use Rattle.allocate.specs.Requests.{read_on}

module _ (n : ℕ) (bs : List ℕ) (i : ℕ) (here : i < length bs) where
  pub read_at : read_on n (drop i bs) ≡ cond (is_ascii_digit (get_or bs i 0)) (read_on (n * 10 + (get_or bs i 0 - 48)) (drop (i + 1) bs)) None
  read_at = at_drop_more (read_on n) bs i 0 here

  -- nineteen digits have room in 64 bits
  pub room : n < 10 ^ i → length bs ≤ 19 → true ≡ is_ascii_digit (get_or bs i 0) → (n * 10 + (get_or bs i 0 - 48) < 10 ^ (i + 1)) × (10 ^ (i + 1) ≤ 10 ^ 19)
  room h k e =
      let s : 10 ^ (i + 1) ≡ 10 ^ i * 10 = rw add-one (pow-suc 10 i) in
      let d : get_or bs i 0 - 48 < 10 = grind (arith, nat_tests) in
      let m : i + 1 ≤ 19 = omega arith in
      (omega arith, pow-le-pow_right {n = 10} (omega arith) m)
