-- Signs with zeros after them.
use Rattle.std.proofs.Common.{◌≡◌, ℕ, ◌-◌, zero, suc, true, false, not, eqb, List, [], ◌∷◌, ◌++◌, length, take, drop, replicate, refl, ap, ◌∙◌, arith}
use Rattle.std.specs.List.{list_all, prefix_len, take_while}
use Rattle.std.proofs.Math.Seq.{take-append_seam}
use Rattle.std.proofs.lemmas.Bool.{and_parts}
use Rattle.std.proofs.lemmas.List.{drop-replicate}
use Rattle.std.proofs.lemmas.Bool.Decides.{nat_tests}
use Rattle.rolls.specs.Codes.{is_sign}

zeros : (n : ℕ) → prefix_len (λ b. not (eqb b 0)) (replicate n 0) ≡ 0
zeros zero = refl
zeros (suc n) = refl

not_zero : (b : ℕ) → is_sign b ≡ true → eqb b 0 ≡ false
not_zero b e = grind (arith, nat_tests)

signs_first : (bs : List ℕ) (n : ℕ) → list_all is_sign bs ≡ true → prefix_len (λ b. not (eqb b 0)) (bs ++ replicate n 0) ≡ length bs
signs_first [] n e = zeros n
signs_first (b ∷ bs) n e = let p = and_parts (is_sign b) (list_all is_sign bs) e in let r = signs_first bs n p.1 in rw (not_zero b p.0) (omega (arith, r))

-- what stands before the zeros is the signs
pub before_zeros : (bs : List ℕ) (n : ℕ) → list_all is_sign bs ≡ true → take_while (λ b. not (eqb b 0)) (bs ++ replicate n 0) ≡ bs
before_zeros bs n e = ap (λ (k : ℕ). take k (bs ++ replicate n 0)) (signs_first bs n e) ∙ take-append_seam bs (replicate n 0)

-- what is left of six zeros past the signs
pub padded : (n : ℕ) → drop {A = ℕ} n (replicate 6 0) ≡ replicate (6 - n) 0
padded n = drop-replicate n 6 0
