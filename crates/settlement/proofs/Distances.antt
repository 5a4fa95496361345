-- The distance of a clearing charge from its exact value.
use Rattle.std.proofs.Common.{◌≡◌, ℕ, ◌*◌, ℤ, pos, negsuc, ◌+ℤ◌, ◌-ℤ◌, ◌*ℤ◌, nat_abs, ◌≤ℤ◌, ◌<ℤ◌, sym, refl, ap, ◌∙◌, mul-le-mul_left, arith}
use borrow.Author.Differences.{up, down, product_is, le_out}
use Rattle.std.proofs.lemmas.Int.{ints}
use Rattle.allocation.specs.Products.{sum_times, times_sum, next_multiple}
use Rattle.allocation.specs.RoundingLemmas.{Near}
use Rattle.settlement.specs.Laws.{Close}

pub times_assoc : (a b c : ℤ) → (a *ℤ b) *ℤ c ≡ a *ℤ (b *ℤ c)
times_assoc a b c =
    let p = product_is a b in
    let r = product_is b c in
    omega (
      arith,
      ints,
      ap (λ (n : ℕ). n * up c) p.0,
      ap (λ (n : ℕ). n * down c) p.0,
      ap (λ (n : ℕ). n * up c) p.1,
      ap (λ (n : ℕ). n * down c) p.1,
      ap (λ (n : ℕ). up a * n) r.0,
      ap (λ (n : ℕ). down a * n) r.0,
      ap (λ (n : ℕ). up a * n) r.1,
      ap (λ (n : ℕ). down a * n) r.1,
    )

pub lt_times : (a b c : ℤ) → a <ℤ b → pos 0 <ℤ c → (a *ℤ c) <ℤ (b *ℤ c)
lt_times a b c h k = let n = next_multiple a b c k h in omega (arith, ints)

-- at a factor that is not negative
pub le_times : (a b : ℤ) (n : ℕ) → a ≤ℤ b → (pos n *ℤ a) ≤ℤ (pos n *ℤ b)
le_times a b n h = omega (arith, ints, mul-le-mul_left n (le_out a b h))

-- the products as variables
joined : (g cAT cadjT coT cBT cAL cT AT sum : ℤ)
    → cAT <ℤ (cadjT +ℤ AT) → cadjT <ℤ (cAT +ℤ AT) → cadjT ≡ coT +ℤ cBT → coT ≤ℤ (cAL +ℤ cT) → cAL ≤ℤ (coT +ℤ cT) → g ≡ cAT -ℤ sum → sum ≡ cAL +ℤ cBT
    → pos (nat_abs g) <ℤ (AT +ℤ cT)
joined g cAT cadjT coT cBT cAL cT AT sum h1 h2 h3 h4 h5 h6 h7 = omega (arith, ints)

pub close : (c A T C L B o : ℤ) → pos 0 <ℤ T → pos 0 ≤ℤ C → Near c (C *ℤ (o +ℤ B)) A → Near o (A *ℤ L) T → Close c A T C L B
close c A T (pos n) L B o t z near_c near_o =
    let C = pos n in
    joined (c *ℤ A *ℤ T -ℤ C *ℤ (A *ℤ L +ℤ B *ℤ T)) (c *ℤ A *ℤ T) (C *ℤ (o +ℤ B) *ℤ T) (C *ℤ (o *ℤ T)) (C *ℤ (B *ℤ T)) (C *ℤ (A *ℤ L)) (C *ℤ T) (A *ℤ T) (C *ℤ (A *ℤ L +ℤ B *ℤ T))
    (rw (sym (sum_times (C *ℤ (o +ℤ B)) A T)) (lt_times (c *ℤ A) (C *ℤ (o +ℤ B) +ℤ A) T near_c.0 t))
    (rw (sym (sum_times (c *ℤ A) A T)) (lt_times (C *ℤ (o +ℤ B)) (c *ℤ A +ℤ A) T near_c.1 t))
    (times_assoc C (o +ℤ B) T ∙ ap (λ (z : ℤ). C *ℤ z) (sum_times o B T) ∙ times_sum C (o *ℤ T) (B *ℤ T))
    (rw (sym (times_sum C (A *ℤ L) T)) (le_times (o *ℤ T) (A *ℤ L +ℤ T) n (weak near_o.0)))
    (rw (sym (times_sum C (o *ℤ T) T)) (le_times (A *ℤ L) (o *ℤ T +ℤ T) n (weak near_o.1)))
    refl (times_sum C (A *ℤ L) (B *ℤ T))
  where
    weak : {a b : ℤ} → a <ℤ b → a ≤ℤ b
    weak {a} {b} h = omega (arith, ints)
close c A T (negsuc n) L B o t z near_c near_o = absurd (omega (arith, ints))
