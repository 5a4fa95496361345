-- What the laws of a rule say of what is allocated.
use Rattle.std.proofs.Common.{◌≡◌, ℕ, zero, suc, ◌<◌, false, ◌⊎◌, List, [], ◌∷◌, map, length, ℤ, pos, negsuc, ◌*ℤ◌, ◌<ℤ◌, sym, refl, ap, ◌∙◌, inl, inr, arith}
use Rattle.std.proofs.lemmas.Int.{ints}
use Rattle.std.proofs.lemmas.Bool.Decides.{nat_tests}
use Rattle.std.proofs.lemmas.List.{length-map}
use Rattle.allocation.specs.Weights.{total}
use Rattle.allocation.specs.Refusals.{Admissible}
use Rattle.allocation.specs.RoundingLemmas.{Near, near_from_rounded}
use Rattle.settlement.specs.Sums.{at, is_zero, Meaning, allocated}
use Rattle.settlement.specs.Laws.{Lawful, Allocable}
use Rattle.settlement.proofs.Sums.{sum_zero}

pub at_zeros : {X : Type 0} (ws : List X) (k : ℕ) → at (map (λ _. pos 0) ws) k ≡ pos 0
at_zeros [] k = refl
at_zeros (w ∷ ws) zero = refl
at_zeros (w ∷ ws) (suc k) = at_zeros ws k

pub zero_allocated : (t : Meaning) (a : ℤ) (ws : List ℤ) → a ≡ pos 0 → allocated t a ws ≡ map (λ _. pos 0) ws
unfolding allocated
zero_allocated t a ws e = rw e refl

something : (t : Meaning) (a : ℤ) (ws : List ℤ) → is_zero a ≡ false → allocated t a ws ≡ t a ws
unfolding allocated
something t a ws e = rw e refl

pub zero_or_not : (a : ℤ) → (a ≡ pos 0) ⊎ (is_zero a ≡ false)
zero_or_not (pos zero) = inl refl
zero_or_not (pos (suc n)) = inr (grind (arith, nat_tests))
zero_or_not (negsuc n) = inr (grind (arith, nat_tests))

-- either all are zero, or they are the rule's
pub cases : (t : Meaning) (a : ℤ) (ws : List ℤ) → Allocable a ws
    → ((a ≡ pos 0) × (allocated t a ws ≡ map (λ _. pos 0) ws)) ⊎ (Admissible a ws × (allocated t a ws ≡ t a ws))
cases t a ws (inl e) = inl (e, zero_allocated t a ws e)
cases t a ws (inr s) = elim (zero_or_not a) [ inl e ↦ inl (e, zero_allocated t a ws e) | inr e ↦ inr (s, something t a ws e) ]

pub allocated_total : (t : Meaning) (a : ℤ) (ws : List ℤ) → Lawful t → Allocable a ws → total (allocated t a ws) ≡ a
allocated_total t a ws l h = elim (cases t a ws h) [
  | inl p ↦ ap total p.1 ∙ sum_zero ws ∙ sym p.0
  | inr p ↦ ap total p.1 ∙ l.whole a ws p.0
]

pub allocated_length : (t : Meaning) (a : ℤ) (ws : List ℤ) → Lawful t → Allocable a ws → length (allocated t a ws) ≡ length ws
allocated_length t a ws l h = elim (cases t a ws h) [
  | inl p ↦ ap length p.1 ∙ length-map ws (λ _. pos 0)
  | inr p ↦ ap length p.1 ∙ l.counted a ws p.0
]

zero_near : (w : ℤ) → pos 0 <ℤ w → (v : ℤ) → v ≡ pos 0 → Near (pos 0) v w
zero_near w h v e = (omega (arith, ints), omega (arith, ints))

zero_times : (a w : ℤ) → a ≡ pos 0 → a *ℤ w ≡ pos 0
zero_times a w e = ap (λ (z : ℤ). z *ℤ w) e ∙ omega (arith, ints)

-- a share is within one of its exact value
pub allocated_near : (t : Meaning) (a : ℤ) (ws : List ℤ) (k : ℕ) → Lawful t → Allocable a ws → pos 0 <ℤ total ws → k < length ws
    → Near (at (allocated t a ws) k) (a *ℤ at ws k) (total ws)
allocated_near t a ws k l h w i = elim (cases t a ws h) [
  | inl p ↦ rw (ap (λ (zs : List ℤ). at zs k) p.1 ∙ at_zeros ws k) (zero_near (total ws) w (a *ℤ at ws k) (zero_times a (at ws k) p.0))
  | inr p ↦ rw p.1 (near_from_rounded (at (t a ws) k) (a *ℤ at ws k) (total ws) w (l.rounded a ws p.0 k i))
]
