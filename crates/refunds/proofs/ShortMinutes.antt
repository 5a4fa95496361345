-- The minutes of the events in which a resource had a shortfall.
use Rattle.std.proofs.Common.{◌≡◌, ℕ, ◌+◌, ◌<◌, ◌≤◌, Bool, true, false, cond, List, map, length, get_or, take, ℤ, pos, ◌+ℤ◌, filter, sym, refl, ap, ◌∙◌}
use lib.Signed.{lt_z}
use Rattle.std.proofs.lemmas.List.{map_more, take_all}
use Rattle.allocation.specs.Weights.{total}
use Rattle.allocation.specs.Totals.{total_push}
use Rattle.settlement.specs.Sums.{sum}
use Rattle.settlement.proofs.Sums.{sum_kept}

-- one more of a front
pub sum_front_more : {X : Type 0} (xs : List X) (f : X → ℤ) (i j : ℕ) (d x : X) → i < length xs → x ≡ get_or xs i d → j ≡ i + 1 → sum (take j xs) f ≡ sum (take i xs) f +ℤ f x
sum_front_more {X} xs f i j d x l is next = rw (next, is) (ap total (map_more f xs i d l) ∙ total_push (map f (take i xs)) (f (get_or xs i d)))

-- at the end, what is not kept by either test counts as zero
pub sum_kept_twice : {X : Type 0} (p q : X → Bool) (xs : List X) (f : X → ℤ) (i : ℕ) (z : ℤ) → length xs ≤ i
    → z ≡ sum (take i xs) (λ x. cond (p x) (cond (q x) (f x) (pos 0)) (pos 0)) → z ≡ sum (filter q (filter p xs)) f
sum_kept_twice {X} p q xs f i z l h =
    h ∙ ap (λ (us : List X). sum us (λ x. cond (p x) (cond (q x) (f x) (pos 0)) (pos 0))) (take_all i xs l)
    ∙ sym (sum_kept p xs (λ x. cond (q x) (f x) (pos 0))) ∙ sym (sum_kept q (filter p xs) f)

-- a figure above zero is of an event that counts
pub above_zero : (b : Bool) (s row m : ℤ) → row ≡ cond b s (pos 0) → lt_z (pos 0) row ≡ true → cond b (cond (lt_z (pos 0) s) m (pos 0)) (pos 0) ≡ m
above_zero true s row m e h = ap (λ (c : Bool). cond c m (pos 0)) (sym (ap (lt_z (pos 0)) e) ∙ h)
above_zero false s row m e h = let z : false ≡ true = sym (ap (lt_z (pos 0)) e) ∙ h in cc

pub not_above_zero : (b : Bool) (s row m : ℤ) → row ≡ cond b s (pos 0) → lt_z (pos 0) row ≡ false → cond b (cond (lt_z (pos 0) s) m (pos 0)) (pos 0) ≡ pos 0
not_above_zero true s row m e h = ap (λ (c : Bool). cond c m (pos 0)) (sym (ap (lt_z (pos 0)) e) ∙ h)
not_above_zero false s row m e h = refl
