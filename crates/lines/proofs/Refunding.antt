-- Whether a member has a resource with a day refund.
use Rattle.std.proofs.Common.{◌≡◌, ℕ, zero, suc, ◌+◌, ◌≤◌, Bool, true, false, cond, eqb, ◌&&◌, ◌||◌, List, [], ◌∷◌, length, get_or, ℤ, pos, filter, sym, refl, ap, ◌∙◌, arith}
use lib.Signed.{lt_z}
use Rattle.std.specs.List.{range_with_len, list_any, zip}
use Rattle.std.specs.Int.{int_max}
use Rattle.std.proofs.lemmas.Int.{ints, clamps}
use Rattle.events.specs.declared.resource.Resource.{Resource}
use Rattle.events.specs.Resources.{no_resource}
use Rattle.settlement.specs.Sums.{largest, at}

-- the places after the first, counted from the first
shifted : (p : ℕ → Bool) (f : ℕ → ℤ) (a n : ℕ) → largest (filter p (range_with_len (suc a) n)) f ≡ largest (filter (λ k. p (suc k)) (range_with_len a n)) (λ k. f (suc k))
shifted p f a zero = refl
shifted p f a (suc n) = by (p (suc a)) (let e : suc a + 1 ≡ suc (a + 1) = omega arith in ap (λ (i : ℕ). largest (filter p (range_with_len i n)) f) e ∙ shifted p f (a + 1) n)
  where
    by : (b : Bool) → largest (filter p (range_with_len (suc a + 1) n)) f ≡ largest (filter (λ k. p (suc k)) (range_with_len (a + 1) n)) (λ k. f (suc k))
        → largest (cond b (suc a ∷ filter p (range_with_len (suc a + 1) n)) (filter p (range_with_len (suc a + 1) n))) f
        ≡ largest (cond b (a ∷ filter (λ k. p (suc k)) (range_with_len (a + 1) n)) (filter (λ k. p (suc k)) (range_with_len (a + 1) n))) (λ k. f (suc k))
    by true h = ap (int_max (f (suc a))) h
    by false h = h

above_either : (x y : ℤ) → (lt_z (pos 0) x || lt_z (pos 0) y) ≡ lt_z (pos 0) (int_max x y)
above_either x y = grind (arith, ints, clamps)

-- some resource of the member has a figure above zero, if the largest of its figures is
pub above_any : (m : ℕ) (rs : List Resource) (fs : List ℤ) → length rs ≤ length fs
    → list_any (λ x. eqb x.0.owner m && lt_z (pos 0) x.1) (zip rs fs) ≡ lt_z (pos 0) (largest (filter (λ k. eqb (get_or rs k no_resource).owner m) (range_with_len 0 (length rs))) (at fs))
above_any m [] fs l = refl
above_any m (r ∷ rs) [] l = absurd (omega arith)
above_any m (r ∷ rs) (x ∷ fs) l =
    by (eqb r.owner m) (above_any m rs fs (omega arith) ∙ ap (lt_z (pos 0)) (sym (shifted (λ k. eqb (get_or (r ∷ rs) k no_resource).owner m) (at (x ∷ fs)) 0 (length rs))))
  where
    by : (b : Bool)
        → list_any (λ x. eqb x.0.owner m && lt_z (pos 0) x.1) (zip rs fs) ≡ lt_z (pos 0) (largest (filter (λ k. eqb (get_or (r ∷ rs) k no_resource).owner m) (range_with_len 1 (length rs))) (at (x ∷ fs)))
        → ((b && lt_z (pos 0) x) || list_any (λ x. eqb x.0.owner m && lt_z (pos 0) x.1) (zip rs fs))
        ≡ lt_z (pos 0) (largest (cond b (0 ∷ filter (λ k. eqb (get_or (r ∷ rs) k no_resource).owner m) (range_with_len 1 (length rs))) (filter (λ k. eqb (get_or (r ∷ rs) k no_resource).owner m) (range_with_len 1 (length rs)))) (at (x ∷ fs)))
    by true h = ap (λ (b : Bool). lt_z (pos 0) x || b) h ∙ above_either x _
    by false h = h
