-- Steps of the loops.
use Rattle.std.proofs.Common.{◌≡◌, ℕ, ◌+◌, ◌<◌, ◌≤◌, Bool, true, false, cond, List, [], ◌∷◌, ◌++◌, map, length, replicate, ℤ, pos, ◌+ℤ◌, nat_abs, ◌≤ℤ◌, Ok, Err, filter, Result, sym, refl, ap, ◌∙◌, inl, inr, arith}
use Rattle.std.specs.List.{All, range_with_len}
use Rattle.settlement.proofs.Sums.{sum_kept, sum_all}
use Rattle.settlement.specs.Days.{Day, resources, owned}
use Rattle.settlement.proofs.Bounds.{all_owned}
use Rattle.std.proofs.lemmas.List.{map-id, append-nil}
use Rattle.std.proofs.lemmas.List.Elements.{All-head, All-tail, filter-append}
use Rattle.std.proofs.lemmas.Int.{ints}
use Rattle.std.proofs.lemmas.List.FromFn.{map-range_with_len_more}
use Rattle.allocation.specs.Weights.{total}
use Rattle.allocation.specs.Refusals.{Admissible, verdict}
use Rattle.allocation.specs.Rules.{Allocated}
use Rattle.allocation.specs.declared.refusal.AllocationRefusal.{AllocationRefusal}
use Rattle.allocation.specs.Verdicts.{admits}
use Rattle.allocation.specs.Totals.{total_push}
use Rattle.settlement.specs.Sums.{sum, Meaning, allocated}
use Rattle.settlement.specs.Laws.{Allocable}
use Rattle.settlement.proofs.Shares.{cases}

pub sum_more : (f : ℕ → ℤ) (n : ℕ) → sum (range_with_len 0 (n + 1)) f ≡ sum (range_with_len 0 n) f +ℤ f n
sum_more f n = ap total (map-range_with_len_more f 0 n n (omega arith)) ∙ total_push (map f (range_with_len 0 n)) (f n)

pub zeros_are : (ws : List ℤ) (n : ℕ) → n ≡ length ws → replicate n (pos 0) ≡ map (λ _. pos 0) ws
zeros_are ws n e = ap (λ (k : ℕ). replicate k (pos 0)) e ∙ by ws
  where
    by : (ws : List ℤ) → replicate (length ws) (pos 0) ≡ map (λ _. pos 0) ws
    by [] = refl
    by (w ∷ ws) = ap (λ (zs : List ℤ). pos 0 ∷ zs) (by ws)

-- where the rule does not refuse, the shares are the rule's
pub allocated_fixed : (a : ℤ) (ws : List ℤ) (n : ℕ) (r : Result (Unit {0}) AllocationRefusal) (before after fixed : List ℤ) → Admissible a ws → n ≡ length ws → Allocated (verdict a ws n) r before after fixed → after ≡ fixed
allocated_fixed a ws n r before after fixed s e h = by (verdict a ws n) (ap (verdict a ws) e ∙ admits a ws s) h
  where
    by : (v : Result ℤ AllocationRefusal) → v ≡ Ok (total ws) → Allocated v r before after fixed → after ≡ fixed
    by (Ok w) q h = h.1
    by (Err y) q h = let z : ◌≡◌ {A = ℕ} 0 1 = cc in absurd (omega arith)

pub some_allocated : (t : Meaning) (a : ℤ) (ws : List ℤ) → (a ≡ pos 0 → ⊥) → Allocable a ws → Admissible a ws × (allocated t a ws ≡ t a ws)
some_allocated t a ws n h = elim (cases t a ws h) [ inl p ↦ absurd (n p.0) | inr p ↦ p ]

pub own_yes : (p : ℕ → Bool) (f : ℕ → ℤ) (n : ℕ) → p n ≡ true → sum (filter p (range_with_len 0 (n + 1))) f ≡ sum (filter p (range_with_len 0 n)) f +ℤ f n
own_yes p f n e = let h = sum_kept p (range_with_len 0 (n + 1)) f in let i = sum_kept p (range_with_len 0 n) f in let m = sum_more (λ x. cond (p x) (f x) (pos 0)) n in let v : cond (p n) (f n) (pos 0) ≡ f n = rw e refl in omega (arith, ints)

pub own_no : (p : ℕ → Bool) (f : ℕ → ℤ) (n : ℕ) → p n ≡ false → sum (filter p (range_with_len 0 (n + 1))) f ≡ sum (filter p (range_with_len 0 n)) f
own_no p f n e = let h = sum_kept p (range_with_len 0 (n + 1)) f in let i = sum_kept p (range_with_len 0 n) f in let m = sum_more (λ x. cond (p x) (f x) (pos 0)) n in let v : cond (p n) (f n) (pos 0) ≡ pos 0 = rw e refl in omega (arith, ints)

counting_more : (n : ℕ) → range_with_len 0 (n + 1) ≡ range_with_len 0 n ++ n ∷ []
counting_more n = sym (map-id (range_with_len 0 (n + 1))) ∙ map-range_with_len_more (λ (x : ℕ). x) 0 n n (omega arith) ∙ ap (λ (xs : List ℕ). xs ++ n ∷ []) (map-id (range_with_len 0 n))

kept_more : (p : ℕ → Bool) (n : ℕ) → filter p (range_with_len 0 (n + 1)) ≡ filter p (range_with_len 0 n) ++ cond (p n) (n ∷ []) []
kept_more p n = ap (filter p) (counting_more n) ∙ filter-append p (range_with_len 0 n) (n ∷ [])

pub kept_yes : (p : ℕ → Bool) (n : ℕ) → p n ≡ true → filter p (range_with_len 0 (n + 1)) ≡ filter p (range_with_len 0 n) ++ n ∷ []
kept_yes p n e = kept_more p n ∙ ap (λ (b : Bool). filter p (range_with_len 0 n) ++ cond b (n ∷ []) []) e

pub kept_no : (p : ℕ → Bool) (n : ℕ) → p n ≡ false → filter p (range_with_len 0 (n + 1)) ≡ filter p (range_with_len 0 n)
kept_no p n e = kept_more p n ∙ ap (λ (b : Bool). filter p (range_with_len 0 n) ++ cond b (n ∷ []) []) e ∙ append-nil (filter p (range_with_len 0 n))

-- figures that agree on every resource agree on an owner's
pub own_same : (d : Day) (m : ℕ) (f g : ℕ → ℤ) → ((r : ℕ) → r < length d.roll → f r ≡ g r) → sum (owned d m (resources d)) f ≡ sum (owned d m (resources d)) g
own_same d m f g h = sum_all (owned d m (resources d)) f g (all_owned d (λ r. f r ≡ g r) m h)

pub own_map_same : (d : Day) (m : ℕ) (f g : ℕ → ℤ) → ((r : ℕ) → r < length d.roll → f r ≡ g r) → map f (owned d m (resources d)) ≡ map g (owned d m (resources d))
own_map_same d m f g h = by (owned d m (resources d)) (all_owned d (λ r. f r ≡ g r) m h)
  where
    by : (rs : List ℕ) → All (λ r. f r ≡ g r) rs → map f rs ≡ map g rs
    by [] k = refl
    by (r ∷ rs) k = let e = All-head (λ r. f r ≡ g r) r rs k in let i = by rs (All-tail (λ r. f r ≡ g r) r rs k) in cc

pub small_at : (v w : ℤ) (n : ℕ) → v ≡ w → pos 0 ≤ℤ w → w ≤ℤ pos n → n ≤ 1000000000000 → nat_abs v ≤ 1000000000000
small_at v w n e h k l = omega (arith, ints)

pub allocated_at : (t : Meaning) (a a' : ℤ) (ws ws' xs : List ℤ) → xs ≡ allocated t a ws → a ≡ a' → ws ≡ ws' → xs ≡ allocated t a' ws'
allocated_at t a a' ws ws' xs h e f = h ∙ ap (λ (z : ℤ). allocated t z ws) e ∙ ap (allocated t a') f

pub accepted_at : (a a' : ℤ) (ws ws' : List ℤ) → a ≡ a' → ws ≡ ws' → Allocable a' ws' → Allocable a ws
accepted_at a a' ws ws' e f h = rw (e, f) h
