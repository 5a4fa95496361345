-- What one change of the standing trades does to the quantities.
use Rattle.std.proofs.Common.{◌≡◌, ℕ, ◌+◌, ◌<◌, ◌≤◌, Bool, true, false, cond, not, List, [], ◌∷◌, ◌++◌, length, get_or, set, Some, None, sum_by, Option, sym, refl, ap, ◌∙◌, subst, inl, inr, arith, MatchOption}
use Rattle.std.proofs.lemmas.List.Sums.{sum_by-set, sum_by_push}
use Rattle.std.proofs.lemmas.Bool.{cases_Bool}
use Rattle.std.proofs.lemmas.Bool.Decides.{nat_tests}
use Rattle.std.specs.Prelude.{position}
use Rattle.rolls.specs.Places.{Apart}
use Rattle.rolls.proofs.Places.{place_some, place_missing}
use Rattle.trades.specs.declared.standing.Trades.{Trades}
use Rattle.trades.specs.declared.trade.Trade.{Trade}
use Rattle.trades.specs.declared.trade.TradeKey.{TradeKey}
use Rattle.trades.specs.Keys.{same_key, in_range}
use Rattle.trades.specs.Trades.{quantity_at, with_quantity, no_place, sound, unsound}
use Rattle.trades.proofs.Counts.{standing_is}
use Rattle.trades.proofs.Sums.{all_pass, none_sum, only_one}

abbrev has : TradeKey → Trade → Bool
has k t = same_key t.key k

-- a sum over what stands under a key
abbrev at_key : (Trade → ℕ) → List Trade → TradeKey → ℕ
at_key g ts k = sum_by (λ t. cond (has k t) (g t) 0) ts

-- where no place has the key, nothing stands under it
found_none : (ts : List Trade) (k : TradeKey) → position (has k) ts ≡ None → (g : Trade → ℕ) → at_key g ts k ≡ 0
found_none ts k e g = none_sum (has k) g ts (place_missing (has k) ts e)

-- what is found is all that stands under the key
found_one : (a : Trades) (k : TradeKey) (i : ℕ) (d : Trade) → position (has k) a.places ≡ Some i → (g : Trade → ℕ) → at_key g a.places k ≡ g (get_or a.places i d)
found_one a k i d e g =
    let at = place_some (has k) a.places i e in
    only_one (has k) g a.places i d at.0 (at.1 d) (a.apart k)

pub quantity_none : (ts : List Trade) (k : TradeKey) → position (has k) ts ≡ None → 0 ≡ quantity_at ts k
quantity_none ts k e = sym (found_none ts k e (λ t. t.kwh))

pub quantity_one : (a : Trades) (k : TradeKey) (i : ℕ) (d : Trade) → position (has k) a.places ≡ Some i → (get_or a.places i d).kwh ≡ quantity_at a.places k
quantity_one a k i d e = sym (found_one a k i d e (λ t. t.kwh))

same_is : (a b : TradeKey) → same_key a b ≡ true → a ≡ b
same_is a b e =
    let h : a.hour ≡ b.hour = grind (arith, nat_tests) in
    let s : a.seller ≡ b.seller = grind (arith, nat_tests) in
    let y : a.buyer ≡ b.buyer = grind (arith, nat_tests) in
    λ i. record { hour = h i; seller = s i; buyer = y i }

same_flip : (a b : TradeKey) → same_key a b ≡ same_key b a
same_flip a b = grind (arith, nat_tests)

-- what a trade adds to a sum, if there is one
abbrev part : (Trade → ℕ) → Option Trade → ℕ
part f None = 0
part f (Some t) = f t

abbrev Under : TradeKey → Option Trade → Type 0
Under k None = Unit {0}
Under k (Some t) = t.key ≡ k

part_at : (g : Trade → ℕ) (k j : TradeKey) (o : Option Trade) → Under k o → part (λ t. cond (same_key t.key j) (g t) 0) o ≡ cond (same_key j k) (part g o) 0
part_at g k j None u = grind arith
part_at g k j (Some t) u = rw (u, same_flip k j)

part_one : (o : Option Trade) → part (λ _. 1) o ≤ 1
part_one None = omega arith
part_one (Some t) = omega arith

abbrev Kept : List Trade → Type 0
Kept ts = Apart (λ t k. same_key t.key k) ts × (unsound ts ≡ 0)

-- the quantity set under k, with a place for it
pub record Changed (xs ys : List Trade) (k : TradeKey) (kwh : ℕ) : Type 0 where
  pub kept : Kept ys
  pub said : (no_place (quantity_at xs) k kwh ≡ false) × (quantity_at ys ≡ with_quantity (quantity_at xs) k kwh)

-- under k stood o, and now stands n: every sum changes by the two
module _ (a : Trades) (ys : List Trade) (k : TradeKey) (o n : Option Trade)
    (was : Under k o) (is : Under k n) (before : (g : Trade → ℕ) → at_key g a.places k ≡ part g o)
    (moved : (f : Trade → ℕ) → sum_by f ys + part f o ≡ sum_by f a.places + part f n) where
  at_moved : (g : Trade → ℕ) (j : TradeKey) → at_key g ys j ≡ cond (same_key j k) (part g n) (at_key g a.places j)
  at_moved g j =
      let m = moved (λ t. cond (same_key t.key j) (g t) 0) in
      let p = part_at g k j o was in
      let q = part_at g k j n is in
      elim (cases_Bool (same_key j k)) [
        | inl e ↦ let b = ap (at_key g a.places) (same_is j k e) ∙ before g in grind arith
        | inr e ↦ grind arith
      ]

  changed : (kwh : ℕ) → part (λ t. t.kwh) n ≡ kwh → part (λ t. cond (not (sound t)) 1 0) n ≡ 0 → no_place (quantity_at a.places) k kwh ≡ false → Changed a.places ys k kwh
  changed kwh e s free =
      record {
        kept = (λ j. grind (arith, at_moved (λ _. 1) j, a.apart j, part_one n), omega (arith, moved (λ t. cond (not (sound t)) 1 0), a.sound));
        said = (free, λ i j. (rw e at (at_moved (λ t. t.kwh) j)) i);
      }

module _ (a : Trades) (k : TradeKey) (kwh : ℕ) where
  abbrev xs : List Trade
  xs = a.places

  abbrev new : Trade
  new = record { key = k; kwh = kwh }

  pub full : position (has k) xs ≡ None → 0 < kwh → length xs ≡ 64 → no_place (quantity_at xs) k kwh ≡ true
  full e l m =
      let q = quantity_none xs k e in
      let s = standing_is xs a.apart a.sound in
      grind (arith, nat_tests)

  pub unchanged : position (has k) xs ≡ None → kwh ≤ 0 → Changed xs xs k kwh
  unchanged e l = changed a xs k None None tt tt (found_none xs k e) (λ f. refl) kwh (omega arith) refl (grind (arith, nat_tests))

  pub removed : (ys : List Trade) (i : ℕ) → position (has k) xs ≡ Some i → kwh ≤ 0 → (i < length xs → (f : Trade → ℕ) (d : Trade) → sum_by f ys + f (get_or xs i d) ≡ sum_by f xs) → Changed xs ys k kwh
  removed ys i e l is =
      let at = place_some (has k) xs i e in
      changed a ys k (Some (get_or xs i new)) None (same_is _ k (at.1 new)) tt (found_one a k i new e) (λ f. omega (arith, is at.0 f new)) kwh (omega arith) refl (grind (arith, nat_tests))

  module _ (ranged : in_range k ≡ true) (limited : kwh ≤ 500000) (some : 0 < kwh) where
    new_sound : ◌≡◌ {A = ℕ} (cond (not (sound new)) 1 0) 0
    new_sound = grind (arith, nat_tests)

    pub replaced : (ys : List Trade) (i : ℕ) → position (has k) xs ≡ Some i → ys ≡ set xs i new → Changed xs ys k kwh
    replaced ys i e is =
        let at = place_some (has k) xs i e in
        let q = quantity_one a k i new e in
        let s = all_pass sound xs a.sound i new at.0 in
        changed a ys k (Some (get_or xs i new)) (Some new) (same_is _ k (at.1 new)) refl (found_one a k i new e) (λ f. omega (arith, ap (sum_by f) is, sum_by-set f xs i new new at.0)) kwh refl new_sound (grind (arith, nat_tests))

    module _ (e : position (has k) xs ≡ None) (r : List Trade) where
      pub pushed : (i : ℕ) → (i ≡ length xs) × (i < 64) × (r ≡ xs ++ new ∷ []) → Changed xs r k kwh
      pushed i h =
          let s = standing_is xs a.apart a.sound in
          changed a r k None (Some new) tt refl (found_none xs k e) (λ f. omega (arith, ap (sum_by f) h.2, sum_by_push f xs new)) kwh refl new_sound (grind (arith, nat_tests))

      pub push_keeps : (o : Option ℕ) → MatchOption o ((length xs ≡ 64) × (r ≡ a.places)) (λ i. (i ≡ length xs) × (i < 64) × (r ≡ xs ++ new ∷ [])) → Kept r
      push_keeps None h = subst (λ (s : List Trade). Kept s) (sym h.1) (a.apart, a.sound)
      push_keeps (Some i) h = (pushed i h).kept
