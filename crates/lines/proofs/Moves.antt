-- A trade moves its quantity from the buyer to the seller.
use Rattle.std.proofs.Common.{◌≡◌, ℕ, ◌+◌, ◌*◌, ◌<◌, ◌≤◌, Bool, true, false, cond, eqb, ◌≢◌, List, length, get_or, take, set, ℤ, pos, ◌+ℤ◌, ◌-ℤ◌, nat_abs, sum_by, sym, refl, ap, ◌∙◌, inl, inr, arith, length-set, get_or-set_other, get_or-set_same}
use Rattle.std.proofs.lemmas.Int.{ints}
use Rattle.std.proofs.lemmas.Bool.Decides.{nat_tests}
use Rattle.std.proofs.lemmas.Bool.{cases_Bool}
use Rattle.std.proofs.lemmas.List.Sums.{sum_by_more}
use Rattle.trades.specs.declared.trade.Trade.{Trade}
use Rattle.trades.specs.Trades.{sound}
use Rattle.trades.proofs.Sums.{all_pass}
use Rattle.trades.proofs.Soundness.{Sound, sound_is}
use Rattle.inputs.specs.declared.tables.Tables.{Tables}
use Rattle.settlement.specs.Sums.{at}
use Rattle.settlement.proofs.Trading.{sells, buys}

-- a figure that is changed at one place
changed : (xs : List ℤ) (s m : ℕ) (q v : ℤ) → s < length xs → v ≡ at xs s +ℤ q → at (set xs s v) m ≡ at xs m +ℤ cond (eqb s m) q (pos 0)
changed xs s m q v l e = elim (cases_Bool (eqb s m)) [
  | inl t ↦
      let z : m ≡ s = grind (arith, nat_tests) in
      rw (t, z) (get_or-set_same xs s v (pos 0) l ∙ e)
  | inr t ↦
      let z : m ≢ s = grind (arith, nat_tests) in
      rw t (let h = get_or-set_other xs s m v (pos 0) z in omega (arith, ints))
]

-- a trade of q kWh from the member at b to the one at s
pub moved : (xs : List ℤ) (s b m q : ℕ) (v w : ℤ) → length xs ≡ 16 → s < 16 → b < 16 → q ≤ 500000 → nat_abs (at xs b) ≤ 32000000 → v ≡ at xs s +ℤ pos q
    → (nat_abs (at (set xs s v) b) ≤ 33000000 → w ≡ at (set xs s v) b -ℤ pos q)
    → at (set (set xs s v) b w) m ≡ at xs m +ℤ pos (cond (eqb s m) q 0) -ℤ pos (cond (eqb b m) q 0)
moved xs s b m q v w n ls lb small modest e f =
    let g = f (close (eqb s b) _ _ modest (changed xs s b (pos q) v (omega arith) e)) in
    let h = changed xs s m (pos q) v (omega arith) e in
    both (eqb s m) (eqb b m) _ _ _ h (changed (set xs s v) b m (pos 0 -ℤ pos q) w (omega (arith, length-set xs s v)) (omega (arith, ints)))
  where
    close : (c : Bool) (x y : ℤ) → nat_abs x ≤ 32000000 → y ≡ x +ℤ cond c (pos q) (pos 0) → nat_abs y ≤ 33000000
    close true x y k h = omega (arith, ints)
    close false x y k h = omega (arith, ints)

    both : (c d : Bool) (x y z : ℤ) → y ≡ x +ℤ cond c (pos q) (pos 0) → z ≡ y +ℤ cond d (pos 0 -ℤ pos q) (pos 0) → z ≡ x +ℤ pos (cond c q 0) -ℤ pos (cond d q 0)
    both true true x y z h i = omega (arith, ints)
    both true false x y z h i = omega (arith, ints)
    both false true x y z h i = omega (arith, ints)
    both false false x y z h i = omega (arith, ints)

pub trade_sound : (t : Tables) (i : ℕ) (d x : Trade) → i < length t.trades.places → x ≡ get_or t.trades.places i d → Sound x
trade_sound t i d x l e = sound_is x (ap sound e ∙ all_pass sound t.trades.places t.trades.sound i d l)

part : (b : Bool) (q : ℕ) → cond b q 0 ≤ q
part true q = omega arith
part false q = omega arith

-- one trade more, of the hour or of another
module _ (k m : ℕ) (ts : List Trade) (i : ℕ) (d x : Trade) (old new : ℤ) (l : i < length ts) (e : x ≡ get_or ts i d) (small : x.kwh ≤ 500000)
    (was : old ≡ pos (sum_by (sells k m) (take i ts)) -ℤ pos (sum_by (buys k m) (take i ts))) (modest : nat_abs old ≤ i * 500000) where
  pub net_more : eqb x.key.hour k ≡ true → new ≡ old +ℤ pos (cond (eqb x.key.seller m) x.kwh 0) -ℤ pos (cond (eqb x.key.buyer m) x.kwh 0)
      → (new ≡ pos (sum_by (sells k m) (take (i + 1) ts)) -ℤ pos (sum_by (buys k m) (take (i + 1) ts))) × (nat_abs new ≤ (i + 1) * 500000)
  net_more h now =
      let s = sum_by_more (sells k m) ts i d l ∙ ap (λ (y : Trade). sum_by (sells k m) (take i ts) + sells k m y) (sym e) in
      let b = sum_by_more (buys k m) ts i d l ∙ ap (λ (y : Trade). sum_by (buys k m) (take i ts) + buys k m y) (sym e) in
      let u : sells k m x ≡ cond (eqb x.key.seller m) x.kwh 0 = rw h refl in
      let v : buys k m x ≡ cond (eqb x.key.buyer m) x.kwh 0 = rw h refl in
      let p = part (eqb x.key.seller m) x.kwh in
      let q = part (eqb x.key.buyer m) x.kwh in
      (omega (arith, ints), omega (arith, ints))

  pub net_stays : eqb x.key.hour k ≡ false → new ≡ old
      → (new ≡ pos (sum_by (sells k m) (take (i + 1) ts)) -ℤ pos (sum_by (buys k m) (take (i + 1) ts))) × (nat_abs new ≤ (i + 1) * 500000)
  net_stays h now =
      let s = sum_by_more (sells k m) ts i d l ∙ ap (λ (y : Trade). sum_by (sells k m) (take i ts) + sells k m y) (sym e) in
      let b = sum_by_more (buys k m) ts i d l ∙ ap (λ (y : Trade). sum_by (buys k m) (take i ts) + buys k m y) (sym e) in
      let u : sells k m x ≡ 0 = rw h refl in
      let v : buys k m x ≡ 0 = rw h refl in
      (omega (arith, ints), omega (arith, ints))
