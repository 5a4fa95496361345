-- What setting the quantity under a key does to every key.
use Rattle.std.proofs.Common.{◌≡◌, ℕ, ◌<◌, ◌≤◌, Bool, true, false, cond, List, refl, ap, ◌∙◌, arith}
use Rattle.std.proofs.lemmas.Bool.Decides.{nat_tests}
use Rattle.trades.specs.declared.trade.TradeKey.{TradeKey}
use Rattle.trades.specs.Keys.{same_key}
use Rattle.trades.specs.Trades.{Traded, with_quantity}
use Rattle.inputs.specs.States.{State}
use Rattle.inputs.specs.Calls.{key_of, QuantitySet}

same_itself : (k : TradeKey) → same_key k k ≡ true
same_itself k = grind (arith, nat_tests)

pub quantity_set : (s : State) (hour : ℕ) (seller buyer : List ℕ) (kwh : ℕ) (left : State)
    → left.inputs.traded ≡ with_quantity s.inputs.traded (key_of s hour seller buyer) kwh → QuantitySet s hour seller buyer kwh left
quantity_set s hour seller buyer kwh left e =
    let key = key_of s hour seller buyer in
    record {
      asked_for = ap (λ (q : Traded). q key) e ∙ ap (λ (b : Bool). cond b kwh (s.inputs.traded key)) (same_itself key);
      others = λ k h. ap (λ (q : Traded). q k) e ∙ ap (λ (b : Bool). cond b kwh (s.inputs.traded k)) h;
    }

same_seller : (a b : TradeKey) → same_key a b ≡ true → a.seller ≡ b.seller
same_seller a b e = grind (arith, nat_tests)

same_buyer : (a b : TradeKey) → same_key a b ≡ true → a.buyer ≡ b.buyer
same_buyer a b e = grind (arith, nat_tests)

module _ (n : ℕ) (before after : Traded) (key : TradeKey) (kwh : ℕ) (set : after ≡ with_quantity before key kwh) where
  -- keys past the members on one side stay without a quantity
  absent : (side : TradeKey → ℕ) → ((k : TradeKey) → same_key k key ≡ true → side k ≡ side key) → side key < n
      → ((k : TradeKey) → n ≤ side k → before k ≡ 0) → (k : TradeKey) → n ≤ side k → after k ≡ 0
  absent side same l old k h = ap (λ (q : Traded). q k) set ∙ other (same_key k key) refl
    where
      other : (t : Bool) → same_key k key ≡ t → cond t kwh (before k) ≡ 0
      other true e = let s = same k e in absurd (omega arith)
      other false e = old k h

  pub no_other_seller : key.seller < n → ((k : TradeKey) → n ≤ k.seller → before k ≡ 0) → (k : TradeKey) → n ≤ k.seller → after k ≡ 0
  no_other_seller = absent (λ k. k.seller) (λ k. same_seller k key)

  pub no_other_buyer : key.buyer < n → ((k : TradeKey) → n ≤ k.buyer → before k ≡ 0) → (k : TradeKey) → n ≤ k.buyer → after k ≡ 0
  no_other_buyer = absent (λ k. k.buyer) (λ k. same_buyer k key)
