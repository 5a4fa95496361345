-- How many trades stand.
use Rattle.std.proofs.Common.{◌≡◌, ℕ, ◌+◌, ◌≤◌, Bool, true, cond, ◌&&◌, ltb, List, [], ◌∷◌, map, length, sum_by, count_by, refl, ap, ◌∙◌, inl, inr, arith}
use Rattle.std.specs.List.{range_with_len, flat_map, AllPass}
use Rattle.std.proofs.lemmas.List.Elements.{All-head, All-tail}
use Rattle.std.proofs.lemmas.List.Sums.{sum_by-cons}
use Rattle.std.proofs.lemmas.Bool.{cases_Bool, and_parts}
use Rattle.std.proofs.lemmas.Bool.Decides.{nat_tests}
use Rattle.rolls.specs.Places.{Apart}
use Rattle.trades.specs.declared.trade.TradeKey.{TradeKey}
use Rattle.trades.specs.declared.trade.Trade.{Trade}
use Rattle.trades.specs.Keys.{same_key, in_range}
use Rattle.trades.specs.Trades.{quantity_at, all_keys, standing, sound, unsound}
use Rattle.trades.proofs.Sums.{sum_split, only_at, only_joined, all_pass, none_sum}

abbrev one : Bool → ℕ
one b = cond b 1 0

abbrev key : ℕ → ℕ → ℕ → TradeKey
key h s b = record { hour = h; seller = s; buyer = b }

-- a key below three bounds stands once among all of them
module _ (k : TradeKey) (hours sellers buyers : ℕ) (inside : (ltb k.hour hours && (ltb k.seller sellers && ltb k.buyer buyers)) ≡ true) where
  abbrev same : TradeKey → ℕ
  same j = one (same_key k j)

  abbrev row : ℕ → ℕ → List TradeKey
  row h s = map (key h s) (range_with_len 0 buyers)

  abbrev block : ℕ → List TradeKey
  block h = flat_map (row h) (range_with_len 0 sellers)

  row_is : (h s : ℕ) → sum_by same (row h s) ≡ same (key h s k.buyer)
  row_is h s = only_at same (key h s) k.buyer buyers (λ j ne. grind (arith, nat_tests)) (grind (arith, nat_tests))

  block_is : (h : ℕ) → sum_by same (block h) ≡ same (key h k.seller k.buyer)
  block_is h = only_joined same (row h) k.seller sellers (λ j ne. row_is h j ∙ grind (arith, nat_tests)) (grind (arith, nat_tests)) ∙ row_is h k.seller

  once : sum_by same (flat_map block (range_with_len 0 hours)) ≡ 1
  once = only_joined same block k.hour hours (λ j ne. block_is j ∙ grind (arith, nat_tests)) (grind (arith, nat_tests)) ∙ block_is k.hour ∙ grind (arith, nat_tests)

-- one more trade under a key of its own
one_more : (t : Trade) (ts : List Trade) (k : TradeKey) → count_by (λ t. same_key t.key k) (t ∷ ts) ≤ 1 → sound t ≡ true → one (ltb 0 (quantity_at (t ∷ ts) k)) ≡ one (same_key t.key k) + one (ltb 0 (quantity_at ts k))
one_more t ts k apart s =
    let c = sum_by-cons (λ t. one (same_key t.key k)) t ts in
    let q = sum_by-cons (λ t. cond (same_key t.key k) t.kwh 0) t ts in
    elim (cases_Bool (same_key t.key k)) [
      | inl e ↦
          let new = none_sum (λ t. same_key t.key k) (λ t. t.kwh) ts (omega (arith, ap one e)) in
          grind (arith, nat_tests)
      | inr e ↦ grind (arith, nat_tests)
    ]

-- among keys that hold each key in range once, as many have a quantity as trades stand
module _ (ks : List TradeKey) (each : (k : TradeKey) → in_range k ≡ true → count_by (same_key k) ks ≡ 1) where
  counted : (ts : List Trade) → Apart (λ t k. same_key t.key k) ts → AllPass sound ts → count_by (λ k. ltb 0 (quantity_at ts k)) ks ≡ length ts
  counted [] apart s = omega (arith, sum_split {X = TradeKey} (λ _. 0) (λ _. 0) (λ _. 0) (λ _. refl) ks)
  counted (t ∷ ts) apart s =
      let e = All-head (λ t. sound t ≡ true) t ts s in
      let more = sum_split (λ k. one (ltb 0 (quantity_at (t ∷ ts) k))) (λ k. one (same_key t.key k)) (λ k. one (ltb 0 (quantity_at ts k))) (λ k. one_more t ts k (apart k) e) ks in
      let first = each t.key (and_parts (in_range t.key) _ e).0 in
      let rest = counted ts (λ k. omega (arith, apart k, sum_by-cons (λ t. one (same_key t.key k)) t ts)) (All-tail (λ t. sound t ≡ true) t ts s) in
      omega arith

-- the keys with a quantity are as many as the trades
pub standing_is : (ts : List Trade) → Apart (λ t k. same_key t.key k) ts → unsound ts ≡ 0 → standing (quantity_at ts) ≡ length ts
unfolding standing
standing_is ts apart s = counted all_keys (λ k h. once k 24 16 16 h) ts apart (all_pass sound ts s)
