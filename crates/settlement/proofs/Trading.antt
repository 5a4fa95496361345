-- The trades of an hour by their keys.
use Rattle.std.proofs.Common.{◌≡◌, ℕ, zero, suc, ◌+◌, ◌*◌, ◌<◌, ◌≤◌, Bool, true, false, cond, ◌&&◌, eqb, List, [], ◌∷◌, length, ℤ, pos, ◌+ℤ◌, ◌≤ℤ◌, sum_by, refl, ap, ◌∙◌, arith}
use Rattle.std.specs.List.{range_with_len, All}
use Rattle.std.proofs.lemmas.List.Elements.{All-head, All-tail}
use Rattle.std.proofs.lemmas.Int.{ints}
use Rattle.std.proofs.lemmas.Bool.Decides.{nat_tests}
use Rattle.std.proofs.lemmas.List.Sums.{sum_by-cons}
use Rattle.trades.specs.declared.trade.Trade.{Trade}
use Rattle.trades.specs.Trades.{quantity_at}
use Rattle.settlement.specs.Sums.{sum}
use Rattle.settlement.proofs.Sums.{sum_plus, sum_zero, sum_none, sum_pick, sum_le}
use Rattle.settlement.proofs.Refunds.{everywhere}

-- whether a trade stands under the key of an hour, a seller and a buyer
abbrev under : ℕ → ℕ → ℕ → Trade → Bool
under k seller buyer t = eqb t.key.hour k && (eqb t.key.seller seller && eqb t.key.buyer buyer)

-- what a seller sells to a buyer in an hour
abbrev pub sold_in : List Trade → ℕ → ℕ → ℕ → ℕ
sold_in ts k seller buyer = quantity_at ts (record { hour = k; seller = seller; buyer = buyer })

-- one place of many, or none
sum_pick_le : (o a n : ℕ) (v : ℤ) → pos 0 ≤ℤ v → sum (range_with_len a n) (λ m. cond (eqb o m) v (pos 0)) ≤ℤ v
sum_pick_le o a zero v h = h
sum_pick_le o a (suc n) v h = by (eqb o a) refl (sum_pick_le o (a + 1) n v h)
  where
    by : (b : Bool) → eqb o a ≡ b → sum (range_with_len (a + 1) n) (λ m. cond (eqb o m) v (pos 0)) ≤ℤ v → (cond b v (pos 0) +ℤ sum (range_with_len (a + 1) n) (λ m. cond (eqb o m) v (pos 0))) ≤ℤ v
    by true e i =
        let l : o < a + 1 = grind (arith, nat_tests) in
        let z = sum_none o (a + 1) n v l in
        omega (arith, ints)
    by false e i = omega (arith, ints)

one_under : (k n : ℕ) (t : Trade) → sum (range_with_len 0 n) (λ seller. sum (range_with_len 0 n) (λ buyer. pos (cond (under k seller buyer t) t.kwh 0))) ≤ℤ pos t.kwh
one_under k n t =
    let inner = sum_le (range_with_len 0 n) (λ seller. sum (range_with_len 0 n) (λ buyer. pos (cond (under k seller buyer t) t.kwh 0))) (λ seller. cond (eqb t.key.seller seller) (pos t.kwh) (pos 0))
    (everywhere (λ seller. sum (range_with_len 0 n) (λ buyer. pos (cond (under k seller buyer t) t.kwh 0)) ≤ℤ cond (eqb t.key.seller seller) (pos t.kwh) (pos 0)) (λ seller. row (eqb t.key.hour k) (eqb t.key.seller seller)) (range_with_len 0 n)) in
    let outer = sum_pick_le t.key.seller 0 n (pos t.kwh) (omega (arith, ints)) in
    omega (arith, ints)
  where
    at_one : (b c e : Bool) (v : ℕ) → pos (cond (b && (c && e)) v 0) ≤ℤ cond c (cond e (pos v) (pos 0)) (pos 0)
    at_one true true true v = omega (arith, ints)
    at_one true true false v = omega (arith, ints)
    at_one true false e v = omega (arith, ints)
    at_one false true true v = omega (arith, ints)
    at_one false true false v = omega (arith, ints)
    at_one false false e v = omega (arith, ints)

    picked : (c : Bool) → sum (range_with_len 0 n) (λ buyer. cond c (cond (eqb t.key.buyer buyer) (pos t.kwh) (pos 0)) (pos 0)) ≤ℤ cond c (pos t.kwh) (pos 0)
    picked true = sum_pick_le t.key.buyer 0 n (pos t.kwh) (omega (arith, ints))
    picked false = let z = sum_zero (range_with_len 0 n) in omega (arith, ints)

    row : (b c : Bool) → sum (range_with_len 0 n) (λ buyer. pos (cond (b && (c && eqb t.key.buyer buyer)) t.kwh 0)) ≤ℤ cond c (pos t.kwh) (pos 0)
    row b c =
        let i = sum_le (range_with_len 0 n) (λ buyer. pos (cond (b && (c && eqb t.key.buyer buyer)) t.kwh 0)) (λ buyer. cond c (cond (eqb t.key.buyer buyer) (pos t.kwh) (pos 0)) (pos 0))
        (everywhere (λ buyer. pos (cond (b && (c && eqb t.key.buyer buyer)) t.kwh 0) ≤ℤ cond c (cond (eqb t.key.buyer buyer) (pos t.kwh) (pos 0)) (pos 0)) (λ buyer. at_one b c (eqb t.key.buyer buyer) t.kwh) (range_with_len 0 n)) in
        let p = picked c in
        omega (arith, ints)

all_under : (k n : ℕ) (ts : List Trade) → All (λ t. t.kwh ≤ 500000) ts
    → sum (range_with_len 0 n) (λ seller. sum (range_with_len 0 n) (λ buyer. pos (sold_in ts k seller buyer))) ≤ℤ pos (length ts * 500000)
all_under k n [] h = let z = ap (sum (range_with_len 0 n)) (λ i (seller : ℕ). sum_zero (range_with_len 0 n) i) ∙ sum_zero (range_with_len 0 n) in omega (arith, ints)
all_under k n (t ∷ ts) h =
    let one = one_under k n t in
    let more = all_under k n ts (All-tail (λ t. t.kwh ≤ 500000) t ts h) in
    let q = All-head (λ t. t.kwh ≤ 500000) t ts h in
    let split : sum (range_with_len 0 n) (λ seller. sum (range_with_len 0 n) (λ buyer. pos (sold_in (t ∷ ts) k seller buyer)))
    ≡ sum (range_with_len 0 n) (λ seller. sum (range_with_len 0 n) (λ buyer. pos (cond (under k seller buyer t) t.kwh 0))) +ℤ sum (range_with_len 0 n) (λ seller. sum (range_with_len 0 n) (λ buyer. pos (sold_in ts k seller buyer)))
    = ap (sum (range_with_len 0 n)) (λ i (seller : ℕ). (ap (sum (range_with_len 0 n)) (λ j (buyer : ℕ). pos (sum_by-cons (λ t. cond (under k seller buyer t) t.kwh 0) t ts j))
    ∙ sum_plus (range_with_len 0 n) (λ buyer. pos (cond (under k seller buyer t) t.kwh 0)) (λ buyer. pos (sold_in ts k seller buyer))) i)
    ∙ sum_plus (range_with_len 0 n) (λ seller. sum (range_with_len 0 n) (λ buyer. pos (cond (under k seller buyer t) t.kwh 0))) (λ seller. sum (range_with_len 0 n) (λ buyer. pos (sold_in ts k seller buyer))) in
    linear _ _ _ t.kwh (length ts) split one more q
  where
    linear : (a b c : ℤ) (q n : ℕ) → a ≡ b +ℤ c → b ≤ℤ pos q → c ≤ℤ pos (n * 500000) → q ≤ 500000 → a ≤ℤ pos (suc n * 500000)
    linear a b c q n e h k l = omega (arith, ints)

-- 64 trades of at most 500,000 kWh
pub trades_bounded : (k n : ℕ) (ts : List Trade) → length ts ≤ 64 → All (λ t. t.kwh ≤ 500000) ts → sum (range_with_len 0 n) (λ seller. sum (range_with_len 0 n) (λ buyer. pos (sold_in ts k seller buyer))) ≤ℤ pos 32000000
trades_bounded k n ts few small = let a = all_under k n ts small in omega (arith, ints)

-- ---- a member's sales and purchases, trade by trade

abbrev pub sells : ℕ → ℕ → Trade → ℕ
sells k m t = cond (eqb t.key.hour k && eqb t.key.seller m) t.kwh 0

abbrev pub buys : ℕ → ℕ → Trade → ℕ
buys k m t = cond (eqb t.key.hour k && eqb t.key.buyer m) t.kwh 0

posed : (e : Bool) (v : ℕ) → pos (cond e v 0) ≡ cond e (pos v) (pos 0)
posed true v = refl
posed false v = refl

one_sale : (n : ℕ) (b c : Bool) (o v : ℕ) → o < n → sum (range_with_len 0 n) (λ other. pos (cond (b && (c && eqb o other)) v 0)) ≡ pos (cond (b && c) v 0)
one_sale n true true o v l = ap (sum (range_with_len 0 n)) (λ i other. posed (eqb o other) v i) ∙ sum_pick o 0 n (pos v) (omega arith) (omega arith)
one_sale n true false o v l = sum_zero (range_with_len 0 n)
one_sale n false c o v l = sum_zero (range_with_len 0 n)

one_purchase : (n : ℕ) (b c : Bool) (o v : ℕ) → o < n → sum (range_with_len 0 n) (λ other. pos (cond (b && (eqb o other && c)) v 0)) ≡ pos (cond (b && c) v 0)
one_purchase n true true o v l = ap (sum (range_with_len 0 n)) (λ i other. (ap (λ (e : Bool). pos (cond e v 0)) (and_true (eqb o other)) ∙ posed (eqb o other) v) i) ∙ sum_pick o 0 n (pos v) (omega arith) (omega arith)
  where
    and_true : (e : Bool) → (e && true) ≡ e
    and_true true = refl
    and_true false = refl
one_purchase n true false o v l = ap (sum (range_with_len 0 n)) (λ i other. ap (λ (e : Bool). pos (cond e v 0)) (and_false (eqb o other)) i) ∙ sum_zero (range_with_len 0 n)
  where
    and_false : (e : Bool) → (e && false) ≡ false
    and_false true = refl
    and_false false = refl
one_purchase n false c o v l = sum_zero (range_with_len 0 n)

added : (a b c : ℤ) (u v w : ℕ) → a ≡ b +ℤ c → b ≡ pos u → c ≡ pos v → w ≡ u + v → a ≡ pos w
added a b c u v w e f g h = omega (arith, ints)

pub sales_by_trades : (n k m : ℕ) (ts : List Trade) → All (λ t. t.key.buyer < n) ts → sum (range_with_len 0 n) (λ other. pos (sold_in ts k m other)) ≡ pos (sum_by (sells k m) ts)
sales_by_trades n k m [] h = sum_zero (range_with_len 0 n)
sales_by_trades n k m (t ∷ ts) h =
    added _ _ _ (sells k m t) (sum_by (sells k m) ts) _
    (ap (sum (range_with_len 0 n)) (λ i other. pos (sum_by-cons (λ t. cond (under k m other t) t.kwh 0) t ts i))
    ∙ sum_plus (range_with_len 0 n) (λ other. pos (cond (under k m other t) t.kwh 0)) (λ other. pos (sold_in ts k m other)))
    (one_sale n (eqb t.key.hour k) (eqb t.key.seller m) t.key.buyer t.kwh (All-head (λ t. t.key.buyer < n) t ts h))
    (sales_by_trades n k m ts (All-tail (λ t. t.key.buyer < n) t ts h))
    (sum_by-cons (sells k m) t ts)

pub purchases_by_trades : (n k m : ℕ) (ts : List Trade) → All (λ t. t.key.seller < n) ts → sum (range_with_len 0 n) (λ other. pos (sold_in ts k other m)) ≡ pos (sum_by (buys k m) ts)
purchases_by_trades n k m [] h = sum_zero (range_with_len 0 n)
purchases_by_trades n k m (t ∷ ts) h =
    added _ _ _ (buys k m t) (sum_by (buys k m) ts) _
    (ap (sum (range_with_len 0 n)) (λ i other. pos (sum_by-cons (λ t. cond (under k other m t) t.kwh 0) t ts i))
    ∙ sum_plus (range_with_len 0 n) (λ other. pos (cond (under k other m t) t.kwh 0)) (λ other. pos (sold_in ts k other m)))
    (one_purchase n (eqb t.key.hour k) (eqb t.key.buyer m) t.key.seller t.kwh (All-head (λ t. t.key.seller < n) t ts h))
    (purchases_by_trades n k m ts (All-tail (λ t. t.key.seller < n) t ts h))
    (sum_by-cons (buys k m) t ts)
