-- Standing trades, by the quantity under each key.
use Rattle.std.specs.Prelude.{ℕ, Bool, cond, not, ◌&&◌, ltb, List, map, sum_by, count_by, ◌==◌, nat_le, nat_lt}
use Rattle.std.specs.List.{range_with_len, flat_map}
use Rattle.trades.specs.declared.trade.TradeKey.{TradeKey}
use Rattle.trades.specs.declared.trade.Trade.{Trade}
use Rattle.trades.specs.Keys.{same_key, in_range}

-- the kWh under each key
abbrev pub Traded : Type 0
Traded = TradeKey → ℕ

abbrev pub no_trades : Traded
no_trades k = 0

-- what stands under a key, and 0 where nothing does
abbrev pub quantity_at : List Trade → Traded
quantity_at ts k = sum_by (λ t. cond (same_key t.key k) t.kwh 0) ts

-- the quantity set under one key, and no other moved
abbrev pub with_quantity : Traded → TradeKey → ℕ → Traded
with_quantity q key kwh k = cond (same_key k key) kwh (q k)

-- every hour with every seller and buyer
abbrev pub all_keys : List TradeKey
all_keys =
    flat_map (λ h. flat_map (λ s. map (λ b. record { hour = h; seller = s; buyer = b }) (range_with_len 0 16)) (range_with_len 0 16)) (range_with_len 0 24)

-- how many trades stand: the keys with a quantity above zero
unfoldable pub standing : Traded → ℕ
standing q = count_by (λ k. ltb 0 (q k)) all_keys

-- no place for it: a quantity above zero under a new key while 64 trades stand
abbrev pub no_place : Traded → TradeKey → ℕ → Bool
no_place q key kwh = nat_lt 0 kwh && (q key == 0 && nat_le 64 (standing q))

-- a trade that may stand: a key in range, and a quantity above zero and not above 500,000 kWh
abbrev pub sound : Trade → Bool
sound t = in_range t.key && (nat_lt 0 t.kwh && nat_le t.kwh 500000)

-- how many trades may not stand
abbrev pub unsound : List Trade → ℕ
unsound ts = count_by (λ t. not (sound t)) ts
