-- Keys of trades.
use Rattle.std.specs.Prelude.{Bool, ◌&&◌, ◌==◌, nat_lt}
use Rattle.trades.specs.declared.trade.TradeKey.{TradeKey}

abbrev pub same_key : TradeKey → TradeKey → Bool
same_key a b = a.hour == b.hour && (a.seller == b.seller && a.buyer == b.buyer)

-- an hour of the day and places of members
abbrev pub in_range : TradeKey → Bool
in_range k = nat_lt k.hour 24 && (nat_lt k.seller 16 && nat_lt k.buyer 16)
