-- What a trade that may stand is.
use Rattle.std.proofs.Common.{◌≡◌, ◌<◌, ◌≤◌, true, arith}
use Rattle.std.proofs.lemmas.Bool.Decides.{nat_tests}
use Rattle.trades.specs.declared.trade.Trade.{Trade}
use Rattle.trades.specs.Trades.{sound}

-- between places of members, above zero, and within its bound
pub record Sound (t : Trade) : Type 0 where
  pub seller : t.key.seller < 16
  pub buyer : t.key.buyer < 16
  pub some : 0 < t.kwh
  pub small : t.kwh ≤ 500000

pub sound_is : (t : Trade) → sound t ≡ true → Sound t
sound_is t e = record { seller = grind (arith, nat_tests); buyer = grind (arith, nat_tests); some = grind (arith, nat_tests); small = grind (arith, nat_tests) }
