use Rattle.std.proofs.Common.{◌≡◌, ℕ, ◌*◌, ◌<◌, ◌≤◌, take, pos, ◌-ℤ◌, nat_abs, sum_by}
use Rattle.settlement.specs.Sums.{at}
use Rattle.settlement.proofs.Trading.{sells, buys}
use Rattle.lines.proofs.hour_of_day.HourOfDay.net_sales_by_member.Given as goal

abbrev pub invariant-loop-trade : goal.invariant-loop-trade
invariant-loop-trade l = record {
  balance : (m : ℕ) → m < 16 → at l.net m ≡ pos (sum_by (sells l.hour m) (take l.trade-index l.self.tables.now.trades.places)) -ℤ pos (sum_by (buys l.hour m) (take l.trade-index l.self.tables.now.trades.places));
  modest : (m : ℕ) → m < 16 → nat_abs (at l.net m) ≤ l.trade-index * 500000;
}
