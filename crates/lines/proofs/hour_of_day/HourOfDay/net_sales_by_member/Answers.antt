use Rattle.std.proofs.Common.{◌≡◌, ℕ, ◌<◌, List, length, get_or, ℤ, sum_by, ap, ◌∙◌, arith}
use Rattle.std.proofs.lemmas.Int.{ints}
use Rattle.std.proofs.lemmas.List.{take_all}
use Rattle.std.proofs.lemmas.Bool.{eq-eqb, ne_eqb}
use Rattle.trades.specs.declared.trade.Trade.{Trade}
use Rattle.settlement.specs.Sums.{at}
use Rattle.settlement.proofs.Trading.{sells, buys}
use Rattle.settlement.proofs.Tables.{few_members, net_sales_by_trades}
use Rattle.lines.proofs.Moves.{trade_sound, net_more, net_stays}
use Rattle.lines.proofs.hour_of_day.HourOfDay.net_sales_by_member.Goals as goal
use Rattle.lines.proofs.hour_of_day.HourOfDay.net_sales_by_member.Goals.{then-trade-hour, else-trade-hour}

-- what is read past the last trade
abbrev no_trade : Trade
no_trade = record { key = record { hour = 0; seller = 0; buyer = 0 }; kwh = 0 }

pub loop-trade-preserved : goal.loop-trade-preserved
loop-trade-preserved c =
    let t = c.args.self.now.tables.now in
    let ts = t.trades.places in
    let i = c.loop-trade.trade-index in
    let k = c.index-hour.result in
    let n = ap length c.standing_trades-trade-items.ensures.value in
    let l : i < length ts = omega arith in
    let x = get_or c.standing_trades-trade-items.result.now i no_trade in
    let e : x ≡ get_or ts i no_trade = ap (λ (us : List Trade). get_or us i no_trade) c.standing_trades-trade-items.ensures.value in
    let small = (trade_sound t i no_trade x l e).small in
    elim c.if-trade-hour.branch [
      | then-trade-hour w ↦
          let step = λ (m : ℕ) (h : m < 16). net_more k m ts i no_trade x (at c.loop-trade.net m) (at c.if-trade-hour.net m) l e small (c.loop-trade.invariant.balance m h) (c.loop-trade.invariant.modest m h) (eq-eqb _ k w.if-trade-hour.true) (ap (λ (xs : List ℤ). at xs m) w.net-is ∙ w.enter_trade.ensures m h) in
          record { balance = λ m h. (step m h).0; modest = λ m h. (step m h).1 }
      | else-trade-hour w ↦
          let step = λ (m : ℕ) (h : m < 16). net_stays k m ts i no_trade x (at c.loop-trade.net m) (at c.if-trade-hour.net m) l e small (c.loop-trade.invariant.balance m h) (c.loop-trade.invariant.modest m h) (ne_eqb _ k w.if-trade-hour.false) (ap (λ (xs : List ℤ). at xs m) w.net-is) in
          record { balance = λ m h. (step m h).0; modest = λ m h. (step m h).1 }
    ]

pub returns : goal.returns
returns c m l =
    let t = c.args.self.now.tables.now in
    let ts = t.trades.places in
    let hour = c.args.self.now.hour.place in
    let n = ap length c.standing_trades-trade-items.ensures.value in
    let few = few_members t in
    let e = take_all c.loop-trade.trade-index ts (omega arith) in
    let s = ap (sum_by (sells hour m)) e in
    let b = ap (sum_by (buys hour m)) e in
    let h = rw c.index-hour.ensures.value at (c.loop-trade.invariant.balance m (omega arith)) in
    let k = net_sales_by_trades t hour m in
    omega (arith, ints)
