-- The tables keep the bounds that settlement needs.
use Rattle.std.proofs.Common.{◌≡◌, ℕ, ◌<◌, ◌≤◌, true, cond, List, length, get_or, ℤ, pos, ◌-ℤ◌, sum_by, refl, inl, inr, arith}
use Rattle.std.specs.List.{All}
use Rattle.std.proofs.lemmas.List.Elements.{All-from_get_or}
use Rattle.std.proofs.lemmas.List.Sums.{get_or-le-sum_by}
use Rattle.std.proofs.lemmas.Bool.{cases_lt}
use Rattle.std.proofs.lemmas.Bool.Decides.{nat_tests}
use Rattle.trades.specs.declared.trade.Trade.{Trade}
use Rattle.trades.specs.declared.trade.TradeKey.{TradeKey}
use Rattle.trades.specs.Keys.{same_key}
use Rattle.trades.specs.Trades.{quantity_at, sound}
use Rattle.trades.proofs.Sums.{all_pass}
use Rattle.trades.proofs.Soundness.{sound_is}
use Rattle.events.specs.States.{no_event}
use Rattle.inputs.specs.declared.tables.Tables.{Tables}
use Rattle.inputs.specs.States.{state_of}
use Rattle.settlement.specs.Days.{day_of, hour_of, sales_in}
use Rattle.settlement.specs.Settlement.{net_sales}
use Rattle.settlement.specs.Laws.{BoundedDay, Bounded}
use Rattle.settlement.proofs.Trading.{sells, buys, trades_bounded, sales_by_trades, purchases_by_trades}

-- what stands under the key of a trade is its quantity at least
quantity_has : (ts : List Trade) (j : ℕ) (d : Trade) → j < length ts → (get_or ts j d).kwh ≤ quantity_at ts (get_or ts j d).key
quantity_has ts j d l =
    let x = get_or ts j d in
    let e : same_key x.key x.key ≡ true = grind (arith, nat_tests) in
    let f : cond (same_key x.key x.key) x.kwh 0 ≡ x.kwh = rw e refl in
    let h = get_or-le-sum_by (λ t. cond (same_key t.key x.key) t.kwh 0) ts j d l in
    omega arith

less_same : (a b c d : ℤ) → a ≡ c → b ≡ d → a -ℤ b ≡ c -ℤ d
less_same a b c d e f = cc

module _ (t : Tables) where
  pub few_resources : length t.resources ≤ 16
  few_resources = t.few_resources

  pub few_members : length t.members ≤ 16
  few_members = t.few_members

  pub trades_small : All (λ x. x.kwh ≤ 500000) t.trades.places
  trades_small = λ j d l. (sound_is (get_or t.trades.places j d) (all_pass sound t.trades.places t.trades.sound j d l)).small

  trader_below : (n : ℕ) (side : TradeKey → ℕ) → ((k : TradeKey) → n ≤ side k → quantity_at t.trades.places k ≡ 0) → All (λ x. side x.key < n) t.trades.places
  trader_below n side none =
      let ts = t.trades.places in
      λ j d l.
      let x = get_or ts j d in
      let has = quantity_has ts j d l in
      let some = (sound_is x (all_pass sound ts t.trades.sound j d l)).some in
      elim (cases_lt (side x.key) n) [ inl h ↦ h | inr h ↦ absurd (omega (arith, none x.key h)) ]

  -- a member's sales less its purchases, trade by trade
  pub net_sales_by_trades : (k m : ℕ) → net_sales (day_of (state_of t).inputs) (sales_in (state_of t).inputs k) m
      ≡ pos (sum_by (sells k m) t.trades.places) -ℤ pos (sum_by (buys k m) t.trades.places)
  unfolding net_sales
  net_sales_by_trades k m =
      let n = length t.members in
      let ts = t.trades.places in
      let s = sales_by_trades n k m ts (trader_below n (λ key. key.buyer) t.buyers) in
      let p = purchases_by_trades n k m ts (trader_below n (λ key. key.seller) t.sellers) in
      less_same _ _ _ _ s p

  pub bounded_day : BoundedDay (day_of (state_of t).inputs)
  bounded_day = record {
    few_members = few_members;
    few_resources = few_resources;
    owners = t.owners;
    price_sums = t.sums;
    assignments = λ h r i l.
        let few = few_resources in
        let n : r < 16 = omega arith in
        record { kwh = t.assignments.energy h r i n; offer = t.assignments.offers h r i n; costs = t.assignments.costs h r i n };
    few_events = omega (arith, t.events.few);
    starts = All-from_get_or (λ e. e.start ≤ 1439) t.events.closed no_event t.events.starts;
    ends = All-from_get_or (λ e. e.end ≤ 1440) t.events.closed no_event t.events.ends;
  }

  pub bounded : (k : ℕ) → k < 24 → Bounded (day_of (state_of t).inputs) k (hour_of (state_of t).inputs k) (sales_in (state_of t).inputs k)
  bounded k h = record {
    day = bounded_day;
    hour = h;
    price = t.hours.synchronized k h;
    loads = λ m l. let few = few_members in t.hours.loads k m h (omega arith);
    trades = trades_bounded k (length t.members) t.trades.places t.trades.few trades_small;
  }
