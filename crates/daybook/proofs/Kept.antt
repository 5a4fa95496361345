-- What an entry leaves of a settled hour: all that its definitions read.
use Rattle.std.proofs.Common.{◌≡◌, ℕ, ◌-◌, true, map, Some, None, Option, refl}
use Rattle.std.proofs.lemmas.List.{get_or-set_other}
use Rattle.std.proofs.lemmas.Bool.{ne_eqb, and_left, cond-false}
use Rattle.events.specs.declared.event.RunningEvent.{RunningEvent}
use Rattle.events.specs.declared.calls.EventCall.TheVariants.{Begin, Read, Close, Cancel}
use Rattle.trades.specs.declared.trade.TradeKey.{TradeKey}
use Rattle.hours.specs.Hours.{no_hour}
use Rattle.trades.specs.Keys.{same_key}
use Rattle.trades.specs.Trades.{Traded, with_quantity}
use Rattle.inputs.specs.declared.call.Call.{Call}
use Rattle.inputs.specs.declared.call.Call.TheVariants.{Enrol, Register, SetLoad, SetPrices, Assign, SetTrade, Happen}
use Rattle.inputs.specs.Inputs.{Inputs}
use Rattle.inputs.specs.States.{State}
use Rattle.inputs.specs.Calls.{after, key_of}
use Rattle.settlement.specs.Sums.{Meaning}
use Rattle.settlement.specs.Days.{day_of, members, sales_in, hour_of}
use Rattle.settlement.specs.Settlement.{line, unsettleable, defined_lines, nobody_to_charge}
use Rattle.daybook.specs.Books.{settled_at}
use Rattle.daybook.proofs.Books.{still_on, none_on}

-- of the hour at a place, the inputs say the same
pub record SameHour (h : ℕ) (i j : Inputs) : Type 0 where
  pub day : day_of i ≡ day_of j
  pub hour : hour_of i h ≡ hour_of j h
  pub sales : sales_in i h ≡ sales_in j h

-- a quantity under a key of another hour
other_sales : (q : Traded) (key : TradeKey) (kwh h seller buyer : ℕ) → (h ≡ key.hour → ⊥)
    → with_quantity q key kwh (record { hour = h; seller = seller; buyer = buyer }) ≡ q (record { hour = h; seller = seller; buyer = buyer })
other_sales q key kwh h seller buyer ne =
    cond-false (same_key (record { hour = h; seller = seller; buyer = buyer }) key) kwh _ (and_left _ _ (ne_eqb h key.hour ne))

itself : (h : ℕ) (i : Inputs) → SameHour h i i
itself h i = record { day = refl; hour = refl; sales = refl }

pub kept : (s : State) (call : Call) (h : ℕ) → settled_at (after s call) h ≡ true → SameHour h (after s call).inputs s.inputs
kept s (Enrol code) h on = none_on 24 h on
kept s (Register code owner kind sum) h on = none_on 24 h on
kept s (SetLoad hour name kwh) h on =
    record { day = refl; hour = get_or-set_other s.inputs.hours (hour - 1) h _ no_hour (still_on s.settled (hour - 1) h on).1; sales = refl }
kept s (SetPrices hour synchronized other) h on =
    record { day = refl; hour = get_or-set_other s.inputs.hours (hour - 1) h _ no_hour (still_on s.settled (hour - 1) h on).1; sales = refl }
kept s (Assign hour name assignment) h on = none_on 24 h on
kept s (SetTrade hour seller buyer kwh) h on =
    record { day = refl; hour = refl; sales = λ i a b. other_sales s.inputs.traded (key_of s hour seller.now buyer.now) kwh h a b (still_on s.settled (hour - 1) h on).1 i }
kept s (Happen (Begin start)) h on = itself h s.inputs
kept s (Happen (Read name edge sample)) h on = kept_read s.running
  where
    kept_read : (o : Option RunningEvent) → SameHour h (after (record { inputs = s.inputs; running = o; settled = s.settled }) (Happen (Read name edge sample))).inputs s.inputs
    kept_read None = itself h s.inputs
    kept_read (Some run) = itself h s.inputs
kept s (Happen (Close end)) h on = none_on 24 h on
kept s (Happen Cancel) h on = itself h s.inputs

-- what the hour's definitions give then
pub same_lines : (t : Meaning) (h : ℕ) (i j : Inputs) → SameHour h i j → defined_lines t i h ≡ defined_lines t j h
unfolding defined_lines
same_lines t h i j e = λ n. map (line t (e.day n) h (e.hour n) (e.sales n)) (members (e.day n))

pub same_verdict : (t : Meaning) (h : ℕ) (i j : Inputs) → SameHour h i j → nobody_to_charge t i h ≡ nobody_to_charge t j h
unfolding nobody_to_charge
same_verdict t h i j e = λ n. unsettleable t (e.day n) h (e.hour n) (e.sales n)
