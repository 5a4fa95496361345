-- What holds of the book after every list of calls, under every rule.
use Rattle.std.specs.Prelude.{◌≡◌, ℕ, ◌<◌, true, cond, List, length, ℤ, pos, ◌-ℤ◌, ◌<ℤ◌, Result, nat_lt, slice_index_or}
use Rattle.events.specs.declared.fault.BookFault.{BookFault}
use Rattle.trades.specs.declared.trade.TradeKey.{TradeKey}
use Rattle.inputs.specs.Inputs.{Inputs}
use Rattle.inputs.specs.States.{State}
use Rattle.settlement.specs.declared.line.Line.{Line}
use Rattle.settlement.specs.Sums.{sum, Meaning}
use Rattle.settlement.specs.Days.{day_of, members, load, sales_in, hour_of}
use Rattle.settlement.specs.Settlement.{zero_line, line_at, defined_lines, total_assigned, total_load, total_clearing, net_sales}
use Rattle.settlement.specs.Laws.{Close}
use Rattle.daybook.specs.declared.call.BookCall.{BookCall}
use Rattle.daybook.specs.declared.call.BookAnswer.{BookAnswer}
use Rattle.daybook.specs.Books.{BookState, settled_at, run, response_at}

-- the same inputs: trades count by the quantity under each key
pub record SameInputs (i j : Inputs) : Type 0 where
  pub members : i.members ≡ j.members
  pub resources : i.resources ≡ j.resources
  pub hours : i.hours ≡ j.hours
  pub assignments : i.assignments ≡ j.assignments
  pub trades : (key : TradeKey) → i.traded key ≡ j.traded key
  pub events : i.events ≡ j.events

-- the line that the inputs define if the hour is settled, and zero if not
abbrev pub due_line : Meaning → State → ℕ → ℕ → Line
due_line t s h m = cond (settled_at s h) (line_at (defined_lines t s.inputs h) m) zero_line

-- what one column exceeds another by over all members of an hour
abbrev pub excess : BookState → ℕ → (Line → ℤ) → (Line → ℤ) → ℤ
excess b h more less = sum (members (day_of b.state.inputs)) (λ m. more (b.lines h m) -ℤ less (b.lines h m))

-- a clearing charge close to the exact value of member m in hour h, by A, T and C of the hour and L and B of the member
abbrev pub ClearingClose : Inputs → ℕ → ℕ → ℤ → Type 0
ClearingClose i h m charge =
    Close charge
    (total_assigned (day_of i) h) (total_load (day_of i) (hour_of i h)) (total_clearing (day_of i) h (hour_of i h))
    (load (hour_of i h) m) (net_sales (day_of i) (sales_in i h) m)

pub record Replayed (t : Meaning) (calls : List BookCall) (b : BookState) : Type 0 where
  -- inputs, running event and settled hours are those that the accepted calls leave
  pub state : b.state ≡ (run t calls).state
  -- every line is the one defined by the inputs as they are now, and zero in an hour that is not settled
  pub lines : (h m : ℕ) → b.lines h m ≡ due_line t b.state h m
  -- in every hour, over all members, credits come to the charges and refunds paid to refunds charged
  pub clearing_balances : (h : ℕ) → excess b h (λ l. l.clearing_credit) (λ l. l.clearing_charge) ≡ pos 0
  pub opportunity_cost_balances : (h : ℕ) → excess b h (λ l. l.opportunity_cost_credit) (λ l. l.opportunity_cost_charge) ≡ pos 0
  pub refunds_balance : (h : ℕ) → excess b h (λ l. l.refund_paid) (λ l. l.refund_charged) ≡ pos 0
  -- each member of a settled hour with reserve assigned is charged close to its exact value
  pub clearing_charge_close :
      (h m : ℕ) → settled_at b.state h ≡ true → m < (day_of b.state.inputs).member_count →
      pos 0 <ℤ total_assigned (day_of b.state.inputs) h → ClearingClose b.state.inputs h m (b.lines h m).clearing_charge
  -- whatever other calls lead to the same inputs and settled hours, in whatever order, lead to the same lines
  pub order_free :
      (others : List BookCall) → SameInputs (run t others).state.inputs b.state.inputs → (run t others).state.settled ≡ b.state.settled →
      (h m : ℕ) → (run t others).lines h m ≡ b.lines h m

-- what stands in the places for answers: that of each call in its place, and past the calls what stood there
abbrev pub Answered : Meaning → List BookCall → List (Result BookAnswer BookFault) → List (Result BookAnswer BookFault) → Type 0
Answered t calls before after =
    (k : ℕ) (d : Result BookAnswer BookFault) → k < length after → slice_index_or after k d ≡ cond (nat_lt k (length calls)) (response_at t calls k) (slice_index_or before k d)
