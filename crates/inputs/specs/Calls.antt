-- What each call is refused for, what it answers and what it leaves.
use Rattle.std.specs.Prelude.{◌≡◌, ℕ, ◌-◌, Bool, false, cond, not, ◌||◌, List, [], ◌∷◌, ◌++◌, length, replicate, is_some, Some, None, Ok, Err, count_by, Option, Result, ◌==◌, ◌≢◌, nat_le, nat_lt, slice_index_or, slice_set}
use Rattle.std.specs.Option.{unwrap_or}
use Rattle.rolls.specs.Codes.{good, code_of}
use Rattle.rolls.specs.declared.code.Code.{Code}
use Rattle.events.specs.declared.fault.BookFault.{BookFault}
use Rattle.events.specs.declared.fault.BookFault.TheVariants.{BadCode, CodeTaken, RollFull, NoSuchMember, NoSuchResource, BadHour, TooMuchEnergy, TooMuchMoney, SameMember, TradesFull}
use Rattle.events.specs.declared.resource.Resource.{Resource}
use Rattle.events.specs.declared.calls.EventCall.{EventCall}
use Rattle.events.specs.declared.calls.EventCall.TheVariants.{Begin, Read, Close, Cancel}
use Rattle.events.specs.Outcomes.{accepted, refuse_if, Outcome}
use Rattle.events.specs.Resources.{place_named}
use Rattle.events.specs.declared.event.Reading.{Reading}
use Rattle.events.specs.declared.event.RunningEvent.{RunningEvent}
use Rattle.events.specs.DayEvents.{DayEvents, silent, event_refusal, after_event}
use Rattle.hours.specs.declared.hour.Hour.{Hour}
use Rattle.hours.specs.declared.assignment.Assignment.{Assignment}
use Rattle.trades.specs.declared.trade.TradeKey.{TradeKey}
use Rattle.hours.specs.Assignments.{kwh_of, offer_of, costs_of, with_assignment}
use Rattle.hours.specs.Entries.{with_price, with_load}
use Rattle.trades.specs.Keys.{same_key}
use Rattle.trades.specs.Trades.{Traded, with_quantity, no_place}
use Rattle.inputs.specs.declared.call.Answer.{Answer}
use Rattle.inputs.specs.declared.call.Answer.TheVariants.{Place, Cleared}
use Rattle.inputs.specs.declared.call.Call.{Call}
use Rattle.inputs.specs.declared.call.Call.TheVariants.{Enrol, Register, SetLoad, SetPrices, Assign, SetTrade, Happen}
use Rattle.inputs.specs.Inputs.{Inputs, member_named}
use Rattle.inputs.specs.States.{State}

-- ---- settled hours
-- one hour cleared, and every hour cleared
abbrev pub hour_cleared : ℕ → State → State
hour_cleared h s = record { inputs = s.inputs; running = s.running; settled = slice_set s.settled h false }

abbrev pub all_cleared : State → State
all_cleared s = record { inputs = s.inputs; running = s.running; settled = replicate 24 false }

-- how many settled hours that clears
abbrev pub settled_hour : State → ℕ → ℕ
settled_hour s h = cond (slice_index_or s.settled h false) 1 0

abbrev pub settled_hours : State → ℕ
settled_hours s = count_by (λ b. b) s.settled

-- ---- the inputs with one part changed
module _ (s : State) where
  abbrev pub with_inputs : Inputs → State
  with_inputs i = record { inputs = i; running = s.running; settled = s.settled }

module _ (i : Inputs) where
  abbrev pub with_member : Code → Inputs
  with_member c = record { members = i.members ++ c ∷ []; resources = i.resources; hours = i.hours; assignments = i.assignments; traded = i.traded; events = i.events }

  abbrev pub with_resource : Resource → Inputs
  with_resource r = record { members = i.members; resources = i.resources ++ r ∷ []; hours = i.hours; assignments = i.assignments; traded = i.traded; events = i.events }

  abbrev pub with_hours : List Hour → Inputs
  with_hours hs = record { members = i.members; resources = i.resources; hours = hs; assignments = i.assignments; traded = i.traded; events = i.events }

  abbrev pub with_assignments : List (List (Assignment ℕ)) → Inputs
  with_assignments rows = record { members = i.members; resources = i.resources; hours = i.hours; assignments = rows; traded = i.traded; events = i.events }

  abbrev pub with_traded : Traded → Inputs
  with_traded q = record { members = i.members; resources = i.resources; hours = i.hours; assignments = i.assignments; traded = q; events = i.events }

-- the closed events and the running one as a call left them
abbrev pub with_events : State → DayEvents → State
with_events s e = record {
  inputs = record { members = s.inputs.members; resources = s.inputs.resources; hours = s.inputs.hours; assignments = s.inputs.assignments; traded = s.inputs.traded; events = e.closed };
  running = e.running;
  settled = s.settled;
}

-- ---- what a call names
-- an hour outside 1 to 24
abbrev pub bad_hour : ℕ → Bool
bad_hour hour = hour == 0 || nat_lt 24 hour

-- the place of hour ending 1 to 24
abbrev pub hour_place : ℕ → Result ℕ BookFault
hour_place hour = cond (bad_hour hour) (Err BadHour) (Ok (hour - 1))

-- an assignment as it may stand, or which of its figures is too large
abbrev pub assignment_verdict : Assignment ℕ → Result (Assignment ℕ) BookFault
assignment_verdict a =
    cond (nat_lt 500000 (kwh_of a)) (Err TooMuchEnergy)
    (cond (nat_lt 400000 (offer_of a) || nat_lt 300000000 (costs_of a)) (Err TooMuchMoney) (Ok a))

abbrev pub missing : Option ℕ → Bool
missing place = not (is_some place)

abbrev pub member : State → List ℕ → Option ℕ
member s text = member_named s.inputs.members text

abbrev pub resource : State → List ℕ → Option ℕ
resource s text = place_named s.inputs.resources text

-- the key of a trade between members that are enrolled
abbrev pub key_of : State → ℕ → List ℕ → List ℕ → TradeKey
key_of s hour seller buyer = record { hour = hour - 1; seller = unwrap_or (member s seller) 0; buyer = unwrap_or (member s buyer) 0 }

-- ---- the first refusal that applies, in the order in which they are tried
abbrev pub refusal : State → Call → Option BookFault
refusal s (Enrol code) =
    refuse_if (not (good code.now)) BadCode
    (refuse_if (is_some (member s code.now)) CodeTaken
    (refuse_if (nat_le 16 (length s.inputs.members)) RollFull accepted))
refusal s (Register code owner kind sum) =
    refuse_if (not (good code.now)) BadCode
    (refuse_if (missing (member s owner.now)) NoSuchMember
    (refuse_if (nat_lt 4000000 sum) TooMuchMoney
    (refuse_if (is_some (resource s code.now)) CodeTaken
    (refuse_if (nat_le 16 (length s.inputs.resources)) RollFull accepted))))
refusal s (SetLoad hour name kwh) =
    refuse_if (bad_hour hour) BadHour
    (refuse_if (missing (member s name.now)) NoSuchMember
    (refuse_if (nat_lt 100000000 kwh) TooMuchEnergy accepted))
refusal s (SetPrices hour synchronized other) =
    refuse_if (bad_hour hour) BadHour
    (refuse_if (nat_lt 400000 synchronized || nat_lt 400000 other) TooMuchMoney accepted)
refusal s (Assign hour name assignment) =
    refuse_if (bad_hour hour) BadHour
    (refuse_if (missing (resource s name.now)) NoSuchResource
    (refuse_if (nat_lt 500000 (kwh_of assignment)) TooMuchEnergy
    (refuse_if (nat_lt 400000 (offer_of assignment) || nat_lt 300000000 (costs_of assignment)) TooMuchMoney accepted)))
refusal s (SetTrade hour seller buyer kwh) =
    refuse_if (bad_hour hour) BadHour
    (refuse_if (missing (member s seller.now) || missing (member s buyer.now)) NoSuchMember
    (refuse_if (unwrap_or (member s seller.now) 0 == unwrap_or (member s buyer.now) 0) SameMember
    (refuse_if (nat_lt 500000 kwh) TooMuchEnergy
    (refuse_if (no_place s.inputs.traded (key_of s hour seller.now buyer.now) kwh) TradesFull accepted))))
refusal s (Happen call) = event_refusal s.inputs.resources s.inputs.events s.running call

-- ---- what an accepted call answers: the place of what it added, or how many settled hours it cleared
abbrev pub event_answer : State → EventCall → ℕ
event_answer s (Begin start) = 0
event_answer s (Read name edge sample) = 0
event_answer s (Close end) = settled_hours s
event_answer s Cancel = 0

abbrev pub answer : State → Call → ℕ
answer s (Enrol code) = length s.inputs.members
answer s (Register code owner kind sum) = length s.inputs.resources
answer s (SetLoad hour name kwh) = settled_hour s (hour - 1)
answer s (SetPrices hour synchronized other) = settled_hour s (hour - 1)
answer s (Assign hour name assignment) = settled_hours s
answer s (SetTrade hour seller buyer kwh) = settled_hour s (hour - 1)
answer s (Happen call) = event_answer s call

-- and which of the two that number is
abbrev pub answer_of : State → Call → Answer
answer_of s (Enrol code) = Place (answer s (Enrol code))
answer_of s (Register code owner kind sum) = Place (answer s (Register code owner kind sum))
answer_of s (SetLoad hour name kwh) = Cleared (answer s (SetLoad hour name kwh))
answer_of s (SetPrices hour synchronized other) = Cleared (answer s (SetPrices hour synchronized other))
answer_of s (Assign hour name assignment) = Cleared (answer s (Assign hour name assignment))
answer_of s (SetTrade hour seller buyer kwh) = Cleared (answer s (SetTrade hour seller buyer kwh))
answer_of s (Happen call) = Cleared (answer s (Happen call))

-- ---- what an accepted call leaves
abbrev pub event_clears : EventCall → State → State
event_clears (Begin start) s = s
event_clears (Read name edge sample) s = s
event_clears (Close end) s = all_cleared s
event_clears Cancel s = s

abbrev pub after : State → Call → State
after s (Enrol code) = all_cleared (with_inputs s (with_member s.inputs (code_of code.now)))
after s (Register code owner kind sum) =
    all_cleared (with_inputs s (with_resource s.inputs (record { code = code_of code.now; owner = unwrap_or (member s owner.now) 0; kind = kind; interval_price_sum = sum })))
after s (SetLoad hour name kwh) =
    hour_cleared (hour - 1) (with_inputs s (with_hours s.inputs (with_load s.inputs.hours (hour - 1) (unwrap_or (member s name.now) 0) kwh)))
after s (SetPrices hour synchronized other) =
    hour_cleared (hour - 1) (with_inputs s (with_hours s.inputs (with_price s.inputs.hours (hour - 1) synchronized other)))
after s (Assign hour name assignment) =
    all_cleared (with_inputs s (with_assignments s.inputs (with_assignment s.inputs.assignments (hour - 1) (unwrap_or (resource s name.now) 0) assignment)))
after s (SetTrade hour seller buyer kwh) =
    hour_cleared (hour - 1) (with_inputs s (with_traded s.inputs (with_quantity s.inputs.traded (key_of s hour seller.now buyer.now) kwh)))
after s (Happen call) = event_clears call (with_events s (after_event s.inputs.resources s.inputs.events s.running call))

-- a call is refused by the first refusal that applies and leaves what was, or answers and leaves what an accepted call does
abbrev pub Taken : State → Call → Result ℕ BookFault → State → Type 0
Taken s call result left = Outcome (refusal s call) (answer s call) s (after s call) result left

-- ---- laws in the subject's words
-- what a resource's readings are in the running event
abbrev pub reading_at : Option RunningEvent → ℕ → Reading
reading_at None j = silent
reading_at (Some run) j = slice_index_or run.readings j silent

-- the readings of every resource but the named one are as they were
abbrev pub OthersStay : State → List ℕ → State → Type 0
OthersStay s name left = (j : ℕ) → (resource s name ≢ Some j) → reading_at left.running j ≡ reading_at s.running j

-- the quantity under the key is the one asked for, and no other key moved
pub record QuantitySet (s : State) (hour : ℕ) (seller buyer : List ℕ) (kwh : ℕ) (left : State) : Type 0 where
  pub asked_for : left.inputs.traded (key_of s hour seller buyer) ≡ kwh
  pub others : (k : TradeKey) → same_key k (key_of s hour seller buyer) ≡ false → left.inputs.traded k ≡ s.inputs.traded k
