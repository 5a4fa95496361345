-- The day book: what each call is refused for, what it answers and what it leaves, and the book after a list of calls.
use Rattle.std.specs.Prelude.{ℕ, ◌-◌, Bool, false, cond, List, [], take, is_some, Some, None, Ok, Err, fold, Option, Result, ◌==◌, slice_index_or}
use Rattle.events.specs.declared.fault.BookFault.{BookFault}
use Rattle.events.specs.declared.fault.BookFault.TheVariants.{NoSuchMember, BadHour, EventRuns, NobodyToCharge}
use Rattle.events.specs.Outcomes.{accepted, refuse_if}
use Rattle.inputs.specs.declared.call.Call.{Call}
use Rattle.inputs.specs.States.{State, opened, state_of, hour_settled}
use Rattle.inputs.specs.Calls.{bad_hour, member, refusal, answer_of, after}
use Rattle.inputs.specs.Asking.{of_hour, of_found}
use Rattle.settlement.specs.declared.line.Line.{Line}
use Rattle.settlement.specs.Sums.{Meaning}
use Rattle.settlement.specs.Settlement.{zero_line, line_at, defined_lines, nobody_to_charge, defined_total}
use Rattle.daybook.specs.declared.call.BookCall.{BookCall}
use Rattle.daybook.specs.declared.call.BookCall.TheVariants.{Enter, Settle}
use Rattle.daybook.specs.declared.call.BookAnswer.{BookAnswer}
use Rattle.daybook.specs.declared.call.BookAnswer.TheVariants.{Entered, Settled}
use Rattle.daybook.specs.declared.ledger.Ledger.{Ledger}

pub record BookState : Type 0 where
  -- the inputs, the running event and the settled hours
  pub state : State
  -- by the hour's place, then by the member's
  pub lines : ℕ → ℕ → Line

-- the hour at a place is settled
abbrev pub settled_at : State → ℕ → Bool
settled_at s h = slice_index_or s.settled h false

-- nothing entered, no hour settled, every line zero
abbrev pub opened_book : BookState
opened_book = record { state = opened; lines = λ h m. zero_line }

-- the lines of a settled hour are those in memory, all other lines are zero
abbrev pub book_over : State → List (List Line) → BookState
book_over s rows = record { state = s; lines = λ h m. cond (settled_at s h) (line_at (slice_index_or rows h []) m) zero_line }

-- what the book's tables stand for
unfoldable pub book_of : Ledger → BookState
book_of l = book_over (state_of l.inputs) l.lines.rows

-- an input entered: an hour that this clears has zero lines, and the lines of the others stay
abbrev pub entered : BookState → Call → BookState
entered b call = record { state = after b.state call; lines = λ h m. cond (settled_at (after b.state call) h) (b.lines h m) zero_line }

-- the hour at a place settled with these lines; those of the others stay
abbrev pub recorded : BookState → ℕ → (ℕ → Line) → BookState
recorded b k row = record { state = hour_settled k b.state; lines = λ h m. cond (h == k) (row m) (b.lines h m) }

-- the line of the member that a text names
abbrev pub line_of : BookState → ℕ → List ℕ → Result Line BookFault
line_of b hour name = of_hour hour (λ h. of_found (member b.state name) NoSuchMember (λ m. Ok (b.lines h m)))

-- a refused call leaves the book as it was
abbrev pub unless_refused : Option BookFault → BookState → BookState → BookState
unless_refused None new old = new
unless_refused (Some fault) new old = old

abbrev pub answered : Option BookFault → BookAnswer → Result BookAnswer BookFault
answered None answer = Ok answer
answered (Some fault) answer = Err fault

-- the call at a place of a list
abbrev pub call_at : List BookCall → ℕ → BookCall
call_at calls k = slice_index_or calls k (Settle 0)

-- under the book's rule, by its meaning
module _ (t : Meaning) where
  -- the first refusal that applies
  abbrev pub book_refusal : BookState → BookCall → Option BookFault
  book_refusal b (Enter call) = refusal b.state call
  book_refusal b (Settle hour) =
      refuse_if (bad_hour hour) BadHour
      (refuse_if (is_some b.state.running) EventRuns
      (refuse_if (nobody_to_charge t b.state.inputs (hour - 1)) NobodyToCharge accepted))

  -- what an accepted call answers
  abbrev pub book_answer : BookState → BookCall → BookAnswer
  book_answer b (Enter call) = Entered (answer_of b.state call)
  book_answer b (Settle hour) = Settled (defined_total t b.state.inputs (hour - 1))

  -- what an accepted call leaves: a settlement records the lines that the inputs define
  abbrev pub book_after : BookState → BookCall → BookState
  book_after b (Enter call) = entered b call
  book_after b (Settle hour) = recorded b (hour - 1) (line_at (defined_lines t b.state.inputs (hour - 1)))

  -- what any call leaves
  unfoldable pub step : BookState → BookCall → BookState
  step b call = unless_refused (book_refusal b call) (book_after b call) b

  -- what any call answers: as accepted, or its refusal
  abbrev pub response : BookState → BookCall → Result BookAnswer BookFault
  response b call = answered (book_refusal b call) (book_answer b call)

  -- the book after a list of calls, each in its turn
  abbrev pub run : List BookCall → BookState
  run calls = fold step opened_book calls

  -- what the call at a place of the list answers, to the book after the calls before it
  abbrev pub response_at : List BookCall → ℕ → Result BookAnswer BookFault
  response_at calls k = response (run (take k calls)) (call_at calls k)
