-- What the tests of a settlement and of a line say of the book.
use Rattle.std.proofs.Common.{◌≡◌, ℕ, ◌-◌, Bool, true, false, cond, List, [], get_or, ℤ, is_some, Some, None, Ok, Err, Option, Result, sym, refl, ap, ◌∙◌, subst, arith}
use Rattle.std.proofs.lemmas.Bool.{cond-false}
use Rattle.events.specs.declared.fault.BookFault.{BookFault}
use Rattle.events.specs.declared.fault.BookFault.TheVariants.{NoSuchMember, BadHour, EventRuns, NobodyToCharge}
use Rattle.events.specs.Outcomes.{Outcome, accepted, refuse_if}
use Rattle.inputs.specs.States.{State}
use Rattle.inputs.specs.Calls.{bad_hour, hour_place, member}
use Rattle.inputs.specs.Asking.{found_or, of_found, is_settled}
use Rattle.inputs.proofs.Refusals.{found}
use Rattle.settlement.specs.declared.line.Line.{Line}
use Rattle.settlement.specs.Sums.{Meaning}
use Rattle.settlement.specs.Settlement.{zero_line, line_at, defined_lines, nobody_to_charge, defined_total}
use Rattle.daybook.specs.declared.call.BookCall.TheVariants.{Settle}
use Rattle.lines.specs.declared.hour.SettledHour.{SettledHour}
use Rattle.lines.specs.Outcomes.{SettledAs}
use Rattle.daybook.specs.Books.{BookState, settled_at, book_over, recorded, book_refusal, book_after, line_of}

ok_else : {A : Type 0} (b : Bool) (e : BookFault) (x p : A) → cond {A = Result A BookFault} b (Err e) (Ok x) ≡ Ok p → (b ≡ false) × (p ≡ x)
ok_else true e x p h = let z : ◌≡◌ {A = ℕ} 0 1 = cc in absurd (omega arith)
ok_else false e x p h = (refl, cc)

-- an hour with a place is no bad hour
pub place_is : (hour p : ℕ) → hour_place hour ≡ Ok p → (bad_hour hour ≡ false) × (p ≡ hour - 1)
place_is hour p e = ok_else (bad_hour hour) BadHour (hour - 1) p e

module _ (t : Meaning) (b : BookState) (hour place : ℕ) (at : hour_place hour ≡ Ok place) where
  refusal_is : (runs : Bool) → is_some b.state.running ≡ runs
      → book_refusal t b (Settle hour) ≡ refuse_if runs EventRuns (refuse_if (nobody_to_charge t b.state.inputs (hour - 1)) NobodyToCharge accepted)
  refusal_is runs e = cond-false (bad_hour hour) _ _ (place_is hour place at).0 ∙ ap (λ (x : Bool). refuse_if x EventRuns (refuse_if (nobody_to_charge t b.state.inputs (hour - 1)) NobodyToCharge accepted)) e

  nobody_is : (nobody : Bool) → is_some b.state.running ≡ false → nobody_to_charge t b.state.inputs place ≡ nobody
      → book_refusal t b (Settle hour) ≡ refuse_if nobody NobodyToCharge accepted
  nobody_is nobody e f =
      refusal_is false e
      ∙ ap (λ (x : Bool). refuse_if x NobodyToCharge accepted) (ap (λ (k : ℕ). nobody_to_charge t b.state.inputs k) (sym (place_is hour place at).1) ∙ f)

  by : (f : Option BookFault) (r : Result ℤ BookFault) (left : BookState) → book_refusal t b (Settle hour) ≡ f
      → Outcome f (defined_total t b.state.inputs (hour - 1)) b (book_after t b (Settle hour)) r left
      → Outcome (book_refusal t b (Settle hour)) (defined_total t b.state.inputs (hour - 1)) b (book_after t b (Settle hour)) r left
  by f r left e o = subst (λ (x : Option BookFault). Outcome x (defined_total t b.state.inputs (hour - 1)) b (book_after t b (Settle hour)) r left) (sym e) o

  pub event_runs : is_some b.state.running ≡ true
      → Outcome (book_refusal t b (Settle hour)) (defined_total t b.state.inputs (hour - 1)) b (book_after t b (Settle hour)) (Err EventRuns) b
  event_runs e = by (Some EventRuns) (Err EventRuns) b (refusal_is true e) (refl, refl)

  pub not_settled : (fault : BookFault) (r : Result ℤ BookFault) → is_some b.state.running ≡ false → SettledAs t b.state.inputs place (Err fault) → r ≡ Err fault
      → Outcome (book_refusal t b (Settle hour)) (defined_total t b.state.inputs (hour - 1)) b (book_after t b (Settle hour)) r b
  not_settled fault r e s p = by (Some NobodyToCharge) r b (nobody_is true e s.0) (p ∙ ap Err s.1, refl)

  pub settled : (s : SettledHour) (r : Result ℤ BookFault) (left : BookState) → is_some b.state.running ≡ false → SettledAs t b.state.inputs place (Ok s)
      → r ≡ Ok s.total → left ≡ recorded b place (line_at s.lines)
      → Outcome (book_refusal t b (Settle hour)) (defined_total t b.state.inputs (hour - 1)) b (book_after t b (Settle hour)) r left
  settled s r left e h q p =
      by None r left (nobody_is false e h.0) (
        q ∙ ap Ok (h.1.1 ∙ ap (defined_total t b.state.inputs) (place_is hour place at).1),
        p ∙ ap (λ (row : ℕ → Line). recorded b place row) (λ i m. h.1.0 m i)
            ∙ ap (λ (k : ℕ). recorded b k (line_at (defined_lines t b.state.inputs k))) (place_is hour place at).1,
      )

-- ---- a member's line
not_found : (o : Option ℕ) (fault other : BookFault) (f : ℕ → Result Line BookFault) → found_or o fault ≡ Err other → of_found o fault f ≡ Err other
not_found None fault other f e = cc
not_found (Some x) fault other f e = let z : ◌≡◌ {A = ℕ} 0 1 = cc in absurd (omega arith)

module _ (s : State) (rows : List (List Line)) (hour place : ℕ) (text : List ℕ) (at : hour_place hour ≡ Ok place) where
  pub no_such_member : (fault : BookFault) → found_or (member s text) NoSuchMember ≡ Err fault → Err fault ≡ line_of (book_over s rows) hour text
  no_such_member fault e = sym (cond-false (bad_hour hour) _ _ (place_is hour place at).0 ∙ not_found (member s text) NoSuchMember fault _ e)

  pub line_found : (m : ℕ) (on : Bool) → found_or (member s text) NoSuchMember ≡ Ok m → is_settled s hour ≡ Ok on
      → Ok (cond on (line_at (get_or rows place []) m) zero_line) ≡ line_of (book_over s rows) hour text
  line_found m on e f =
      sym (
      cond-false (bad_hour hour) _ _ (place_is hour place at).0
      ∙ ap (λ (o : Option ℕ). of_found o NoSuchMember (λ n. Ok ((book_over s rows).lines (hour - 1) n))) (found (member s text) NoSuchMember m e)
      ∙ ap (λ (x : Bool). Ok (cond x (line_at (get_or rows (hour - 1) []) m) zero_line)) (sym (ok_else (bad_hour hour) BadHour (settled_at s (hour - 1)) on f).1)
      ∙ ap (λ (k : ℕ). Ok (cond on (line_at (get_or rows k []) m) zero_line)) (sym (place_is hour place at).1)
      )
