-- What every list of calls keeps.
use Rattle.std.proofs.Common.{◌≡◌, ℕ, ◌+◌, ◌-◌, ◌<◌, Bool, true, false, eqb, ltb, List, [], ◌∷◌, length, get_or, take, Some, None, fold, Option, Result, sym, refl, ap, ◌∙◌, ⊎_elim, arith}
use Rattle.std.proofs.lemmas.List.{get_or-set_same, get_or-set_other, length-set}
use Rattle.std.proofs.lemmas.List.Sums.{fold_more}
use Rattle.std.proofs.lemmas.Bool.{cases_eq, cases_Bool, eq-eqb, ne_eqb, cond-true, cond-false, both_ways, or_parts, eqb-false, ltb-false}
use Rattle.events.specs.declared.fault.BookFault.{BookFault}
use Rattle.events.specs.declared.calls.EventCall.TheVariants.{Begin, Read, Close, Cancel}
use Rattle.events.specs.Outcomes.{Outcome, accepted, refuse_if}
use Rattle.inputs.specs.declared.call.Call.{Call}
use Rattle.inputs.specs.declared.call.Call.TheVariants.{Enrol, Register, SetLoad, SetPrices, Assign, SetTrade, Happen}
use Rattle.inputs.specs.States.{State, opened}
use Rattle.inputs.specs.Calls.{bad_hour, refusal, after}
use Rattle.settlement.specs.Sums.{Meaning}
use Rattle.settlement.specs.Settlement.{line_at, defined_lines, nobody_to_charge}
use Rattle.daybook.specs.declared.call.BookCall.{BookCall}
use Rattle.daybook.specs.declared.call.BookCall.TheVariants.{Enter, Settle}
use Rattle.daybook.specs.declared.call.BookAnswer.{BookAnswer}
use Rattle.daybook.specs.Books.{BookState, settled_at, opened_book, entered, recorded, unless_refused, book_refusal, book_answer, book_after, step, run}
use Rattle.daybook.specs.Replays.{due_line}
use Rattle.daybook.proofs.Books.{all_off, was_settled, left_by}
use Rattle.daybook.proofs.Kept.{kept, same_lines, same_verdict}

-- every settled hour can be settled by the inputs as they are, and every line is the one due
pub record Sound (t : Meaning) (b : BookState) : Type 0 where
  pub flags : length b.state.settled ≡ 24
  pub payable : (h : ℕ) → settled_at b.state h ≡ true → nobody_to_charge t b.state.inputs h ≡ false
  pub lines : (h m : ℕ) → b.lines h m ≡ due_line t b.state h m

after_flags : (s : State) (call : Call) → length s.settled ≡ 24 → length (after s call).settled ≡ 24
after_flags s (Enrol code) e = refl
after_flags s (Register code owner kind sum) e = refl
after_flags s (SetLoad hour name kwh) e = length-set s.settled (hour - 1) false ∙ e
after_flags s (SetPrices hour synchronized other) e = length-set s.settled (hour - 1) false ∙ e
after_flags s (Assign hour name assignment) e = refl
after_flags s (SetTrade hour seller buyer kwh) e = length-set s.settled (hour - 1) false ∙ e
after_flags s (Happen (Begin start)) e = e
after_flags s (Happen (Read name edge sample)) e = e
after_flags s (Happen (Close end)) e = refl
after_flags s (Happen Cancel) e = e

-- a settlement that is not refused names an hour of the day, and finds someone to charge
not_refused : (x y z : Bool) (e f g : BookFault) → refuse_if x e (refuse_if y f (refuse_if z g accepted)) ≡ None → (x ≡ false) × (z ≡ false)
not_refused true y z e f g h = let w : ◌≡◌ {A = ℕ} 0 1 = cc in absurd (omega arith)
not_refused false true z e f g h = let w : ◌≡◌ {A = ℕ} 0 1 = cc in absurd (omega arith)
not_refused false false true e f g h = let w : ◌≡◌ {A = ℕ} 0 1 = cc in absurd (omega arith)
not_refused false false false e f g h = (refl, refl)

place_below : (hour : ℕ) → bad_hour hour ≡ false → hour - 1 < 24
place_below hour e =
    let p = or_parts (eqb hour 0) (ltb 24 hour) e in
    omega (arith, eqb-false hour 0 p.0, ltb-false 24 hour p.1)

module _ (t : Meaning) where
  opened_sound : Sound t opened_book
  opened_sound = record {
    flags = refl;
    payable = λ h on. absurd (both_ways (settled_at opened h) (all_off 24 h) on);
    lines = λ h m. sym (cond-false (settled_at opened h) _ _ (all_off 24 h));
  }

  entered_sound : (b : BookState) (call : Call) → Sound t b → Sound t (entered b call)
  entered_sound b call sound = record {
    flags = after_flags b.state call sound.flags;
    payable = λ h on. same_verdict t h _ _ (kept b.state call h on) ∙ sound.payable h (was_settled b.state call h on);
    lines = λ h m.
        ⊎_elim
        (λ on.
        cond-true (settled_at (after b.state call) h) _ _ on
        ∙ sound.lines h m
        ∙ cond-true (settled_at b.state h) _ _ (was_settled b.state call h on)
        ∙ sym (cond-true (settled_at (after b.state call) h) _ _ on ∙ ap (λ ls. line_at ls m) (same_lines t h _ _ (kept b.state call h on))))
        (λ off. cond-false (settled_at (after b.state call) h) _ _ off ∙ sym (cond-false (settled_at (after b.state call) h) _ _ off))
        (cases_Bool (settled_at (after b.state call) h));
  }

  recorded_sound : (b : BookState) (k : ℕ) → k < 24 → nobody_to_charge t b.state.inputs k ≡ false → Sound t b
      → Sound t (recorded b k (line_at (defined_lines t b.state.inputs k)))
  recorded_sound b k l someone sound = record {
    flags = length-set b.state.settled k true ∙ sound.flags;
    payable = λ h on.
        ⊎_elim
        (λ (e : h ≡ k). ap (λ (n : ℕ). nobody_to_charge t b.state.inputs n) e ∙ someone)
        (λ (ne : h ≡ k → ⊥). sound.payable h (sym (get_or-set_other b.state.settled k h true false ne) ∙ on))
        (cases_eq h k);
    lines = λ h m.
        ⊎_elim
        (λ (e : h ≡ k). rw (e, get_or-set_same b.state.settled k true false (omega (arith, sound.flags)), eq-eqb k k refl))
        (λ (ne : h ≡ k → ⊥). rw (get_or-set_other b.state.settled k h true false ne, ne_eqb h k ne) (sound.lines h m))
        (cases_eq h k);
  }

  step_sound : (b : BookState) (call : BookCall) → Sound t b → Sound t (step t b call)
  unfolding step
  step_sound b (Enter call) sound = go (refusal b.state call)
    where
      go : (f : Option BookFault) → Sound t (unless_refused f (entered b call) b)
      go None = entered_sound b call sound
      go (Some fault) = sound
  step_sound b (Settle hour) sound = go (book_refusal t b (Settle hour)) refl
    where
      go : (f : Option BookFault) → book_refusal t b (Settle hour) ≡ f → Sound t (unless_refused f (book_after t b (Settle hour)) b)
      go None e =
          let p = not_refused (bad_hour hour) _ (nobody_to_charge t b.state.inputs (hour - 1)) _ _ _ e in
          recorded_sound b (hour - 1) (place_below hour p.0) p.1 sound
      go (Some fault) e = sound

  steps_sound : (calls : List BookCall) (b : BookState) → Sound t b → Sound t (fold (step t) b calls)
  steps_sound [] b sound = sound
  steps_sound (call ∷ calls) b sound = steps_sound calls (step t b call) (step_sound b call sound)

  pub run_sound : (calls : List BookCall) → Sound t (run t calls)
  run_sound calls = steps_sound calls opened_book opened_sound

  -- one call more
  pub run_more : (calls : List BookCall) (i : ℕ) (d : BookCall) (b left : BookState) → i < length calls → b ≡ run t (take i calls)
      → left ≡ step t b (get_or calls i d) → left ≡ run t (take (i + 1) calls)
  run_more calls i d b left l before after = after ∙ ap (λ x. step t x (get_or calls i d)) before ∙ sym (fold_more (step t) opened_book calls i d l)

  -- what a call leaves, by its outcome
  pub applied : (b left : BookState) (call : BookCall) (r : Result BookAnswer BookFault)
      → Outcome (book_refusal t b call) (book_answer t b call) b (book_after t b call) r left → left ≡ step t b call
  unfolding step
  applied b left call r o = left_by (book_refusal t b call) (book_answer t b call) b (book_after t b call) r left o
