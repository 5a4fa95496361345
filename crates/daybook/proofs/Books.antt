-- What a change of the tables leaves of the book.
use Rattle.std.proofs.Common.{◌≡◌, ℕ, zero, suc, ◌<◌, Bool, true, false, List, [], ◌∷◌, length, get_or, set, replicate, Some, None, Option, Result, sym, refl, ap, ◌∙◌, ⊎_elim}
use Rattle.std.proofs.lemmas.List.{get_or-set_same, get_or-set_other}
use Rattle.std.proofs.lemmas.Bool.{cases_eq, cases_Bool, eq-eqb, ne_eqb, cond-true, cond-false, both_ways}
use Rattle.events.specs.declared.fault.BookFault.{BookFault}
use Rattle.events.specs.declared.calls.EventCall.TheVariants.{Begin, Read, Close, Cancel}
use Rattle.events.specs.Outcomes.{Outcome}
use Rattle.inputs.specs.declared.call.Call.{Call}
use Rattle.inputs.specs.declared.call.Call.TheVariants.{Enrol, Register, SetLoad, SetPrices, Assign, SetTrade, Happen}
use Rattle.inputs.specs.States.{State, opened, hour_settled}
use Rattle.inputs.specs.Calls.{after}
use Rattle.settlement.specs.declared.line.Line.{Line}
use Rattle.settlement.specs.Settlement.{line_at}
use Rattle.daybook.specs.Books.{BookState, settled_at, opened_book, book_over, entered, recorded, unless_refused}

-- books with the same state and the same lines are the same
pub same_book : (a b : BookState) → a.state ≡ b.state → ((h m : ℕ) → a.lines h m ≡ b.lines h m) → a ≡ b
same_book a b p q = λ i. record { state = p i; lines = λ h m. q h m i }

-- an hour that was cleared is not settled
pub cleared_off : (flags : List Bool) (h : ℕ) → get_or (set flags h false) h false ≡ false
cleared_off [] h = refl
cleared_off (x ∷ xs) zero = refl
cleared_off (x ∷ xs) (suc h) = cleared_off xs h

pub all_off : (n h : ℕ) → get_or (replicate n false) h false ≡ false
all_off zero h = refl
all_off (suc n) zero = refl
all_off (suc n) (suc h) = all_off n h

-- an hour that is settled after another or the same was cleared was settled before, and is not the cleared one
pub still_on : (flags : List Bool) (k h : ℕ) → get_or (set flags k false) h false ≡ true → (get_or flags h false ≡ true) × (h ≡ k → ⊥)
still_on flags k h on =
    let other : h ≡ k → ⊥ = λ e. both_ways (get_or (set flags k false) h false) (ap (λ (n : ℕ). get_or (set flags k false) n false) e ∙ cleared_off flags k) on in
    (sym (get_or-set_other flags k h false false other) ∙ on, other)

-- nor is any
pub none_on : (n h : ℕ) {P : Type 0} → get_or (replicate n false) h false ≡ true → P
none_on n h on = absurd (both_ways (get_or (replicate n false) h false) (all_off n h) on)

-- no entry settles an hour
pub was_settled : (s : State) (call : Call) (h : ℕ) → settled_at (after s call) h ≡ true → settled_at s h ≡ true
was_settled s (Enrol code) h on = none_on 24 h on
was_settled s (Register code owner kind sum) h on = none_on 24 h on
was_settled s (SetLoad hour name kwh) h on = (still_on _ _ h on).0
was_settled s (SetPrices hour synchronized other) h on = (still_on _ _ h on).0
was_settled s (Assign hour name assignment) h on = none_on 24 h on
was_settled s (SetTrade hour seller buyer kwh) h on = (still_on _ _ h on).0
was_settled s (Happen (Begin start)) h on = on
was_settled s (Happen (Read name edge sample)) h on = on
was_settled s (Happen (Close end)) h on = none_on 24 h on
was_settled s (Happen Cancel) h on = on

-- the same lines in memory under the state after an entry
pub entered_over : (s : State) (rows : List (List Line)) (call : Call) → book_over (after s call) rows ≡ entered (book_over s rows) call
entered_over s rows call = same_book (book_over (after s call) rows) (entered (book_over s rows) call) refl each
  where
    each : (h m : ℕ) → (book_over (after s call) rows).lines h m ≡ (entered (book_over s rows) call).lines h m
    each h m =
        ⊎_elim
        (λ on. cond-true (settled_at (after s call) h) _ _ on ∙ sym (cond-true (settled_at (after s call) h) _ _ on ∙ cond-true (settled_at s h) _ _ (was_settled s call h on)))
        (λ off. cond-false (settled_at (after s call) h) _ _ off ∙ sym (cond-false (settled_at (after s call) h) _ _ off))
        (cases_Bool (settled_at (after s call) h))

-- what the tables' answer to an entry says of the book
pub entered_outcome : {A : Type 0} (f : Option BookFault) (a : A) (s left : State) (rows : List (List Line)) (call : Call) (r : Result A BookFault)
    → Outcome f a s (after s call) r left → Outcome f a (book_over s rows) (entered (book_over s rows) call) r (book_over left rows)
entered_outcome None a s left rows call r o = (o.0, ap (λ (x : State). book_over x rows) o.1 ∙ entered_over s rows call)
entered_outcome (Some fault) a s left rows call r o = (o.0, ap (λ (x : State). book_over x rows) o.1)

-- one hour's lines set in memory, and the hour settled
pub recorded_over : (s : State) (rows : List (List Line)) (k : ℕ) (row : List Line) → k < length s.settled → k < length rows
    → book_over (hour_settled k s) (set rows k row) ≡ recorded (book_over s rows) k (line_at row)
recorded_over s rows k row flags tall = same_book (book_over (hour_settled k s) (set rows k row)) (recorded (book_over s rows) k (line_at row)) refl each
  where
    each : (h m : ℕ) → (book_over (hour_settled k s) (set rows k row)).lines h m ≡ (recorded (book_over s rows) k (line_at row)).lines h m
    each h m =
        ⊎_elim
        (λ (e : h ≡ k). rw (e, get_or-set_same s.settled k true false flags, get_or-set_same rows k row [] tall, eq-eqb k k refl))
        (λ (ne : h ≡ k → ⊥). rw (get_or-set_other s.settled k h true false ne, get_or-set_other rows k h row [] ne, ne_eqb h k ne))
        (cases_eq h k)

-- a book that an outcome leaves is the one after the call, or the old one
pub left_by : {A : Type 0} (f : Option BookFault) (a : A) (old new : BookState) (r : Result A BookFault) (left : BookState)
    → Outcome f a old new r left → left ≡ unless_refused f new old
left_by None a old new r left o = o.1
left_by (Some fault) a old new r left o = o.1

pub opened_over : (s : State) (rows : List (List Line)) → s ≡ opened → book_over s rows ≡ opened_book
opened_over s rows e =
    ap (λ (x : State). book_over x rows) e
    ∙ same_book (book_over opened rows) opened_book refl (λ h m. cond-false (settled_at opened h) _ _ (all_off 24 h))
