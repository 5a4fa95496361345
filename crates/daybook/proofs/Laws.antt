-- What holds of a sound book, from the laws of a settled hour.
use Rattle.std.proofs.Common.{◌≡◌, ℕ, ◌<◌, true, false, cond, List, get_or, ℤ, pos, ◌-ℤ◌, sym, refl, ap, ◌∙◌, subst, ⊎_elim, arith}
use Rattle.std.proofs.lemmas.List.{get_or_past}
use Rattle.std.proofs.lemmas.List.FromFn.{get_or-map-range_with_len}
use Rattle.std.proofs.lemmas.Bool.{cases_Bool, cases_lt, cond-true, cond-false, both_ways}
use Rattle.inputs.specs.Inputs.{Inputs}
use Rattle.inputs.specs.States.{State}
use Rattle.settlement.specs.declared.line.Line.{Line}
use Rattle.settlement.specs.Sums.{sum, Meaning}
use Rattle.settlement.specs.Days.{day_of, members, sales_in, hour_of}
use Rattle.settlement.specs.Settlement.{line, zero_line, line_at, defined_lines, nobody_to_charge}
use Rattle.settlement.specs.Laws.{Bounded, Settles, SettlesEvery}
use Rattle.settlement.proofs.Sums.{sum_zero, sum_all, all_counting}
use Rattle.daybook.specs.declared.call.BookCall.{BookCall}
use Rattle.daybook.specs.Books.{BookState, settled_at, run}
use Rattle.daybook.specs.Replays.{SameInputs, due_line, excess, ClearingClose, Replayed}
use Rattle.daybook.proofs.Runs.{Sound, run_sound}

-- the line of a member is the one that the hour's definitions give
member_line : (t : Meaning) (i : Inputs) (h m : ℕ) → m < (day_of i).member_count → line_at (defined_lines t i h) m ≡ line t (day_of i) h (hour_of i h) (sales_in i h) m
unfolding defined_lines
member_line t i h m l = get_or-map-range_with_len (line t (day_of i) h (hour_of i h) (sales_in i h)) 0 (day_of i).member_count m m zero_line l (omega arith)

-- equal inputs, but for what each key of a trade maps to
same_inputs : (i j : Inputs) → SameInputs i j → i ≡ j
same_inputs i j e = λ n. record {
  members = e.members n;
  resources = e.resources n;
  hours = e.hours n;
  assignments = e.assignments n;
  traded = λ key. e.trades key n;
  events = e.events n;
}

pub same_due : (t : Meaning) (a b : State) → SameInputs a.inputs b.inputs → a.settled ≡ b.settled → (h m : ℕ) → due_line t a h m ≡ due_line t b h m
same_due t a b e f h m = λ n. cond (get_or (f n) h false) (line_at (defined_lines t (same_inputs a.inputs b.inputs e n) h) m) zero_line

module _ (t : Meaning) (b : BookState) (sound : Sound t b) (every : SettlesEvery t)
    (bounded : (k : ℕ) → k < 24 → Bounded (day_of b.state.inputs) k (hour_of b.state.inputs k) (sales_in b.state.inputs k)) where
  -- a settled hour is one of the day's
  settled_below : (h : ℕ) → settled_at b.state h ≡ true → h < 24
  settled_below h on =
      ⊎_elim (λ l. l)
      (λ past. absurd (both_ways (settled_at b.state h) (get_or_past b.state.settled h false (omega (arith, sound.flags))) on))
      (cases_lt h 24)

  hour_settles : (h : ℕ) → settled_at b.state h ≡ true → Settles t (day_of b.state.inputs) h (hour_of b.state.inputs h) (sales_in b.state.inputs h)
  unfolding nobody_to_charge
  hour_settles h on = every (day_of b.state.inputs) h (hour_of b.state.inputs h) (sales_in b.state.inputs h) (bounded h (settled_below h on)) (sound.payable h on)

  -- the defined line of a member
  abbrev defined : ℕ → ℕ → Line
  defined h m = line t (day_of b.state.inputs) h (hour_of b.state.inputs h) (sales_in b.state.inputs h) m

  settled_line : (h m : ℕ) → settled_at b.state h ≡ true → m < (day_of b.state.inputs).member_count
      → b.lines h m ≡ defined h m
  settled_line h m on l = sound.lines h m ∙ cond-true (settled_at b.state h) _ _ on ∙ member_line t b.state.inputs h m l

  -- two columns that agree over all members of every settled hour
  balances : (more less : Line → ℤ) → more zero_line -ℤ less zero_line ≡ pos 0 → (h : ℕ)
      → (settled_at b.state h ≡ true → sum (members (day_of b.state.inputs)) (λ m. more (defined h m) -ℤ less (defined h m)) ≡ pos 0)
      → excess b h more less ≡ pos 0
  balances more less none h some =
      let d = day_of b.state.inputs in
      ⊎_elim
      (λ on.
      sum_all (members d) _ _ (all_counting _ 0 d.member_count (λ m l. ap (λ (x : Line). more x -ℤ less x) (settled_line h m on (omega arith))))
      ∙ some on)
      (λ off.
      sum_all (members d) _ (λ _. pos 0) (all_counting _ 0 d.member_count (λ m l. ap (λ (x : Line). more x -ℤ less x) (sound.lines h m ∙ cond-false (settled_at b.state h) _ _ off) ∙ none))
      ∙ sum_zero (members d))
      (cases_Bool (settled_at b.state h))

  pub replayed : (calls : List BookCall) → b.state ≡ (run t calls).state → Replayed t calls b
  replayed calls e = record {
    state = e;
    lines = sound.lines;
    clearing_balances = λ h. balances (λ l. l.clearing_credit) (λ l. l.clearing_charge) refl h (λ on. (hour_settles h on).balanced.clearing);
    opportunity_cost_balances = λ h. balances (λ l. l.opportunity_cost_credit) (λ l. l.opportunity_cost_charge) refl h (λ on. (hour_settles h on).balanced.opportunity_costs);
    refunds_balance = λ h. balances (λ l. l.refund_paid) (λ l. l.refund_charged) refl h (λ on. (hour_settles h on).balanced.refunds);
    clearing_charge_close = λ h m on l some.
        subst (λ (x : Line). ClearingClose b.state.inputs h m x.clearing_charge) (sym (settled_line h m on l)) ((hour_settles h on).charges_close m l some);
    order_free = λ others same settled h m.
        (run_sound t others).lines h m ∙ same_due t (run t others).state b.state same settled h m ∙ sym (sound.lines h m);
  }
