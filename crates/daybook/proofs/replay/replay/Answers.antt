use Rattle.std.proofs.Common.{◌≡◌, ◌+◌, [], length, get_or, take, sym, ap, ◌∙◌, subst, arith}
use Rattle.std.proofs.lemmas.List.{take_all, get_or_default}
use Rattle.settlement.proofs.Stands.{settles}
use Rattle.settlement.proofs.Tables.{bounded}
use Rattle.inputs.specs.declared.call.Call.TheVariants.{Enrol}
use Rattle.daybook.specs.declared.call.BookCall.{BookCall}
use Rattle.daybook.specs.declared.call.BookCall.TheVariants.{Enter, Settle}
use Rattle.daybook.specs.Books.{book_of, step, run, response, response_at}
use Rattle.daybook.proofs.Runs.{Sound, run_sound, run_more, applied}
use Rattle.daybook.proofs.Laws.{replayed}
use Rattle.daybook.proofs.Responses.{AnsweredBefore, responded, one_more, no_place}
use Rattle.daybook.proofs.replay.replay.Goals as goal
use Rattle.daybook.proofs.replay.replay.Goals.{then-place-answers, else-place-answers}

-- what is read past the last call
abbrev no_call : BookCall
no_call = Enter (Enrol (record { ref_ptr = (0, 0); now = [] }))

pub loop-place-preserved : goal.loop-place-preserved
loop-place-preserved g c =
    let before = c.loop-place.book in
    let left = book_of c.apply-answer.new.self.ledger in
    let calls = c.args.calls.now in
    let i = c.loop-place.place in
    let same = c.loop-place.invariant.0 in
    let t = g.R.AllocationRule.shares c.open-book.result.rule in
    let more = c.loop-place-test.true in
    let stepped = applied (g.R.AllocationRule.shares before.rule) (book_of before.ledger) left (get_or calls i no_call) c.apply-answer.result c.apply-answer.ensures.outcome in
    let told : c.apply-answer.result ≡ response_at t calls i =
    responded _ _ _ _ _ _ c.apply-answer.ensures.outcome
    ∙ ap (λ r. response (g.R.AllocationRule.shares r) (book_of before.ledger) (get_or calls i no_call)) same
    ∙ ap (λ b. response t b (get_or calls i no_call)) c.loop-place.invariant.1
    ∙ ap (response t (run t (take i calls))) (get_or_default calls i no_call (Settle 0) more) in (
      c.apply-answer.ensures.rule ∙ same,
      run_more t calls i no_call (book_of before.ledger) left more c.loop-place.invariant.1
          (stepped ∙ ap (λ r. step (g.R.AllocationRule.shares r) (book_of before.ledger) (get_or calls i no_call)) same),
      elim c.if-place-answers.branch [
        | then-place-answers w ↦ subst (AnsweredBefore t calls (i + 1) c.args.answers.now) (sym w.answers-is) (one_more t calls i c.args.answers.now c.loop-place.answers c.loop-place.invariant.2 c.apply-answer.result told w.if-place-answers.true)
        | else-place-answers w ↦ subst (AnsweredBefore t calls (i + 1) c.args.answers.now) (sym w.answers-is) (no_place t calls i c.args.answers.now c.loop-place.answers c.loop-place.invariant.2 w.if-place-answers.false)
      ],
    )

pub returns : goal.returns
unfolding book_of
returns g c =
    let rule = c.args.rule in
    let t = g.R.AllocationRule.shares rule in
    let calls = c.args.calls.now in
    let ledger = c.loop-place.book.ledger in
    let reached : book_of ledger ≡ run t calls = c.loop-place.invariant.1 ∙ ap (λ r. run (g.R.AllocationRule.shares r) (take c.loop-place.place calls)) c.open-book.ensures.rule ∙ ap (run t) (take_all c.loop-place.place calls c.loop-place-test.false) in
    record {
      rule = c.loop-place.invariant.0 ∙ c.open-book.ensures.rule;
      answers =
          let all : c.loop-place.place ≡ length calls = omega arith in
          subst (λ r. AnsweredBefore (g.R.AllocationRule.shares r) calls (length calls) c.args.answers.now c.loop-place.answers) c.open-book.ensures.rule
          (subst (λ n. AnsweredBefore (g.R.AllocationRule.shares c.open-book.result.rule) calls n c.args.answers.now c.loop-place.answers) all c.loop-place.invariant.2);
      replayed =
          replayed t (book_of ledger) (subst (Sound t) (sym reached) (run_sound t calls))
          (settles t (record { counted = g.met.R.AllocationRule.counted rule; whole = g.met.R.AllocationRule.whole rule; rounded = g.met.R.AllocationRule.rounded rule }))
          (bounded ledger.inputs) calls (ap (λ b. b.state) reached);
    }
