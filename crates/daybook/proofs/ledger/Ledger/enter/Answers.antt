use Rattle.inputs.specs.States.{state_of}
use Rattle.inputs.specs.Calls.{refusal, answer_of}
use Rattle.daybook.specs.Books.{book_of}
use Rattle.daybook.proofs.Books.{entered_outcome}
use Rattle.daybook.proofs.ledger.Ledger.enter.Goals as goal

pub returns : goal.returns
unfolding book_of
returns c =
    let s = state_of c.args.self.now.inputs in
    let call = c.args.call in
    entered_outcome (refusal s call) (answer_of s call) s (state_of c.apply.new.self) c.args.self.now.lines.rows call c.apply.result c.apply.ensures.outcome
