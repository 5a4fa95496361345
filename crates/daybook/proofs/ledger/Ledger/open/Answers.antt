use Rattle.inputs.specs.States.{state_of}
use Rattle.daybook.specs.Books.{book_of}
use Rattle.daybook.proofs.Books.{opened_over}
use Rattle.daybook.proofs.ledger.Ledger.open.Goals as goal

pub returns : goal.returns
unfolding book_of
returns c = opened_over (state_of c.open.result) c.blank.result.rows c.open.ensures
