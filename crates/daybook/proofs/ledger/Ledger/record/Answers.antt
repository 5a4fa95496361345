use Rattle.std.proofs.Common.{List, ap, ◌∙◌, arith, rules}
use Rattle.inputs.specs.States.{State, state_of, hour_settled}
use Rattle.settlement.specs.declared.line.Line.{Line}
use Rattle.daybook.specs.Books.{book_of, book_over}
use Rattle.daybook.proofs.Books.{recorded_over}
use Rattle.daybook.proofs.ledger.Ledger.record.Goals as goal

pub returns : goal.returns
unfolding book_of
returns c =
    let l = c.args.self.now in
    ap (λ (s : State). book_over s c.set.new.self.rows) c.mark_settled.ensures
    ∙ ap (λ (rows : List (List Line)). book_over (hour_settled c.args.hour.place (state_of l.inputs)) rows) c.set.ensures
    ∙ recorded_over (state_of l.inputs) l.lines.rows c.args.hour.place c.args.lines (omega (arith, c.args.hour.within, l.inputs.settled.whole)) (search rules)
