use Rattle.std.proofs.Common.{true, false, Ok, Err, sym, ap, ◌∙◌}
use Rattle.std.proofs.lemmas.Result.{err_from_is_err_and}
use Rattle.inputs.specs.States.{state_of}
use Rattle.daybook.specs.Books.{book_of}
use Rattle.daybook.proofs.Settles.{no_such_member, line_found}
use Rattle.daybook.proofs.ledger.Ledger.line.Goals as goal

pub returns-in_err-member : goal.returns-in_err-member
unfolding book_of
returns-in_err-member c =
    let l = c.args.self.now in
    let e = err_from_is_err_and c.from_residual-in_err-member.result c.from_residual-in_err-member.ensures.1 in
    e.1 ∙ ap Err e.2
    ∙ no_such_member (state_of l.inputs) l.lines.rows c.args.hour c.in_ok-place.place.place c.args.member.now (sym c.in_ok-place.ensures) _ (sym c.in_err-member.ensures.value)

pub returns-then-branch : goal.returns-then-branch
unfolding book_of
returns-then-branch c =
    let l = c.args.self.now in
    ap Ok c.at.ensures
    ∙ line_found (state_of l.inputs) l.lines.rows c.args.hour c.in_ok-place.place.place c.args.member.now (sym c.in_ok-place.ensures)
    c.in_ok-member.member true (sym c.in_ok-member.ensures.value) (sym c.in_ok-is_settled.ensures ∙ ap Ok c.if-branch.true)

pub returns-else-branch : goal.returns-else-branch
unfolding book_of
returns-else-branch c =
    let l = c.args.self.now in
    line_found (state_of l.inputs) l.lines.rows c.args.hour c.in_ok-place.place.place c.args.member.now (sym c.in_ok-place.ensures)
    c.in_ok-member.member false (sym c.in_ok-member.ensures.value) (sym c.in_ok-is_settled.ensures ∙ ap Ok c.if-branch.false)
