use Rattle.std.proofs.Common.{◌≡◌, is_some, Ok, Err, sym, refl, ap, ◌∙◌, w64, to_z, of_z, rules}
use Rattle.std.proofs.lemmas.Result.{err_from_is_err_and}
use Rattle.daybook.specs.Books.{book_of}
use Rattle.daybook.proofs.Settles.{event_runs, not_settled, settled}
use Rattle.daybook.proofs.book.DayBook.settle.Goals as goal

pub returns-then-is_some : goal.returns-then-is_some
unfolding book_of
returns-then-is_some g c =
    let b = c.args.self.now in
    record {
      rule = refl;
      outcome = event_runs (g.R.AllocationRule.shares b.rule) (book_of b.ledger) c.args.hour c.in_ok-place.place.place (sym c.in_ok-place.ensures) (ap is_some (sym c.running_event.ensures) ∙ sym c.is_some.ensures ∙ c.if-is_some.true);
    }

pub returns-in_err-settled : goal.returns-in_err-settled
unfolding book_of
returns-in_err-settled g c =
    let b = c.args.self.now in
    let e = err_from_is_err_and c.from_residual-in_err-settled.result c.from_residual-in_err-settled.ensures.1 in
    record {
      rule = refl;
      outcome = not_settled (g.R.AllocationRule.shares b.rule) (book_of b.ledger) c.args.hour c.in_ok-place.place.place (sym c.in_ok-place.ensures) _ c.from_residual-in_err-settled.result (ap is_some (sym c.running_event.ensures) ∙ sym c.is_some.ensures ∙ c.if-is_some.false) c.in_err-settled.ensures (e.1 ∙ ap Err e.2);
    }

pub returns : goal.returns
unfolding book_of
returns g c =
    let b = c.args.self.now in
    let total : to_z w64 (of_z w64 c.in_ok-settled.settled.total) ≡ c.in_ok-settled.settled.total = search rules in
    record {
      rule = refl;
      outcome =
          settled (g.R.AllocationRule.shares b.rule) (book_of b.ledger) c.args.hour c.in_ok-place.place.place (sym c.in_ok-place.ensures)
          c.in_ok-settled.settled (Ok (to_z w64 (of_z w64 c.in_ok-settled.settled.total))) (book_of c.record.new.self)
          (ap is_some (sym c.running_event.ensures) ∙ sym c.is_some.ensures ∙ c.if-is_some.false) c.in_ok-settled.ensures (ap Ok total) c.record.ensures;
    }
