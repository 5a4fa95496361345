use Rattle.std.proofs.Common.{◌≡◌, take}
use Rattle.daybook.specs.Books.{book_of, run}
use Rattle.daybook.proofs.Responses.{AnsweredBefore}
use Rattle.daybook.proofs.replay.replay.Given as goal

abbrev pub invariant-loop-place : goal.invariant-loop-place
invariant-loop-place g l =
    (l.book.rule ≡ l.initial.book.rule) ×
    (book_of l.book.ledger ≡ run (g.R.AllocationRule.shares l.initial.book.rule) (take l.place l.calls)) ×
    AnsweredBefore (g.R.AllocationRule.shares l.initial.book.rule) l.calls l.place l.initial.answers l.answers
