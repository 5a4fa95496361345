use Rattle.daybook.specs.Books.{book_of}
use Rattle.daybook.proofs.book.DayBook.is_settled.Goals as goal

pub returns : goal.returns
unfolding book_of
returns g c = c.is_settled.ensures
