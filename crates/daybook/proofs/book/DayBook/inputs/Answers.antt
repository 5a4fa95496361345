use Rattle.std.proofs.Common.{refl}
use Rattle.daybook.specs.Books.{book_of}
use Rattle.daybook.proofs.book.DayBook.inputs.Goals as goal

pub returns : goal.returns
unfolding book_of
returns g c = refl
