use Rattle.px_book.proofs.LaterLemmas.{books_go_on}
use Rattle.px_book.proofs.laws.books_go_on.Goals as goal

pub returns : goal.returns
returns c = books_go_on
