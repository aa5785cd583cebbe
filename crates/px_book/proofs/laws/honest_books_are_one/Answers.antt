use Rattle.px_book.proofs.LaterLemmas.{honest_books}
use Rattle.px_book.proofs.laws.honest_books_are_one.Goals as goal

pub returns : goal.returns
returns c = honest_books
