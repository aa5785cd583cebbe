use Rattle.px_book.proofs.MoveLemmas.{calls_move_one}
use Rattle.px_book.proofs.laws.calls_move_one.Goals as goal

pub returns : goal.returns
returns c = calls_move_one
