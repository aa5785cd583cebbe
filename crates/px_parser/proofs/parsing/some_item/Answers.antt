use Rattle.px_parser.proofs.Existence as Existence
use Rattle.px_parser.proofs.parsing.some_item.Goals as goal

pub returns : goal.returns
returns c = Existence.some_item
