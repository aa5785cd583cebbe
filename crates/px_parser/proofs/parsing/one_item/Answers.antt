use Rattle.px_parser.proofs.ItemExact as Exact
use Rattle.px_parser.proofs.parsing.one_item.Goals as goal

pub returns : goal.returns
returns c = Exact.one_item
