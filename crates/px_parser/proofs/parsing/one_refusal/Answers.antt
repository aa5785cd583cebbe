use Rattle.px_parser.proofs.RefusalExact as Exact
use Rattle.px_parser.proofs.parsing.one_refusal.Goals as goal

pub returns : goal.returns
returns c = Exact.one_refusal
