use Rattle.px_parser.proofs.Existence as Existence
use Rattle.px_parser.proofs.names.some_name.Goals as goal

pub returns : goal.returns
returns c = Existence.some_name
