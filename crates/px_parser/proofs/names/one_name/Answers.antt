use Rattle.px_parser.proofs.NameLemmas as Lemmas
use Rattle.px_parser.proofs.names.one_name.Goals as goal

pub returns : goal.returns
returns c = Lemmas.one_name
