use Rattle.px_explore.proofs.PathLemmas.{paths_are_prefixes}
use Rattle.px_explore.proofs.laws.paths_are_prefixes.Goals as goal

pub returns : goal.returns
returns c = paths_are_prefixes
