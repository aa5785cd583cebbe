use Rattle.std.proofs.Common.{refl}
use Rattle.px_callgraph.specs.Alternatives.{ways, act}
use Rattle.px_callgraph.proofs.laws.worked_paths.Goals as goal

pub returns : goal.returns
unfolding ways act
returns c = record { both_frees = refl; turns = refl; past_bound = refl }
