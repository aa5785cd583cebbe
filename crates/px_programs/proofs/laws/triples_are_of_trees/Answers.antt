use Rattle.px_programs.proofs.TriplesKept.{triples}
use Rattle.px_programs.proofs.laws.triples_are_of_trees.Goals as goal

pub returns : goal.returns
returns c = triples
