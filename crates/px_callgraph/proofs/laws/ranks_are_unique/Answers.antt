use Rattle.std.proofs.Common.{sym, ◌∙◌}
use Rattle.px_callgraph.proofs.Uniqueness.{same_ranks}
use Rattle.px_callgraph.proofs.laws.ranks_are_unique.Goals as goal

pub returns : goal.returns
returns c = λ bodies kept f m n l (a, h, e) (b, k, d). sym e ∙ same_ranks bodies kept a b h k f l ∙ d
