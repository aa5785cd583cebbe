use Rattle.std.proofs.Common.{◌<◌, List, ℕ, length, subst, sym, ◌∙◌}
use Rattle.std.specs.Prelude.{All}
use Rattle.px_components.proofs.Edges.{targets_inside}
use Rattle.px_components.proofs.Rows.{rows_of, row_at}
use Rattle.px_components.proofs.graph.Graph.targets.Goals as goal

pub returns-clause-inside : goal.returns-clause-inside
returns-clause-inside c =
    let l : c.args.node < length (rows_of c.self.inside.targets.items) = subst (λ (g : List (List ℕ)). c.args.node < length g) (sym c.self.view_is) c.requires in
    subst (λ (g : List (List ℕ)). All (λ y. y < length g) c.deref.result.now) c.self.view_is
    (targets_inside (rows_of c.self.inside.targets.items) c.args.node c.deref.result.now c.self.invariant.0
    (c.deref.ensures.value ∙ row_at c.self.inside.targets.items c.args.node c.index.result.now l c.index.ensures))
