use Rattle.std.proofs.Common.{ℕ, ◌<◌, List, sym, subst, length, ◌∙◌}
use Rattle.std.specs.Prelude.{All}
use Rattle.px_core.specs.BodyTree.{body_tree}
use Rattle.px_callgraph.specs.Working.{Gains}
use Rattle.px_callgraph.proofs.Calling.{as_calls, named_inside}
use Rattle.px_callgraph.proofs.edges.add_calls.Goals as goal

pub add_edges-requires-clause-inside : goal.add_edges-requires-clause-inside
add_edges-requires-clause-inside c =
    subst (All (λ g. g < length c.args.graph.now)) (sym (c.deref.ensures.value ∙ c.in_ok-names.ensures)) (named_inside (length c.args.graph.now) (body_tree c.args.body.now) c.requires.names)

pub returns : goal.returns
returns c =
    as_calls c.args.graph.now c.add_edges.new.graph c.args.proc (body_tree c.args.body.now)
    (subst (λ (xs : List ℕ). Gains c.args.graph.now c.args.proc xs c.add_edges.new.graph) (c.deref.ensures.value ∙ c.in_ok-names.ensures) c.in_ok-add_edges.ensures)
