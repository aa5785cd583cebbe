use Rattle.std.proofs.Common.{◌∙◌, ◌++◌, [], map, ap, subst}
use Rattle.px_syntax.specs.ParsedTree.{parsed_tree}
use Rattle.px_bodies.specs.Environment.{environment_of}
use Rattle.px_typing.specs.Readings.{Knows}
use Rattle.px_typing.specs.ItemViews.{marked_of}
use Rattle.px_typing.specs.Keeping.{marked_after}
use Rattle.px_typing.proofs.ItemLemmas.{trees_marked, environment_is}
use Rattle.px_typing.proofs.items.environment_of_items.Goals as goal

pub returns : goal.returns
returns c =
    let trees = map parsed_tree c.args.items.now in
    let all = c.in_ok-mark_items.ensures [] c.new-reading.ensures in
    let k = c.in_ok-declare_items.ensures trees [] all.1 in
    let same = trees_marked c.mark_items.new.marked.items trees (all.0 ∙ ap (λ ms. map marked_of ms ++ marked_after [] trees) c.in_ok-marked.ensures.items) in
    environment_is trees (environment_of c.declare_items.new.reading.environment) (subst (λ ps. Knows trees ps c.declare_items.new.reading) (ap (map _) c.deref.ensures.value ∙ same) k).holds
