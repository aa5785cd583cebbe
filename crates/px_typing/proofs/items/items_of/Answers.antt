use Rattle.std.proofs.Common.{◌≡◌, ◌∙◌, ◌++◌, [], map, flat_map, sym, ap, subst}
use Rattle.px_syntax.specs.ParsedTree.{FileTree, file_tree}
use Rattle.px_bodies.specs.Environment.{environment_of}
use Rattle.px_typing.specs.Readings.{Knows}
use Rattle.px_typing.specs.ItemViews.{marked_of}
use Rattle.px_typing.specs.Keeping.{marked_after}
use Rattle.px_typing.proofs.ItemLemmas.{trees_marked, environment_is}
use Rattle.px_typing.proofs.items.items_of.Goals as goal

pub returns-clause-environment : goal.returns-clause-environment
returns-clause-environment c =
    let trees = flat_map (λ (f : FileTree). f.items) (map file_tree c.args.files.now) in
    let all = c.in_ok-mark_files.ensures [] c.new-reading.ensures in
    let k = c.in_ok-declare_items.ensures trees [] all.1 in
    let same = trees_marked c.mark_files.new.marked.items trees (all.0 ∙ ap (λ ms. map marked_of ms ++ marked_after [] trees) c.new-marked.ensures.items) in
    environment_is trees (environment_of c.declare_items.new.reading.environment) (subst (λ ps. Knows trees ps c.declare_items.new.reading) (ap (map _) c.deref.ensures.value ∙ same) k).holds
