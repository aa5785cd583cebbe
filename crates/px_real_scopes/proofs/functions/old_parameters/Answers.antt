use Rattle.std.proofs.Common.{map, ap, ◌∙◌}
use Rattle.px_real_declaring.specs.Trees.{declaration_tree}
use Rattle.px_real_types.specs.Scopes.{texts}
use Rattle.px_real_scopes.specs.Functions.{old_parameter}
use Rattle.px_real_scopes.proofs.TurnLemmas.{put_behind}
use Rattle.px_real_scopes.proofs.functions.old_parameters.Goals as goal

pub loop-word-preserved : goal.loop-word-preserved
loop-word-preserved c =
    let f = old_parameter c.args.scopes.now (map (declaration_tree (texts c.args.on)) c.args.declarations.now) in
    put_behind f c.args.words.now c.loop-word.word-index c.word-item.result c.loop-word.types.items c.push.new.self.items c.old_parameter.result c.loop-word-test.true c.word-item.is c.in_ok-push.ensures.items
    (c.old_parameter.ensures ∙ ap f c.as_slice.ensures) c.loop-word.invariant
