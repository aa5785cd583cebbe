use Rattle.std.proofs.Common.{None, ap, ◌∙◌}
use Rattle.px_real_declarations.specs.Names.{declared_name}
use Rattle.px_real_declaring.specs.Trees.{declarator_tree, declared_tree}
use Rattle.px_real_types.specs.Scopes.{texts}
use Rattle.px_real_scopes.specs.Functions.{says_named}
use Rattle.px_real_scopes.proofs.TurnLemmas.{or_some, or_none}
use Rattle.px_real_scopes.proofs.functions.says_parameter.Goals as goal

pub returns-in-Some : goal.returns-in-Some
returns-in-Some c =
    let x = declared_tree (texts c.args.on) c.args.declared.now in
    c.says_named.ensures ∙ ap (says_named c.args.word.now c.args.shape x) c.as_slice.ensures
    ∙ or_some (declared_name (declarator_tree (texts c.args.on) c.args.declared.now.declarator)) _ (says_named c.args.word.now c.args.shape x) None (c.in-Some.ensures (texts c.args.on))

pub returns-in-None : goal.returns-in-None
returns-in-None c =
    let x = declared_tree (texts c.args.on) c.args.declared.now in
    or_none (declared_name (declarator_tree (texts c.args.on) c.args.declared.now.declarator)) (says_named c.args.word.now c.args.shape x) None (c.in-None.ensures (texts c.args.on))
