use Rattle.std.proofs.Common.{◌∙◌}
use Rattle.px_real_declarations.specs.Names.{declared_name}
use Rattle.px_real_declaring.specs.Trees.{declarator_tree, declared_tree}
use Rattle.px_real_types.specs.Scopes.{texts}
use Rattle.px_real_scopes.specs.Behind.{declared_meaning}
use Rattle.px_real_scopes.proofs.MemberLemmas.{on_ok}
use Rattle.px_real_scopes.proofs.BehindLemmas.{named_is, not_named}
use Rattle.px_real_scopes.proofs.declaring.add_declared.Goals as goal

pub returns-in_ok-meaning-in-Some-clause-added : goal.returns-in_ok-meaning-in-Some-clause-added
returns-in_ok-meaning-in-Some-clause-added c =
    let all = texts c.args.on in
    on_ok c.add_name.result (λ e. e ∙ named_is (declared_name (declarator_tree all c.args.declared.now.declarator)) c.in-Some.name.now c.as_slice.result.now _ _ c.args.scopes.now (c.in-Some.ensures all) c.as_slice.ensures c.in_ok-meaning-in-Some.ensures)
    c.add_name.ensures.added

pub returns-in-None-clause-added : goal.returns-in-None-clause-added
returns-in-None-clause-added c =
    let all = texts c.args.on in
    not_named (declared_name (declarator_tree all c.args.declared.now.declarator)) (declared_meaning c.args.scopes.now c.args.is_type c.args.known c.args.word.now (declared_tree all c.args.declared.now)) c.args.scopes.now (c.in-None.ensures all)
