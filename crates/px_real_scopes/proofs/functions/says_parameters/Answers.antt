use Rattle.std.proofs.Common.{map, sym, ap, ap₂, ◌∙◌}
use Rattle.px_real_declaring.specs.Trees.{specifier_tree, declared_tree, declaration_tree}
use Rattle.px_real_types.specs.Scopes.{texts}
use Rattle.px_real_types.specs.Specifiers.{specified}
use Rattle.px_real_scopes.specs.Lookups.{meanings}
use Rattle.px_real_scopes.specs.Functions.{says_among, says_parameters}
use Rattle.px_real_scopes.proofs.functions.says_parameters.Goals as goal

pub returns-in-Declaration : goal.returns-in-Declaration
returns-in-Declaration c =
    let all = texts c.args.on in
    c.says_among.ensures
    ∙ ap₂ (λ s xs. says_among c.args.word.now s (map (declared_tree all) xs)) (c.specified.ensures ∙ ap (λ z. specified (meanings c.args.scopes.now) (map (specifier_tree all) z)) c.deref.ensures.value) c.deref-in-Declaration.ensures.value
    ∙ sym (ap (λ z. says_parameters c.args.scopes.now c.args.word.now (declaration_tree all z)) c.in-Declaration.is)
