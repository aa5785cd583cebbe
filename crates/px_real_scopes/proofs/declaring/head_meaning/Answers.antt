use Rattle.std.proofs.Common.{map, ap, ap₂, ◌∙◌}
use Rattle.px_real_declaring.specs.Trees.{specifier_tree, declarator_tree}
use Rattle.px_real_members.specs.Trees.{head_tree}
use Rattle.px_real_types.specs.Scopes.{texts}
use Rattle.px_real_types.specs.Specifiers.{specified}
use Rattle.px_real_types.specs.Declarators.{function_in, signature_tree}
use Rattle.px_real_types.specs.Types.{unknown}
use Rattle.px_real_scopes.specs.Scopes.{an_object, a_function}
use Rattle.px_real_scopes.specs.Lookups.{meanings}
use Rattle.px_real_scopes.specs.Knowing.{type_word}
use Rattle.px_real_scopes.specs.Functions.{defined_function}
use Rattle.px_real_scopes.proofs.TurnLemmas.{or_some, or_none}
use Rattle.px_real_scopes.proofs.declaring.head_meaning.Goals as goal

pub returns-in_ok-defined_function-in-Some : goal.returns-in_ok-defined_function-in-Some
returns-in_ok-defined_function-in-Some c =
    let all = texts c.args.on in
    let st = c.args.scopes.now in
    let h = head_tree all c.args.head.now in
    let d = declarator_tree all c.args.head.now.declarator in
    let w = type_word (map (specifier_tree all) c.args.head.now.specifiers.items) in
    ap₂ a_function c.in_ok-defined_function-in-Some.ensures (c.in_ok-word.ensures all ∙ ap (λ z. type_word (map (specifier_tree all) z)) c.deref.ensures.value)
    ∙ or_some (function_in d (specified (meanings st) (map (specifier_tree all) c.args.head.now.specifiers.items))) (signature_tree all c.in-Some.signature) (λ f. a_function (defined_function st h f) w) (an_object unknown w)
    (c.in-Some.ensures ∙ ap (function_in d) (c.specified-shape.ensures ∙ ap (λ z. specified (meanings st) (map (specifier_tree all) z)) c.deref-2.ensures.value))

pub returns-in-None : goal.returns-in-None
returns-in-None c =
    let all = texts c.args.on in
    let st = c.args.scopes.now in
    let h = head_tree all c.args.head.now in
    let d = declarator_tree all c.args.head.now.declarator in
    let w = type_word (map (specifier_tree all) c.args.head.now.specifiers.items) in
    ap₂ an_object c.unknown.ensures (c.in_ok-word.ensures all ∙ ap (λ z. type_word (map (specifier_tree all) z)) c.deref.ensures.value)
    ∙ or_none (function_in d (specified (meanings st) (map (specifier_tree all) c.args.head.now.specifiers.items))) (λ f. a_function (defined_function st h f) w) (an_object unknown w)
    (c.in-None.ensures ∙ ap (function_in d) (c.specified-shape.ensures ∙ ap (λ z. specified (meanings st) (map (specifier_tree all) z)) c.deref-2.ensures.value))
