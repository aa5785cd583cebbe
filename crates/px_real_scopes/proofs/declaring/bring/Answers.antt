use Rattle.std.proofs.Common.{map, nat_eq, sym, ap, ◌∙◌}
use Rattle.px_real_declarations.specs.Names.{is_typedef}
use Rattle.px_real_declaring.specs.Trees.{specifier_tree, declared_tree, declaration_tree}
use Rattle.px_real_types.specs.Scopes.{texts}
use Rattle.px_real_scopes.specs.Knowing.{type_word, specified_known}
use Rattle.px_real_scopes.specs.Entering.{with_specifiers}
use Rattle.px_real_scopes.specs.Behind.{with_declared, behind}
use Rattle.px_real_scopes.proofs.GrowLemmas.{grows_on}
use Rattle.px_real_scopes.proofs.BehindLemmas.{none_declared, declared_behind}
use Rattle.px_real_scopes.proofs.declaring.bring.Goals as goal

pub returns-in_err-add_all-clause-grows : goal.returns-in_err-add_all-clause-grows
returns-in_err-add_all-clause-grows c = grows_on c.with_specifiers.ensures.grows c.add_all.ensures.grows

pub returns-clause-comes : goal.returns-clause-comes
returns-clause-comes c =
    let all = texts c.args.on in
    let st = c.args.scopes.now in
    let mid = c.with_specifiers.new.scopes in
    let ss = c.in-Declaration.specifiers.items in
    let xs = c.in-Declaration.declared.items in
    ap (λ z. behind st (declaration_tree all z)) c.in-Declaration.is
    ∙ declared_behind st mid c.add_all.new.scopes (map (specifier_tree all) ss) (map (declared_tree all) xs) c.specified_known-known.result c.in_ok-word.word
    (c.specified_known-known.ensures ∙ ap (λ z. specified_known mid (map (specifier_tree all) z)) c.deref-2.ensures.value) (c.in_ok-word.ensures all ∙ ap (λ z. type_word (map (specifier_tree all) z)) c.deref-3.ensures.value)
    c.is_empty.result c.is_typedef.result
    (c.is_empty.ensures ∙ ap (λ n. nat_eq n 0) c.in-Declaration.declared.ok.0 ∙ none_declared (declared_tree all) xs)
    (c.is_typedef.ensures all ∙ ap (λ z. is_typedef (map (specifier_tree all) z)) c.deref-4.ensures.value)
    (ap (λ z. with_specifiers c.is_empty.result (map (specifier_tree all) z) st) (sym c.deref.ensures.value) ∙ c.in_ok-with_specifiers.ensures.comes)
    (c.in_ok-add_all.ensures.added ∙ ap (λ z. with_declared c.is_typedef.result c.specified_known-known.result c.in_ok-word.word mid (map (declared_tree all) z)) c.deref-5.ensures.value)

pub returns-clause-grows : goal.returns-clause-grows
returns-clause-grows c = grows_on c.with_specifiers.ensures.grows c.add_all.ensures.grows
