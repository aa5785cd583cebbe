use Rattle.std.proofs.Common.{[], ◌∷◌, map, refl, ap, sym, ◌∙◌}
use Rattle.std.proofs.lemmas.Result.{err_from_is_err_and}
use Rattle.px_real_declarations.specs.DeclarationTree.{declaration}
use Rattle.px_real_declarations.specs.Names as Scopes
use Rattle.px_real_types.specs.Scopes.{texts}
use Rattle.px_real_names.specs.Enumerated.{enumerated}
use Rattle.px_real_declaring.specs.Trees.{specifier_tree, declarator_tree}
use Rattle.px_real_members.specs.Trees.{head_tree}
use Rattle.px_real_names.specs.Behind.{alone, of_head}
use Rattle.px_real_names.proofs.NameLemmas.{brings, fails_behind}
use Rattle.px_real_names.proofs.names.Names.declare_function.Goals as goal

pub returns-in_err-words : goal.returns-in_err-words
returns-in_err-words c =
    let p = err_from_is_err_and c.from_residual.result c.from_residual.ensures.1 in
    rw (p.1, p.2)
    (fails_behind c.args.self.now (of_head (head_tree (texts c.args.on) c.args.head.now)) (map (specifier_tree (texts c.args.on)) c.deref.result.now) (alone (declarator_tree (texts c.args.on) c.args.head.now.declarator) ∷ []) _
    (ap (λ z. declaration (map (specifier_tree (texts c.args.on)) z) (alone (declarator_tree (texts c.args.on) c.args.head.now.declarator) ∷ [])) (sym c.deref.ensures.value))
    c.in_err-words.ensures)

pub returns : goal.returns
returns c =
    brings c.args.self.now (of_head (head_tree (texts c.args.on) c.args.head.now)) (map (specifier_tree (texts c.args.on)) c.args.head.now.specifiers.items) (alone (declarator_tree (texts c.args.on) c.args.head.now.declarator) ∷ [])
    c.in_ok-words.words.items c.is_typedef.result c.add_enumerators.new.self c.add_declarator.new.self refl
    (ap (λ z. enumerated (Scopes.is_type c.args.self.now) (map (specifier_tree (texts c.args.on)) z)) (sym c.deref.ensures.value) ∙ c.in_ok-words.ensures)
    (c.is_typedef.ensures (texts c.args.on) ∙ ap (λ z. Scopes.is_typedef (map (specifier_tree (texts c.args.on)) z)) c.deref-3.ensures.value)
    (c.in_ok-add_enumerators.ensures ∙ ap (λ z. Scopes.with_enumerators z c.args.self.now) c.deref-2.ensures.value)
    (c.in_ok-add_declarator.ensures (texts c.args.on))
