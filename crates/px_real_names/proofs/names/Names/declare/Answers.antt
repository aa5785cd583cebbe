use Rattle.std.proofs.Common.{map, ap, sym, ◌∙◌}
use Rattle.std.proofs.lemmas.Result.{err_from_is_err_and}
use Rattle.px_real_declarations.specs.DeclarationTree.{declaration}
use Rattle.px_real_declarations.specs.Names as Scopes
use Rattle.px_real_types.specs.Scopes.{texts}
use Rattle.px_real_names.specs.Enumerated.{enumerated}
use Rattle.px_real_declaring.specs.Trees.{specifier_tree, declared_tree, declaration_tree}
use Rattle.px_real_names.proofs.NameLemmas.{brings, asserted, fails_behind}
use Rattle.px_real_names.proofs.names.Names.declare.Goals as goal

pub returns-in_default : goal.returns-in_default
returns-in_default c = asserted (texts c.args.on) c.args.self.now c.args.declaration.now c.in_default.field-0 c.in_default.is

pub returns-in_err-words : goal.returns-in_err-words
returns-in_err-words c =
    let p = err_from_is_err_and c.from_residual.result c.from_residual.ensures.1 in
    rw (p.1, p.2)
    (fails_behind c.args.self.now (declaration_tree (texts c.args.on) c.args.declaration.now) (map (specifier_tree (texts c.args.on)) c.deref.result.now) (map (declared_tree (texts c.args.on)) c.in-Declaration.declared.items) _
    (ap (declaration_tree (texts c.args.on)) c.in-Declaration.is
    ∙ ap (λ z. declaration (map (specifier_tree (texts c.args.on)) z) (map (declared_tree (texts c.args.on)) c.in-Declaration.declared.items)) (sym c.deref.ensures.value))
    c.in_err-words.ensures)

pub returns : goal.returns
returns c =
    brings c.args.self.now (declaration_tree (texts c.args.on) c.args.declaration.now) (map (specifier_tree (texts c.args.on)) c.in-Declaration.specifiers.items) (map (declared_tree (texts c.args.on)) c.in-Declaration.declared.items)
    c.in_ok-words.words.items c.is_typedef.result c.add_enumerators.new.self c.add_all.new.self (ap (declaration_tree (texts c.args.on)) c.in-Declaration.is)
    (ap (λ z. enumerated (Scopes.is_type c.args.self.now) (map (specifier_tree (texts c.args.on)) z)) (sym c.deref.ensures.value) ∙ c.in_ok-words.ensures)
    (c.is_typedef.ensures (texts c.args.on) ∙ ap (λ z. Scopes.is_typedef (map (specifier_tree (texts c.args.on)) z)) c.deref-3.ensures.value)
    (c.in_ok-add_enumerators.ensures ∙ ap (λ z. Scopes.with_enumerators z c.args.self.now) c.deref-2.ensures.value)
    (c.in_ok-add_all.ensures (texts c.args.on) ∙ ap (λ z. Scopes.with_declared c.is_typedef.result (map (declared_tree (texts c.args.on)) z) c.add_enumerators.new.self) c.deref-4.ensures.value)
