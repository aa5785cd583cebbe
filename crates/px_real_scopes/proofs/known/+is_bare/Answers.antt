use Rattle.std.proofs.Common.{is_some, sym, ap, ◌∙◌}
use Rattle.std.proofs.lemmas.Bool.{eqb-true}
use Rattle.std.proofs.lemmas.List.{nil_from_length}
use Rattle.px_real_declaring.specs.Trees.{declarator_tree}
use Rattle.px_real_declaring.proofs.DeclaratorEquations.{tree-Inner}
use Rattle.px_real_types.specs.Declarators.{bare_name}
use Rattle.px_real_types.proofs.DeclaratorLemmas.{bare_alone, bare_never}
use Rattle.px_real_types.proofs.SuffixedLemmas.{tree_is}
use Rattle.px_real_scopes.proofs.known.+is_bare.Goals as goal

pub returns-in-Inner : goal.returns-in-Inner
returns-in-Inner t c = λ all.
    c.is_bare.ensures all ∙ ap (λ z. is_some (bare_name (declarator_tree all z))) c.deref.ensures
    ∙ sym (ap (λ z. is_some (bare_name z)) (ap (declarator_tree all) c.in-Inner.is ∙ tree-Inner all c.in-Inner.site c.in-Inner.attributes c.in-Inner.inner))

pub returns-then-is_empty : goal.returns-then-is_empty
returns-then-is_empty t c = λ all.
    c.is_bare-then-is_empty.ensures all ∙ ap (λ z. is_some (bare_name (declarator_tree all z))) c.deref-then-is_empty.ensures
    ∙ sym (ap (λ z. is_some (bare_name z)) (tree_is all c.args.declarator.now c.in-Suffixed.core c.in-Suffixed.suffixes c.in-Suffixed.is)
    ∙ ap is_some (bare_alone all (declarator_tree all c.in-Suffixed.core.value) c.in-Suffixed.suffixes.items (nil_from_length c.in-Suffixed.suffixes.items (sym c.in-Suffixed.suffixes.ok.0 ∙ eqb-true _ 0 (sym c.if-is_empty.ensures)))))

pub returns-else-is_empty : goal.returns-else-is_empty
returns-else-is_empty t c = λ all.
    c.if-is_empty.false ∙ sym (ap (λ z. is_some (bare_name z)) (tree_is all c.args.declarator.now c.in-Suffixed.core c.in-Suffixed.suffixes c.in-Suffixed.is)
    ∙ ap is_some (bare_never all (declarator_tree all c.in-Suffixed.core.value) c.in-Suffixed.suffixes.items _ c.in-Suffixed.suffixes.ok.0 c.if-is_empty.ensures))
