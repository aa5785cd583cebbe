use Rattle.std.proofs.Common.{◌||◌, ◌&&◌, is_some, sym, ap, ap₂, ◌∙◌}
use Rattle.px_real_declaring.specs.Trees.{declarator_tree}
use Rattle.px_real_declaring.proofs.DeclaratorEquations.{tree-Inner, tree-Pointer}
use Rattle.px_real_types.specs.Declarators.{bare_name}
use Rattle.px_real_types.proofs.SuffixedLemmas.{tree_is}
use Rattle.px_real_scopes.specs.Knowing.{is_array_of, begins_array}
use Rattle.px_real_scopes.proofs.DeclaratorLemmas.{array_behind}
use Rattle.px_real_scopes.proofs.known.+is_array_of.Goals as goal

pub returns-in-Inner : goal.returns-in-Inner
returns-in-Inner t c = λ all.
    c.is_array_of.ensures all ∙ ap (λ z. is_array_of (declarator_tree all z)) c.deref.ensures
    ∙ sym (ap is_array_of (ap (declarator_tree all) c.in-Inner.is ∙ tree-Inner all c.in-Inner.site c.in-Inner.attributes c.in-Inner.inner))

pub returns-in-Pointer : goal.returns-in-Pointer
returns-in-Pointer t c = λ all.
    c.is_array_of-in-Pointer.ensures all ∙ ap (λ z. is_array_of (declarator_tree all z)) c.deref-in-Pointer.ensures
    ∙ sym (ap is_array_of (ap (declarator_tree all) c.in-Pointer.is ∙ tree-Pointer all c.in-Pointer.site c.in-Pointer.qualifiers c.in-Pointer.target))

pub returns-in-Suffixed : goal.returns-in-Suffixed
returns-in-Suffixed t c = λ all.
    let d = declarator_tree all c.in-Suffixed.core.value in
    ap₂ (λ a b. a || b)
    (c.array_behind.ensures ∙ ap₂ (λ ss b. begins_array ss && b) c.deref-in-Suffixed-2.ensures.value (c.is_bare.ensures all ∙ ap (λ z. is_some (bare_name (declarator_tree all z))) c.deref-in-Suffixed.ensures))
    (c.is_array_of-in-Suffixed.ensures all ∙ ap (λ z. is_array_of (declarator_tree all z)) c.deref-in-Suffixed-3.ensures)
    ∙ sym (ap is_array_of (tree_is all c.args.declarator.now c.in-Suffixed.core c.in-Suffixed.suffixes c.in-Suffixed.is) ∙ array_behind all d c.in-Suffixed.suffixes.items)
