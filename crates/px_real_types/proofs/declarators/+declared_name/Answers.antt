use Rattle.std.proofs.Common.{sym, ap, ◌∙◌}
use Rattle.px_real_declarations.specs.Names as Names
use Rattle.px_real_declaring.specs.Trees.{declarator_tree}
use Rattle.px_real_declaring.proofs.DeclaratorEquations.{tree-Inner, tree-Pointer}
use Rattle.px_real_types.proofs.DeclaratorLemmas.{name_behind}
use Rattle.px_real_types.proofs.SuffixedLemmas.{tree_is}
use Rattle.px_real_types.proofs.declarators.+declared_name.Goals as goal

pub returns-in-Inner : goal.returns-in-Inner
returns-in-Inner t c = λ all.
    c.declared_name.ensures all ∙ ap (λ z. Names.declared_name (declarator_tree all z)) c.deref.ensures
    ∙ sym (ap Names.declared_name (ap (declarator_tree all) c.in-Inner.is ∙ tree-Inner all c.in-Inner.site c.in-Inner.attributes c.in-Inner.inner))

pub returns-in-Pointer : goal.returns-in-Pointer
returns-in-Pointer t c = λ all.
    c.declared_name-in-Pointer.ensures all ∙ ap (λ z. Names.declared_name (declarator_tree all z)) c.deref-in-Pointer.ensures
    ∙ sym (ap Names.declared_name (ap (declarator_tree all) c.in-Pointer.is ∙ tree-Pointer all c.in-Pointer.site c.in-Pointer.qualifiers c.in-Pointer.target))

pub returns-in-Suffixed : goal.returns-in-Suffixed
returns-in-Suffixed t c = λ all.
    c.declared_name-in-Suffixed.ensures all ∙ ap (λ z. Names.declared_name (declarator_tree all z)) c.deref-in-Suffixed.ensures
    ∙ sym (ap Names.declared_name (tree_is all c.args.declarator.now c.in-Suffixed.core c.in-Suffixed.suffixes c.in-Suffixed.is) ∙ name_behind all (declarator_tree all c.in-Suffixed.core.value) c.in-Suffixed.suffixes.items)
