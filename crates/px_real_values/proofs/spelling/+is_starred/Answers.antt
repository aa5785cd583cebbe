use Rattle.std.proofs.Common.{◌≡◌, sym, ap, ◌∙◌}
use Rattle.px_real_declaring.specs.Trees.{declarator_tree}
use Rattle.px_real_declaring.proofs.DeclaratorEquations.{tree-Inner, tree-Pointer}
use Rattle.px_real_types.proofs.SuffixedLemmas.{tree_is}
use Rattle.px_real_types.specs.Declarators.{is_nothing}
use Rattle.px_real_values.specs.Spelled.{is_starred}
use Rattle.px_real_values.proofs.StarLemmas.{starred_kept, first_true, first_false}
use Rattle.px_real_values.proofs.spelling.+is_starred.Goals as goal

pub returns-in-Inner : goal.returns-in-Inner
returns-in-Inner t c = λ all.
    c.is_starred.ensures all ∙ ap (λ z. is_starred (declarator_tree all z)) c.deref.ensures
    ∙ sym (ap is_starred (ap (declarator_tree all) c.in-Inner.is ∙ tree-Inner all c.in-Inner.site c.in-Inner.attributes c.in-Inner.inner))

pub returns-in-Suffixed : goal.returns-in-Suffixed
returns-in-Suffixed t c = λ all.
    c.is_starred-in-Suffixed.ensures all ∙ ap (λ z. is_starred (declarator_tree all z)) c.deref-in-Suffixed.ensures
    ∙ sym (ap is_starred (tree_is all c.args.declarator.now c.in-Suffixed.core c.in-Suffixed.suffixes c.in-Suffixed.is)
    ∙ starred_kept all (declarator_tree all c.in-Suffixed.core.value) c.in-Suffixed.suffixes.items)

pub returns-then-is_nothing : goal.returns-then-is_nothing
returns-then-is_nothing t c = λ all.
    let d = declarator_tree all c.in-Pointer.target.value in
    let here : c.is_nothing.result ≡ is_nothing d = c.is_nothing.ensures all ∙ ap (λ z. is_nothing (declarator_tree all z)) c.deref-in-Pointer.ensures in
    first_true c.is_nothing.result (is_nothing d) (is_starred d) c.if-is_nothing.true here
    ∙ sym (ap is_starred (ap (declarator_tree all) c.in-Pointer.is ∙ tree-Pointer all c.in-Pointer.site c.in-Pointer.qualifiers c.in-Pointer.target))

pub returns-else-is_nothing : goal.returns-else-is_nothing
returns-else-is_nothing t c = λ all.
    let d = declarator_tree all c.in-Pointer.target.value in
    let here : c.is_nothing.result ≡ is_nothing d = c.is_nothing.ensures all ∙ ap (λ z. is_nothing (declarator_tree all z)) c.deref-in-Pointer.ensures in
    c.is_starred-else-is_nothing.ensures all ∙ ap (λ z. is_starred (declarator_tree all z)) c.deref-else-is_nothing.ensures
    ∙ first_false c.is_nothing.result (is_nothing d) (is_starred d) c.if-is_nothing.false here
    ∙ sym (ap is_starred (ap (declarator_tree all) c.in-Pointer.is ∙ tree-Pointer all c.in-Pointer.site c.in-Pointer.qualifiers c.in-Pointer.target))
