use Rattle.std.proofs.Common.{sym, ap, ◌∙◌}
use Rattle.std.proofs.lemmas.Bool.{eqb-true}
use Rattle.std.proofs.lemmas.List.{nil_from_length}
use Rattle.px_real_declaring.specs.Trees.{declarator_tree}
use Rattle.px_real_types.proofs.SuffixedLemmas.{tree_is}
use Rattle.px_real_types.specs.Declarators.{is_nothing}
use Rattle.px_real_types.proofs.NothingLemmas.{nothing_alone, nothing_never}
use Rattle.px_real_types.proofs.declarators.+is_nothing.Goals as goal

pub returns-then-is_empty : goal.returns-then-is_empty
returns-then-is_empty t c = λ all.
    c.is_nothing.ensures all ∙ ap (λ z. is_nothing (declarator_tree all z)) c.deref.ensures
    ∙ sym (ap is_nothing (tree_is all c.args.declarator.now c.in-Suffixed.core c.in-Suffixed.suffixes c.in-Suffixed.is)
    ∙ nothing_alone all (declarator_tree all c.in-Suffixed.core.value) c.in-Suffixed.suffixes.items (nil_from_length c.in-Suffixed.suffixes.items (sym c.in-Suffixed.suffixes.ok.0 ∙ eqb-true _ 0 (sym c.if-is_empty.ensures))))

pub returns-else-is_empty : goal.returns-else-is_empty
returns-else-is_empty t c = λ all.
    c.if-is_empty.false ∙ sym (ap is_nothing (tree_is all c.args.declarator.now c.in-Suffixed.core c.in-Suffixed.suffixes c.in-Suffixed.is)
    ∙ nothing_never all (declarator_tree all c.in-Suffixed.core.value) c.in-Suffixed.suffixes.items _ c.in-Suffixed.suffixes.ok.0 c.if-is_empty.ensures)
