use Rattle.std.proofs.Common.{map, ap, sym, ◌∙◌}
use Rattle.std.specs.Prelude.{replicate}
use Rattle.std.proofs.lemmas.Result.{IfOk-weaker}
use Rattle.px_terms.specs.Types.{cell_types}
use Rattle.px_terms.specs.declared.types.BlockType.{BlockType}
use Rattle.px_terms.specs.declared.types.ValueType.{ValueType}
use Rattle.px_terms.specs.declared.conjuncts.Content.{Content}
use Rattle.px_terms.specs.declared.conjuncts.Content.TheVariants.{Unwritten}
use Rattle.px_ways.proofs.BlockLemmas.{all_same}
use Rattle.px_ways.proofs.atoms.unwritten_cells.Goals as goal

pub returns-in-Fields : goal.returns-in-Fields
returns-in-Fields c =
    IfOk-weaker c.unwritten-in-Fields.result _ _ (λ x e.
    e ∙ ap (λ n. replicate n Unwritten) c.len.ensures ∙ all_same c.in-Fields.values Unwritten
    ∙ ap (λ (b : BlockType). map {A = ValueType} {B = Content} (λ _. Unwritten) (cell_types b)) (sym c.in-Fields.is)) c.unwritten-in-Fields.ensures
