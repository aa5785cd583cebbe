use Rattle.std.proofs.Common.{◌∷◌, sym, refl, ap}
use Rattle.px_real_cutting.specs.Items.{item, old_style, by_itself}
use Rattle.px_real_cutting.proofs.cutting.first_item.Goals as goal

pub returns-in-Some-clause-first : goal.returns-in-Some-clause-first
returns-in-Some-clause-first c = λ is m. old_style (sym c.in-Some.ensures.exact) m refl refl

pub returns-in-None-clause-first : goal.returns-in-None-clause-first
returns-in-None-clause-first c = λ is m. by_itself (sym c.in-None.ensures.exact) m refl (ap (λ z. item c.args.piece.first c.args.piece.after z ∷ is) c.is_definition.ensures)
