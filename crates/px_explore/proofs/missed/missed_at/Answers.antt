use Rattle.std.proofs.Common.{refl, ap, sym, ◌∙◌}
use Rattle.px_entry.specs.Sorts.{is_made}
use Rattle.px_explore.specs.Missed.{cells_met}
use Rattle.px_explore.proofs.missed.missed_at.Goals as goal

pub returns-in-None : goal.returns-in-None
returns-in-None c = record {
  cells = c.in_ok-cells.cells;
  cells_are = ap (λ z. cells_met z c.args.block c.args.way) (sym c.as_slice.ensures) ∙ sym c.in_ok-cells.ensures;
  through = c.in_ok-place.ensures;
  found = sym (c.is_made.ensures ∙ ap (λ z. is_made z c.in_ok-place.place.0) c.as_slice-2.ensures) ∙ c.if-is_made.false;
  room = sym c.in-None.ensures.first;
  block_is = refl;
}
