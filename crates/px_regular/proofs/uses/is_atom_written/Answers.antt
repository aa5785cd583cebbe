use Rattle.std.proofs.Common.{◌∙◌, ap}
use Rattle.std.specs.List.{list_all}
use Rattle.px_entry.specs.Contents.{content_variables}
use Rattle.px_entry.specs.Regular.{is_used_written, state_cells}
use Rattle.px_regular.proofs.UseLemmas.{of_atom}
use Rattle.px_regular.proofs.uses.is_atom_written.Goals as goal

pub returns-then-is_used_written : goal.returns-then-is_used_written
returns-then-is_used_written c =
    let test = is_used_written c.args.entry.now in
    of_atom test c.args.atom.now.place.0 (state_cells c.args.atom.now.state) c.is_used_written.result c.are_contents_written.result c.if-is_used_written.true c.is_used_written.ensures
    (c.are_contents_written.ensures ∙ ap (list_all (λ t. list_all test (content_variables t))) c.state_cells.ensures)
