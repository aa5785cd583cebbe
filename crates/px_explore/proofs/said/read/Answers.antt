use Rattle.std.proofs.Common.{slice_get, ap, sym, ◌∙◌}
use Rattle.px_callgraph.specs.States.{content_at}
use Rattle.px_explore.proofs.SaidLemmas.{told_read}
use Rattle.px_explore.proofs.said.read.Goals as goal

pub returns : goal.returns
returns c =
    let x = c.in_ok-cell.cell in
    told_read c.args.state.now c.args.slot c.args.way x c.in_ok-_info._info c.told.result (sym (ap (λ z. content_at z c.args.slot) c.as_slice.ensures) ∙ c.in_ok-cell.ensures)
    (sym (ap (λ z. slice_get z x.0) c.as_slice-2.ensures) ∙ sym c.in_ok-_info.ensures) c.told.ensures
