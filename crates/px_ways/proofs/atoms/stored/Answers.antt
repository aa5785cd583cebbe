use Rattle.std.proofs.Common.{◌∙◌, arith}
use Rattle.std.specs.List.{slice_set}
use Rattle.px_ways.proofs.AtomLemmas.{wrote_cells}
use Rattle.px_ways.proofs.atoms.stored.Goals as goal

pub returns : goal.returns
returns c = λ cells e.
    let v = c.into_vec-all.result in
    c.from_vec-2.ensures
    ∙ wrote_cells (λ x. slice_set x c.args.field.0 c.args.content) c.args.n v.items c.args.atoms c.index_mut.result.now c.put_cell.new.atom (omega (arith, c.len.ensures, v.ok.0)) c.index_mut.ensures.value
    c.put_cell.ensures c.into_vec-all.ensures cells e
