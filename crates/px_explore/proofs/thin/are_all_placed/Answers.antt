use Rattle.px_explore.proofs.WeighLemmas.{placed_as}
use Rattle.px_explore.proofs.thin.are_all_placed.Goals as goal

pub returns : goal.returns
returns c = λ yes.
    let s = c.args.state.now in
    placed_as c.as_slice.result.now s.vars c.as_slice-2.result.now s.atoms c.are_placed.result c.as_slice.ensures c.as_slice-2.ensures c.are_placed.ensures yes
