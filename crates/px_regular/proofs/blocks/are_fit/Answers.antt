use Rattle.px_entry.specs.Contents.{fits_cell}
use Rattle.px_regular.proofs.LoopLemmas.{fit_ends}
use Rattle.px_regular.proofs.blocks.are_fit.Goals as goal

pub returns : goal.returns
returns c = fit_ends (fits_cell c.args.vars.now) c.args.wanted.now c.args.cells.now c.loop-content.place c.loop-content.content-index c.loop-content-test.false c.loop-content.invariant
