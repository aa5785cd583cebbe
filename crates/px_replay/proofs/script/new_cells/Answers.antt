use Rattle.std.proofs.Common.{◌<◌, length, slice_get, arith}
use Rattle.px_terms.specs.Types.{types_of}
use Rattle.px_replay.proofs.NewCells.{cells_next}
use Rattle.px_replay.proofs.script.new_cells.Goals as goal

pub loop-preserved : goal.loop-preserved
loop-preserved c =
    let l : c.loop.counter < length (types_of (slice_get c.args.types.now c.args.block.0)) = grind arith in
    cells_next (types_of (slice_get c.args.types.now c.args.block.0)) c.loop.counter c.loop.cells c.push.new.self l c.in_ok-push.ensures.added c.loop.invariant
