use Rattle.std.proofs.Common.{◌≡◌, true, arith}
use Rattle.px_replay.specs.Replays.{heap_map}
use Rattle.px_replay.proofs.TakenNumbers.{taken_next}
use Rattle.px_replay.proofs.heap.Heap.least_free.Goals as goal

pub loop-number-preserved : goal.loop-number-preserved
loop-number-preserved c =
    let yes : c.has.result ≡ true = grind arith in
    taken_next (heap_map c.args.self.now) c.loop-number.number c.has.result c.has.ensures yes c.loop-number.invariant
