use Rattle.std.proofs.Common.{◌≡◌, drop, ◌++◌}
use Rattle.px_replay.proofs.heap.Heap.copy.Given as goal

abbrev pub invariant-loop-block : goal.invariant-loop-block
invariant-loop-block l = l.blocks ++ drop l.block-index l.self.blocks ≡ l.self.blocks
