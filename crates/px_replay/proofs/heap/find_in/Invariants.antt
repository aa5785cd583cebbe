use Rattle.std.proofs.Common.{◌≡◌, drop, option_map}
use Rattle.std.specs.Option.{option_copied}
use Rattle.px_meaning.specs.Heaps.{no_blocks}
use Rattle.px_replay.specs.Replays.{heap_block, blocks_over}
use Rattle.px_replay.proofs.LaterWrites.{block_over}
use Rattle.px_replay.proofs.heap.find_in.Given as goal

abbrev pub invariant-loop-block : goal.invariant-loop-block
invariant-loop-block l = block_over l.number (option_map heap_block (option_copied l.found)) (drop l.block-index l.blocks) ≡ blocks_over no_blocks l.blocks l.number
