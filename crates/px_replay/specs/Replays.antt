-- What a replay answers.
use Rattle.std.specs.Prelude.{◌≡◌, ℕ, ℤ, List, [], ◌∷◌, Option, Some, None, Result, Ok, Err, ⊤}
use Rattle.px_base.specs.declared.trace.Mark.{Mark}
use Rattle.px_entry.specs.declared.entries.Exit.{Exit}
use Rattle.px_entry.specs.declared.entries.Exit.TheVariants as exit
use Rattle.px_meaning.specs.Values.{Value, Unwritten}
use Rattle.px_meaning.specs.Heaps.{HeapMap, HeapBlock, HeapBlockState, with_block, no_blocks}
use Rattle.px_meaning.specs.Heaps as heap
use Rattle.px_meaning.specs.Calls.{error, outside, Ending, Returned, Failed}
use Rattle.px_meaning.specs.TypedProgram.{TypedProgram}
use Rattle.px_replay.specs.declared.heap.BlockState.{BlockState}
use Rattle.px_replay.specs.declared.heap.BlockState.TheVariants as state
use Rattle.px_replay.specs.declared.heap.Block.{Block}
use Rattle.px_replay.specs.declared.heap.Heap.{Heap}
use Rattle.px_replay.specs.declared.replayed.Replayed.{Replayed}
use Rattle.px_replay.specs.declared.replayed.ReplayFault.{ReplayFault}
use Rattle.px_replay.specs.declared.replayed.ReplayFault.TheVariants as fault
use Rattle.px_replay.specs.Following.{IsFollowed, DepartsAt}

abbrev pub state_of : BlockState → HeapBlockState
state_of (state.Live cells) = heap.Live cells
state_of state.Freed = heap.Freed

-- a block without its number
abbrev pub heap_block : Block → HeapBlock
heap_block b = record { block_type = b.block.0; state = state_of b.state }

-- what is written later holds
abbrev pub blocks_over : HeapMap → List Block → HeapMap
blocks_over heap [] = heap
blocks_over heap (b ∷ blocks) = blocks_over (with_block heap b.number (heap_block b)) blocks

abbrev pub heap_map : Heap → HeapMap
heap_map h = blocks_over no_blocks h.blocks

-- none where the call comes to what isn't understood
abbrev pub exit_of : Ending → Option Exit
exit_of (Returned v) = Some exit.Ok
exit_of (Failed (error kind) site) = Some (exit.Error kind site)
exit_of (Failed (outside word) site) = None

abbrev pub value_of : Ending → Value
value_of (Returned v) = v
value_of (Failed halt site) = Unwritten

-- the answer is the ending of an execution that follows the trace, or the mark at which the trace departs
abbrev pub IsReplay : TypedProgram → ℕ → List Value → HeapMap → List ℤ → List Mark → Result Replayed ReplayFault → Type 0
IsReplay P f arguments heap inputs trace (Ok r) =
    (ending : Ending) × IsFollowed P f arguments heap inputs trace ending (heap_map r.heap) × (Some r.exit ≡ exit_of ending) × (r.result ≡ value_of ending)
IsReplay P f arguments heap inputs trace (Err (fault.Departs at)) = DepartsAt P f arguments heap inputs trace at
IsReplay P f arguments heap inputs trace (Err fault.NoMemory) = ⊤
