use Rattle.std.proofs.Common.{◌≡◌, ◌++◌, map, drop, slice_get}
use Rattle.px_meaning.specs.Values.{Unwritten}
use Rattle.px_terms.specs.Types.{types_of}
use Rattle.px_replay.proofs.script.new_cells.Given as goal

abbrev pub invariant-loop : goal.invariant-loop
invariant-loop l =
    l.cells ++ map (λ _. Unwritten) (drop l.counter (types_of (slice_get l.fn.types l.fn.block.0))) ≡ map (λ _. Unwritten) (types_of (slice_get l.fn.types l.fn.block.0))
