use Rattle.std.proofs.Common.{◌*◌}
use Rattle.px_book.specs.Flags.{NoneSet}
use Rattle.px_book.proofs.flags.Flags.least.Given as goal

abbrev pub invariant-loop-block : goal.invariant-loop-block
invariant-loop-block l = NoneSet l.self-inside.flags.items 0 (32 * l.block)
