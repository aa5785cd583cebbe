use Rattle.std.proofs.Common.{◌≡◌, drop}
use Rattle.px_parser.specs.ItemReading.{all_named}
use Rattle.px_parser.proofs.item_parts.all_named.Given as goal

abbrev pub invariant-loop-i : goal.invariant-loop-i
invariant-loop-i l = all_named (drop l.i l.parameters) ≡ all_named l.parameters
