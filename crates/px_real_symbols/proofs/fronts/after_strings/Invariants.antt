use Rattle.std.proofs.Common.{◌≡◌, drop}
use Rattle.px_real_expressions.specs.Reading.{after_strings}
use Rattle.px_real_symbols.specs.Symbols.{seen}
use Rattle.px_real_symbols.proofs.fronts.after_strings.Given as goal

abbrev pub invariant-loop-at : goal.invariant-loop-at
invariant-loop-at l = after_strings (drop l.at (seen l.on)) ≡ after_strings (drop l.start (seen l.on))
