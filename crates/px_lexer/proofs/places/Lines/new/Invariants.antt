use Rattle.std.proofs.Common.{◌≡◌, ◌++◌, drop}
use Rattle.px_lexer.specs.Places.{line_starts}
use Rattle.px_lexer.proofs.places.Lines.new.Given as goal

abbrev pub invariant-loop-i : goal.invariant-loop-i
invariant-loop-i l = l.starts.items ++ line_starts l.i (drop l.i l.source) ≡ line_starts 0 l.source
