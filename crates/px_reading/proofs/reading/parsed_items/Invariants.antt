use Rattle.std.proofs.Common.{map, take}
use Rattle.px_lexer.specs.Lent.{as_tokens}
use Rattle.px_syntax.specs.ParsedTree.{parsed_tree}
use Rattle.px_reading.specs.Sources.{AreParsed}
use Rattle.px_reading.proofs.reading.parsed_items.Given as goal

abbrev pub invariant-loop-i : goal.invariant-loop-i
invariant-loop-i l = AreParsed l.source (as_tokens l.tokens) (take l.i l.spans) (map parsed_tree l.parsed.items)
