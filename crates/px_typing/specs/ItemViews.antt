-- What the code keeps of items, as plain data.
use Rattle.std.specs.Prelude.{ℕ, List, option_map}
use Rattle.std.specs.Borrow.{Bor}
use Rattle.px_syntax.specs.declared.program.ParsedItem.{ParsedItem}
use Rattle.px_syntax.specs.ParsedTree.{ParsedTree, parsed_tree}
use Rattle.px_typing.specs.declared.marked.MarkedItem.{MarkedItem}
use Rattle.px_typing.specs.declared.marked.JudgedItem.{JudgedItem}
use Rattle.px_typing.specs.Keeping.{Marked, Judged}

abbrev pub marked_of : MarkedItem → Marked
marked_of m = record { item = parsed_tree m.item.now; duplicate = m.duplicate }

abbrev pub judged_of : JudgedItem → Judged
judged_of j = record { item = parsed_tree j.item.now; word = option_map (λ w. w.now) j.word }
