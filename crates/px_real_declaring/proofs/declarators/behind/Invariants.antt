use Rattle.std.proofs.Common.{◌≡◌, ◌-◌, length, drop}
use Rattle.px_real_symbols.specs.Symbols.{seen}
use Rattle.px_real_declarations.specs.Reading.{behind_at}
use Rattle.px_real_declaring.specs.Trees.{declarator_tree, all_suffixed}
use Rattle.px_real_declaring.proofs.declarators.behind.Given as goal

abbrev pub invariant-loop : goal.invariant-loop
invariant-loop l =
    behind_at (l.end - l.counter) (all_suffixed (seen l.on) (declarator_tree (seen l.on) l.core) l.suffixes.items) (drop l.at (seen l.on))
    ≡ behind_at (length (drop l.fn.start (seen l.on))) (declarator_tree (seen l.on) l.core) (drop l.fn.start (seen l.on))
