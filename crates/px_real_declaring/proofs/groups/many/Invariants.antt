use Rattle.std.proofs.Common.{◌≡◌, ◌-◌, map, length, drop}
use Rattle.px_real_symbols.specs.Symbols.{seen}
use Rattle.px_real_blocks.proofs.Loops.{after_all}
use Rattle.px_real_declarations.specs.declared.role.Role.TheVariants as R
use Rattle.px_real_declarations.specs.Roles.{same_role}
use Rattle.px_real_declarations.specs.Reading.{group_at, many_at}
use Rattle.px_real_declaring.specs.Trees.{group_tree}
use Rattle.px_real_declaring.proofs.groups.many.Given as goal

abbrev pub invariant-loop : goal.invariant-loop
invariant-loop l =
    after_all (map (group_tree (seen l.on)) l.all.items) (many_at (l.end - l.counter) (group_at (same_role R.Attribute)) (drop l.at (seen l.on)))
    ≡ many_at (length (drop l.fn.start (seen l.on))) (group_at (same_role R.Attribute)) (drop l.fn.start (seen l.on))
