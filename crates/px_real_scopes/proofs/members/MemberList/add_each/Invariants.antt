use Rattle.std.proofs.Common.{◌≡◌, map, drop}
use Rattle.px_real_declaring.specs.Trees.{declared_tree}
use Rattle.px_real_types.specs.Scopes.{texts}
use Rattle.px_real_scopes.proofs.MemberLemmas.{WithEach}
use Rattle.px_real_scopes.proofs.members.MemberList.add_each.Given as goal

-- with what is left these are all
abbrev pub invariant-loop-each : goal.invariant-loop-each
invariant-loop-each l = WithEach l.known l.self (map (declared_tree (texts l.on)) (drop l.each-index l.declared)) ≡ WithEach l.known l.initial.self (map (declared_tree (texts l.on)) l.declared)
