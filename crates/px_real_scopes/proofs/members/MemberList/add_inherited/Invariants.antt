use Rattle.std.proofs.Common.{◌≡◌, map, drop}
use Rattle.px_real_scopes.specs.Views.{member_view}
use Rattle.px_real_scopes.proofs.MemberLemmas.{Inherits}
use Rattle.px_real_scopes.proofs.members.MemberList.add_inherited.Given as goal

-- with what is left these are all
abbrev pub invariant-loop-each : goal.invariant-loop-each
invariant-loop-each l = Inherits l.self (map member_view (drop l.each-index l.members)) ≡ Inherits l.initial.self (map member_view l.members)
