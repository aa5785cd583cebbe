use Rattle.std.proofs.Common.{◌≡◌, map, drop}
use Rattle.px_real_scopes.specs.Lookups.{first_said, says_member}
use Rattle.px_real_scopes.specs.Views.{member_view}
use Rattle.px_real_scopes.proofs.definitions.member_named.Given as goal

-- what is left says it
abbrev pub invariant-loop-each : goal.invariant-loop-each
invariant-loop-each l = first_said (says_member l.name) (map member_view (drop l.each-index l.members)) ≡ first_said (says_member l.name) (map member_view l.members)
