use Rattle.std.proofs.Common.{◌≡◌, drop}
use Rattle.px_wire.specs.JobRanges.{rises, rises_from}
use Rattle.px_wire.proofs.rising_kinds.do_kinds_rise.Given as goal

-- what is left rises where all do
abbrev pub invariant-loop-kind : goal.invariant-loop-kind
invariant-loop-kind l = rises_from l.before (drop l.kind-index l.kinds) ≡ rises l.kinds
