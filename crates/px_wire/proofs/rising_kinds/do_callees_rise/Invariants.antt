use Rattle.std.proofs.Common.{◌≡◌, drop}
use Rattle.px_wire.specs.JobRanges.{rises, rises_from, numbers_of}
use Rattle.px_wire.proofs.rising_kinds.do_callees_rise.Given as goal

-- what is left rises where all do
abbrev pub invariant-loop-callee : goal.invariant-loop-callee
invariant-loop-callee l = rises_from l.before (numbers_of (drop l.callee-index l.callees)) ≡ rises (numbers_of l.callees)
