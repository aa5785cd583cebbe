use Rattle.std.proofs.Common.{map}
use Rattle.px_core.specs.BodyTree.{body_tree}
use Rattle.px_syntax.specs.ProgramTree.{program_tree}
use Rattle.px_findings.proofs.LoweredLemmas.{AreSoFar}
use Rattle.px_findings.proofs.bodies.lower_all.Given as goal

abbrev pub invariant-loop-place : goal.invariant-loop-place
invariant-loop-place l = AreSoFar (program_tree l.program).procedures (map body_tree l.lowered.bodies.items) l.lowered.large.items l.place
