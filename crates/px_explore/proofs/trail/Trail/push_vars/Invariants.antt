use Rattle.std.proofs.Common.{List, []}
use Rattle.px_terms.specs.declared.variables.VarInfo.{VarInfo}
use Rattle.px_explore.specs.Trails.{Stacks}
use Rattle.px_explore.proofs.TrailLemmas.{IsDone}
use Rattle.px_explore.proofs.trail.Trail.push_vars.Given as goal

-- those up to this number were put on
abbrev pub invariant-loop-n : goal.invariant-loop-n
invariant-loop-n l = (done : List VarInfo) × Stacks l.fn.self l.self done [] × IsDone done l.from l.n l.vars
