use Rattle.std.proofs.Common.{◌≡◌, drop}
use Rattle.px_callgraph.specs.JobTree.{job_tree}
use Rattle.px_callgraph.specs.Derivations.{take_choices}
use Rattle.px_walks.specs.Walks.{walk_of}
use Rattle.px_check.specs.Leading.{lead_at}
use Rattle.px_check.proofs.taken.take_choices.Given as goal

-- the choices that are left lead from here where all lead from the start of the call
abbrev pub invariant-loop-i : goal.invariant-loop-i
invariant-loop-i l = take_choices (job_tree l.job) (drop l.i l.choices) (lead_at (walk_of l.walk) l.led) ≡ take_choices (job_tree l.job) l.choices (lead_at (walk_of l.fn.walk) l.fn.led)
