use Rattle.std.proofs.Common.{ℕ, ◌-◌, ◌≤◌, List, ◌++◌, length}
use Rattle.px_callgraph.specs.JobTree.{job_tree}
use Rattle.px_parts.specs.declared.part.Part.{Part}
use Rattle.px_parts.specs.Following.{HasGiven, to_give}
use Rattle.px_pool.specs.Gathering.{IsStanding}
use Rattle.px_pool.proofs.FeedingLemmas.{IsFeeding}
use Rattle.px_pool.proofs.feeding.feed.Given as goal

-- the parts that were given so far are known
abbrev pub invariant-loop-answer : goal.invariant-loop-answer
invariant-loop-answer l =
    (bytes : List ℕ) (left : ℕ) (parts : List Part) → HasGiven bytes left parts l.fn.reader → IsStanding l.fn.version (job_tree l.fn.job) parts l.fn.standing → length l.fn.piece ≤ left →
    IsFeeding l.fn.version (job_tree l.fn.job) (bytes ++ l.fn.piece) (left - length l.fn.piece) l.rest l.reader l.standing

abbrev pub decreases-loop-answer : goal.decreases-loop-answer
decreases-loop-answer l = to_give l.reader
