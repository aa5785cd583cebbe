use Rattle.std.proofs.Common.{◌≡◌, map, take}
use Rattle.px_core.specs.BodyTree.{body_tree}
use Rattle.px_jobs.proofs.same.same_bodies.Given as goal

abbrev pub invariant-loop-place : goal.invariant-loop-place
invariant-loop-place l = map body_tree (take l.place l.left) ≡ map body_tree (take l.place l.right)
