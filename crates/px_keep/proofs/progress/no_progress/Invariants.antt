use Rattle.std.proofs.Common.{◌≡◌, replicate}
use Rattle.px_pieces.specs.declared.findings.Part.TheVariants.{LeftOut}
use Rattle.px_keep.proofs.progress.no_progress.Given as goal

abbrev pub invariant-loop-place : goal.invariant-loop-place
invariant-loop-place l = l.parts.items ≡ replicate l._place LeftOut
