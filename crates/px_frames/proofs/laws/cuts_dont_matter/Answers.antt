use Rattle.std.proofs.Common.{[], inl, arith}
use Rattle.px_frames.specs.Feeding.{holds}
use Rattle.px_frames.proofs.CutLemmas.{feeds_meet, one_cutting}
use Rattle.px_frames.proofs.laws.cuts_dont_matter.Goals as goal

-- src/laws.rt:4:1
pub returns : goal.returns
returns c = (λ pieces messages left fed. feeds_meet (holds []) pieces messages left (inl (omega arith)) fed, one_cutting)
