use Rattle.std.proofs.Common.{refl}
use Rattle.std.specs.Fmt.{digits}
use Rattle.px_gen.proofs.laws.worked_sample.Goals as goal

pub returns : goal.returns
unfolding digits
returns c = record { draws = refl; text = refl }
