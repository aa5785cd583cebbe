use Rattle.std.proofs.Common.{refl}
use Rattle.px_interval.proofs.Bounding.{none_ruled_out}
use Rattle.px_interval.proofs.interval.Interval.new.Goals as goal

pub returns : goal.returns
returns c = (refl, c.new.ensures, none_ruled_out)
