use Rattle.px_keep.proofs.ItemLemmas.{one_reading}
use Rattle.px_keep.proofs.laws.one_reading.Goals as goal

pub returns : goal.returns
returns c = one_reading
