use Rattle.px_keep.proofs.ItemLemmas.{kept_is_read}
use Rattle.px_keep.proofs.laws.kept_is_read.Goals as goal

pub returns : goal.returns
returns c = kept_is_read
