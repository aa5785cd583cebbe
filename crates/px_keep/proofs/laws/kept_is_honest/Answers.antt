use Rattle.px_keep.proofs.HonestLemmas.{kept_is_honest}
use Rattle.px_keep.proofs.laws.kept_is_honest.Goals as goal

pub returns : goal.returns
returns c = kept_is_honest
