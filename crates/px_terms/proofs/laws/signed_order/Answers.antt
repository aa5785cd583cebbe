use Rattle.px_terms.proofs.WordLaws.{signed_order}
use Rattle.px_terms.proofs.laws.signed_order.Goals as goal

pub returns : goal.returns
returns c = signed_order
