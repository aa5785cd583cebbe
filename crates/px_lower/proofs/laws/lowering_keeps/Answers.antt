use Rattle.px_lower.proofs.Law.{keeps}
use Rattle.px_lower.proofs.laws.lowering_keeps.Goals as goal

pub returns : goal.returns
returns c = keeps
