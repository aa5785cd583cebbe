use Rattle.px_real_values.proofs.SpelledLemmas.{types_spelled}
use Rattle.px_real_values.proofs.laws.types_are_spelled.Goals as goal

pub returns : goal.returns
returns c = types_spelled
