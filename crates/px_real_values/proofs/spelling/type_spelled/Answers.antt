use Rattle.px_real_values.specs.Spelled.{spells}
use Rattle.px_real_values.proofs.spelling.type_spelled.Goals as goal

pub returns-in-Ok : goal.returns-in-Ok
returns-in-Ok g c = spells c.in-Ok.ensures c.spelled_in.ensures
