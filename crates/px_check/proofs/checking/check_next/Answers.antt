use Rattle.std.proofs.Common.{refl}
use Rattle.px_check.proofs.checking.check_next.Goals as goal

pub returns-in-Some-clause-answer : goal.returns-in-Some-clause-answer
returns-in-Some-clause-answer c = (refl, c.in-Some.ensures)
