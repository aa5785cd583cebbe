use Rattle.px_meaning.proofs.WorkedOnList.{list_fails}
use Rattle.px_meaning.proofs.laws.worked_list_execution.Goals as goal

pub returns : goal.returns
returns c = list_fails
