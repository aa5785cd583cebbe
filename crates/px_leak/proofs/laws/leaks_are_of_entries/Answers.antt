use Rattle.px_leak.proofs.ToldLeaks.{leaks_of_entries}
use Rattle.px_leak.proofs.laws.leaks_are_of_entries.Goals as goal

pub returns : goal.returns
returns c = leaks_of_entries
