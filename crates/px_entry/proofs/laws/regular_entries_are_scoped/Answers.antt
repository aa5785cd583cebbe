use Rattle.px_entry.proofs.ScopeLemmas.{regular_scoped}
use Rattle.px_entry.proofs.laws.regular_entries_are_scoped.Goals as goal

pub returns : goal.returns
returns c = regular_scoped
