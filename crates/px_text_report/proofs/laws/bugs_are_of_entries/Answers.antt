use Rattle.px_text_report.proofs.BugLemmas.{bugs_of_entries}
use Rattle.px_text_report.proofs.laws.bugs_are_of_entries.Goals as goal

pub returns : goal.returns
returns c = bugs_of_entries
