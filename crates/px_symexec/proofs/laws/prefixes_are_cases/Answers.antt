use Rattle.px_symexec.proofs.CaseLemmas.{prefixes_are_cases}
use Rattle.px_symexec.proofs.laws.prefixes_are_cases.Goals as goal

pub returns : goal.returns
returns c = prefixes_are_cases
