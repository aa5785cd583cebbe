use Rattle.std.proofs.Common.{rules}
use Rattle.serde_json.proofs.OnLiterals.{serde_json_on_literals}
use Rattle.serde_json.specs.declared.value.Value.{the_lemmas}
use Rattle.px_report.proofs.json.dropped_value.Goals as goal

pub returns : goal.returns
unfolding serde_json_on_literals
returns c = search (rules, the_lemmas)
