use Rattle.std.proofs.Common.{◌∙◌}
use Rattle.std.proofs.lemmas.Bool.{ne_eqb}
use Rattle.px_match.proofs.Tests.{same_as_test}
use Rattle.px_calls.proofs.KeyLemmas.{other_key}
use Rattle.px_calls.proofs.keys.is_same.Goals as goal

pub returns-then-key-other_key : goal.returns-then-key-other_key
returns-then-key-other_key c = same_as_test c.equals.result c.args.c.now c.args.other.now c.equals.ensures

pub returns-else-key-other_key : goal.returns-else-key-other_key
returns-else-key-other_key c =
    ne_eqb c.args.key c.args.other_key c.if-key-other_key.false
    ∙ other_key c.args.c.now c.args.other.now c.args.key c.args.other_key c.requires.one c.requires.other c.if-key-other_key.false
