use Rattle.std.proofs.Common.{◌∙◌}
use Rattle.px_calls.proofs.KeyLemmas.{last_read}
use Rattle.px_calls.proofs.keys.word_key.Goals as goal

pub returns : goal.returns
returns c = c.last_variable.ensures ∙ last_read c.args.p.now c.monomials.result.now c.monomials.ensures.value
