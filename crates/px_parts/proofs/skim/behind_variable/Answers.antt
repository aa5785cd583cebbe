use Rattle.std.proofs.Common.{refl}
use Rattle.px_parts.specs.declared.form.Form.TheVariants as at
use Rattle.px_parts.proofs.Passing.{passes_byte_and_one}
use Rattle.px_parts.proofs.skim.behind_variable.Goals as goal

pub returns-in-len1-up-clause-passes : goal.returns-in-len1-up-clause-passes
returns-in-len1-up-clause-passes c =
    passes_byte_and_one at.Variable at.MaybeWord c.args.bytes.now c.behind_maybe_word.result c.in-len1-up.len_at_least refl refl c.behind_maybe_word.ensures.passes
