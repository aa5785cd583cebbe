use Rattle.std.proofs.Common.{slice_index_or, refl, ap}
use Rattle.px_parts.specs.declared.form.Form.TheVariants as at
use Rattle.px_parts.specs.Forms.{follow_by}
use Rattle.px_parts.proofs.Passing.{passes_lone_byte, passes_byte_and_one, only_at_another}
use Rattle.px_parts.proofs.skim.behind_maybe_word.Goals as goal

pub returns-then-tag-eq1-clause-passes : goal.returns-then-tag-eq1-clause-passes
returns-then-tag-eq1-clause-passes c =
    passes_byte_and_one at.MaybeWord at.Word c.args.bytes.now c.behind_word.result c.in-len1-up.len_at_least refl (ap (follow_by at.MaybeWord) c.if-tag-eq1.true) c.behind_word.ensures.passes

pub returns-else-tag-eq1-clause-passes : goal.returns-else-tag-eq1-clause-passes
returns-else-tag-eq1-clause-passes c =
    passes_lone_byte at.MaybeWord c.args.bytes.now c.in-len1-up.len_at_least refl (only_at_another (slice_index_or c.args.bytes.now 0 0) 1 at.Word c.if-tag-eq1.false)
