use Rattle.std.proofs.Common.{slice_index_or, refl, ap, arith}
use Rattle.px_parts.specs.declared.form.Form.TheVariants as at
use Rattle.px_parts.specs.Forms.{polynomial_in, follow_by}
use Rattle.px_parts.proofs.Passing.{passes_lone_byte, passes_byte_and_one, content_alone}
use Rattle.px_parts.proofs.skim.behind_content.Goals as goal

pub returns-in-1-clause-passes : goal.returns-in-1-clause-passes
returns-in-1-clause-passes c =
    let s = c.args.spelled in
    passes_byte_and_one (at.Content s) (polynomial_in s) c.args.bytes.now c.behind_polynomial.result c.in-len1-up.len_at_least refl (ap (follow_by (at.Content s)) c.in-1.is) c.behind_polynomial.ensures.passes

pub returns-in-2-clause-passes : goal.returns-in-2-clause-passes
returns-in-2-clause-passes c =
    passes_byte_and_one (at.Content c.args.spelled) at.MaybeWord c.args.bytes.now c.behind_maybe_word.result c.in-len1-up.len_at_least refl (ap (follow_by (at.Content c.args.spelled)) c.in-2.is) c.behind_maybe_word.ensures.passes

pub returns-in-3-clause-passes : goal.returns-in-3-clause-passes
returns-in-3-clause-passes c =
    passes_byte_and_one (at.Content c.args.spelled) at.Word c.args.bytes.now c.behind_word.result c.in-len1-up.len_at_least refl (ap (follow_by (at.Content c.args.spelled)) c.in-3.is) c.behind_word.ensures.passes

pub returns-in_default-clause-passes : goal.returns-in_default-clause-passes
returns-in_default-clause-passes c =
    let tag = slice_index_or c.args.bytes.now 0 0 in
    passes_lone_byte (at.Content c.args.spelled) c.args.bytes.now c.in-len1-up.len_at_least refl (content_alone c.args.spelled tag (λ is. omega (arith, is, c.in_default)) (λ is. omega (arith, is, c.in_default)) (λ is. omega (arith, is, c.in_default)))
