use Rattle.std.proofs.Common.{slice_index_or, refl, sym, ap, ◌∙◌}
use Rattle.std.proofs.lemmas.Bool.{both_ways, eqb-true, eqb-false, eq-eqb}
use Rattle.px_parts.specs.declared.form.Form.TheVariants as at
use Rattle.px_parts.specs.Forms.{follow_by}
use Rattle.px_parts.proofs.Passing.{passes_lone_byte, passes_byte_and_one, value_alone}
use Rattle.px_parts.proofs.skim.behind_value.Goals.{then-tag-eq0, else-tag-eq0}
use Rattle.px_parts.proofs.skim.behind_value.Goals as goal

pub returns-then-tag-eq2-clause-passes : goal.returns-then-tag-eq2-clause-passes
returns-then-tag-eq2-clause-passes c =
    elim c.if-tag-eq0.branch [
      | then-tag-eq0 w ↦ passes_byte_and_one at.Value at.Word c.args.bytes.now c.behind_word.result c.in-len1-up.len_at_least refl (ap (follow_by at.Value) w.if-tag-eq0.true) c.behind_word.ensures.passes
      | else-tag-eq0 w ↦
          let two = eqb-true (slice_index_or c.args.bytes.now 0 0) 2 (sym w.value-is ∙ c.if-tag-eq2.true) in
          passes_byte_and_one at.Value at.Word c.args.bytes.now c.behind_word.result c.in-len1-up.len_at_least refl (ap (follow_by at.Value) two) c.behind_word.ensures.passes
    ]

pub returns-else-tag-eq2-clause-passes : goal.returns-else-tag-eq2-clause-passes
returns-else-tag-eq2-clause-passes c =
    let tag = slice_index_or c.args.bytes.now 0 0 in
    elim c.if-tag-eq0.branch [
      | then-tag-eq0 w ↦ absurd (both_ways c.if-tag-eq0.value c.if-tag-eq2.false (w.value-is ∙ eq-eqb tag 0 w.if-tag-eq0.true))
      | else-tag-eq0 w ↦ passes_lone_byte at.Value c.args.bytes.now c.in-len1-up.len_at_least refl (value_alone tag w.if-tag-eq0.false (eqb-false tag 2 (sym w.value-is ∙ c.if-tag-eq2.false)))
    ]
