use Rattle.std.proofs.Common.{◌∙◌, ap, sym}
use Rattle.std.specs.List.{list_any}
use Rattle.px_entry.specs.declared.entries.Entry.{Entry}
use Rattle.px_check.specs.Answers.{entry_of}
use Rattle.px_text_report.specs.Calls.{open_call}
use Rattle.px_text_report.specs.Faults.{has_fault, is_bug_of}
use Rattle.px_text_report.proofs.FaultLemmas.{inner_not_added, there_not_added}
use Rattle.px_text_report.proofs.shown.put_bug.Goals as goal
use Rattle.px_text_report.proofs.shown.put_bug.Goals.{then-is_inner-via-then-is_inner, then-is_inner-via-else-is_inner+then-has_error}

pub returns-then-is_inner : goal.returns-then-is_inner
returns-then-is_inner c =
    let x = entry_of c.args.checked.now in
    let faults = c.args.faults.now in
    let bugs = c.args.bugs.now.items in
    let f = c.in-Some.fault in
    let trace = c.as_slice.ensures ∙ ap (λ (y : Entry). y.trace) c.entry-entry.ensures in
    elim c.then-is_inner.branch [
      | then-is_inner-via-then-is_inner w ↦
          inner_not_added faults x bugs f c.in-Some.ensures (ap (λ t. has_fault faults f (open_call t)) (sym trace) ∙ sym c.is_inner.ensures ∙ w.if-is_inner.true)
      | then-is_inner-via-else-is_inner+then-has_error w ↦
          there_not_added faults x bugs f c.in-Some.ensures (ap (list_any (is_bug_of f)) (sym w.deref.ensures.value) ∙ sym w.has_error.ensures ∙ w.if-has_error.true)
    ]
