use Rattle.std.proofs.Common.{◌≡◌, ◌∙◌, ◌++◌, [], ap, length}
use Rattle.px_syntax.specs.ProgramTree.{program_tree}
use Rattle.px_text_report.specs.BugTexts.{bug_texts}
use Rattle.px_text_report.specs.LeftOut.{left_lines}
use Rattle.px_text_report.specs.Reports.{dropped_lines, last_line}
use Rattle.px_text_report.proofs.ListLemmas.{four}
use Rattle.px_text_report.proofs.writing.report_text.Goals as goal

pub returns : goal.returns
returns c =
    let P = program_tree c.args.program.now in
    let r = c.args.report.now in
    let o1 = c.put_bugs.new.out.items in
    let o2 = c.put_left.new.out.items in
    let o3 = c.put_dropped.new.out.items in
    let e1 : o1 ≡ [] ++ bug_texts P r.bugs =
    c.in_ok-put_bugs.ensures ∙ ap (λ z. z ++ bug_texts P c.as_slice.result.now) c.new-out.ensures.items ∙ ap (bug_texts P) c.as_slice.ensures in
    let e2 : o2 ≡ o1 ++ left_lines P r.left_out = c.in_ok-put_left.ensures ∙ ap (λ z. o1 ++ left_lines P z) c.as_slice-2.ensures in
    let e3 : o3 ≡ o2 ++ dropped_lines P.names r.dropped =
    c.in_ok-put_dropped.ensures ∙ ap (λ z. o2 ++ dropped_lines z c.as_slice-4.result.now) c.as_slice-3.ensures ∙ ap (λ z. o2 ++ dropped_lines P.names z) c.as_slice-4.ensures in
    let e4 : c.put_last_line.new.out.items ≡ o3 ++ last_line r.procedures (length r.left_out) (length r.bugs) =
    c.in_ok-put_last_line.ensures ∙ ap (λ z. o3 ++ last_line r.procedures z c.len-bugs.result) c.len-left.ensures
    ∙ ap (λ z. o3 ++ last_line r.procedures (length r.left_out) z) c.len-bugs.ensures in
    four [] o1 o2 o3 c.put_last_line.new.out.items _ _ _ _ e1 e2 e3 e4
