use Rattle.std.proofs.Common.{◌≤◌, ◌∙◌, ◌++◌, Some, ap, sym, subst}
use Rattle.serde_json.specs.Data.{depth}
use Rattle.serde_json.specs.Read.{max_depth}
use Rattle.serde_json.specs.Written.{compact_text, has_float}
use Rattle.px_syntax.specs.ProgramTree.{program_tree}
use Rattle.px_text_report.specs.Places.{line_feed}
use Rattle.px_report.proofs.NoFloats.{report_has_none, report_depth}
use Rattle.px_report.proofs.json.report_json.Goals as goal

pub returns-clause-text : goal.returns-clause-text
returns-clause-text c =
    let P = program_tree c.args.program.now in
    let e = c.in_ok-whole.ensures in
    c.in_ok-push.ensures.items ∙ ap (λ z. z ++ line_feed) (c.in_ok-out.ensures.text (ap has_float e ∙ report_has_none P c.args.report.now) ∙ ap compact_text e)

pub returns-clause-reads_back : goal.returns-clause-reads_back
returns-clause-reads_back c =
    let P = program_tree c.args.program.now in
    let e = c.in_ok-whole.ensures in
    let deep = subst (λ d. depth d ≤ max_depth) (sym e) (report_depth P c.args.report.now) in
    (_, c.in_ok-push.ensures.items, c.in_ok-out.ensures.reads_back deep ∙ ap Some e)
