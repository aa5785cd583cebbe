use Rattle.std.proofs.Common.{◌∙◌, ap, subst}
use Rattle.std.proofs.lemmas.Result.{IfOk-weaker}
use Rattle.px_syntax.specs.ProgramTree.{program_tree}
use Rattle.px_report.specs.Json.{ReadsAs, report_object}
use Rattle.px_report.specs.Forms.{form}
use Rattle.px_report.proofs.forms.render.Goals as goal

pub returns-clause-form : goal.returns-clause-form
returns-clause-form c = IfOk-weaker c.render_report.result _ _ (λ v e. e ∙ ap (form c.args.json (program_tree c.args.program.now)) c.in_ok-report.ensures) c.render_report.ensures.form

pub returns-clause-reads_back : goal.returns-clause-reads_back
returns-clause-reads_back c json =
    IfOk-weaker c.render_report.result _ _ (λ v h. subst (λ r. ReadsAs v.items (report_object (program_tree c.args.program.now) r)) c.in_ok-report.ensures h) (c.render_report.ensures.reads_back json)
