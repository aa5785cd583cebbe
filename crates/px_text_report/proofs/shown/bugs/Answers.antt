use Rattle.std.proofs.Common.{◌∙◌, ap, map}
use Rattle.std.proofs.lemmas.Result.{IfOk-weaker}
use Rattle.std.specs.Prelude.{flat_map}
use Rattle.px_text_report.specs.Known.{known_of}
use Rattle.px_text_report.specs.Bugs.{all_bugs}
use Rattle.px_text_report.specs.Faults.{outer_bugs_of}
use Rattle.px_text_report.proofs.FaultLemmas.{all_outer}
use Rattle.px_text_report.proofs.shown.bugs.Goals as goal

pub returns : goal.returns
returns c =
    let known = map known_of c.parts-parts.result.now in
    IfOk-weaker c.outer_bugs.result _ _
    (λ v e.
    e
    ∙ ap (λ z. flat_map (outer_bugs_of z) known) (c.deref.ensures.value ∙ c.in_ok-faults.ensures)
    ∙ all_outer known
    ∙ ap (λ z. all_bugs (map known_of z)) c.parts-parts.ensures)
    c.outer_bugs.ensures
