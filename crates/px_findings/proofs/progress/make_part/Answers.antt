use Rattle.std.proofs.Common.{List, get_or, Some, ◌≡◌, subst}
use Rattle.px_core.specs.BodyTree.{body_tree}
use Rattle.px_pieces.specs.declared.findings.Part.{Part}
use Rattle.px_findings.specs.declared.order.Turn.{Turn}
use Rattle.px_jobs.specs.Plans.{IsPlan, IsReady, tables_at}
use Rattle.px_findings.specs.Jobs.{IsShared, IsAnalysedOf}
use Rattle.px_findings.proofs.TurnLemmas.{few, next}
use Rattle.px_findings.proofs.progress.make_part.Goals as goal

abbrev first : Turn
first = record { number = 0; rank = 0 }

pub part_of-requires-clause-parameters : goal.part_of-requires-clause-parameters
part_of-requires-clause-parameters g c =
    let (w, u) = c.requires.under_way in
    few c.args.plan.now c.args.order.now c.args.progress.now c.args.place first c.requires.place w u c.take_body-body.result c.take_body-body.ensures.body

pub returns-clause-made : goal.returns-clause-made
returns-clause-made g c = λ w u.
    let n = (get_or c.args.order.now c.args.place first).number in
    next c.args.plan.now c.args.order.now c.args.progress.now c.args.place first c.requires.place w u
    (record { bodies = c.take_body-body.new.bodies; parts = c.put_part.new.parts; explorations = c.put_exploration.new.explorations; shared = c.part_of.new.shared }) c.take_body-body.result c.in_ok-part.field-0.part c.in_ok-part.field-0.exploration
    c.take_body-body.ensures.body c.in_ok-part.ensures.shared c.take_body-body.ensures.many c.take_body-body.ensures.others c.put_part.ensures c.put_exploration.ensures
    (subst (λ (ps : List Part). IsPlan w c.args.plan.now.graph c.args.plan.now.out.items → IsShared w c.args.progress.now.shared → IsReady w ps n → w.bodies n ≡ Some (body_tree c.take_body-body.result) → IsAnalysedOf w (tables_at ps) n c.in_ok-part.field-0.part c.in_ok-part.field-0.exploration)
    c.deref.ensures.value (c.in_ok-part.ensures.analysed w))
