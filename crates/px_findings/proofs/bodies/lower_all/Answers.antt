use Rattle.std.proofs.Common.{map, arith}
use Rattle.std.proofs.lemmas.List.{length-map}
use Rattle.px_core.specs.BodyTree.{body_tree}
use Rattle.px_syntax.specs.ProgramTree.{program_tree, procedure_tree}
use Rattle.px_findings.proofs.LoweredLemmas.{lowered_more, all_lowered}
use Rattle.px_findings.proofs.bodies.lower_all.Goals as goal

pub loop-place-preserved : goal.loop-place-preserved
loop-place-preserved c =
    let ps = c.args.program.now.procedures in
    let l = c.loop-place-test.true in
    lowered_more (program_tree c.args.program.now).procedures (map body_tree c.loop-place.lowered.bodies.items) _ c.loop-place.lowered.large.items _ c.loop-place.place c.in_ok-body.body
    (omega (arith, length-map ps procedure_tree))
    c.in_ok-body.ensures c.in_ok-put_body.ensures.bodies c.in_ok-put_body.ensures.large c.loop-place.invariant

pub returns : goal.returns
returns c =
    let ps = c.args.program.now.procedures in
    let l = c.loop-place-test.false in
    all_lowered (program_tree c.args.program.now).procedures c.loop-place.lowered.bodies.items c.loop-place.lowered.large.items c.loop-place.place
    (omega (arith, length-map ps procedure_tree)) c.loop-place.invariant
