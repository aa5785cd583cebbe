use Rattle.std.proofs.Common.{List, [], ◌∷◌, ap, ◌∙◌}
use Rattle.std.specs.Prelude.{flat_map}
use Rattle.std.proofs.lemmas.List.{take_all}
use Rattle.px_core.specs.CommandTree.{command_tree}
use Rattle.px_core.specs.Control.{Act}
use Rattle.px_callgraph.specs.declared.states.Alternative.{Alternative}
use Rattle.px_callgraph.specs.declared.states.Way.{Way}
use Rattle.px_callgraph.specs.JobTree.{job_tree}
use Rattle.px_callgraph.specs.Alternatives.{item_act}
use Rattle.px_symexec.specs.Ends.{ends}
use Rattle.px_symexec.proofs.calls.call_alternatives.Goals as goal

pub returns : goal.returns
returns c =
    let j = job_tree c.args.job.now in
    let k = command_tree c.args.command.now in
    let ends_by : Way → List Alternative = λ w. ends j (item_act j c.args.state.now (Act k ∷ []) w) in
    c.loop-way.invariant
    ∙ ap (flat_map ends_by) (take_all c.loop-way.way-index c.deref-way-items.result.now c.loop-way-test.false ∙ c.deref-way-items.ensures.value ∙ c.in_ok-listed.ensures)
