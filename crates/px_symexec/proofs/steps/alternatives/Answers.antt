use Rattle.std.proofs.Common.{◌≡◌, [], ◌∷◌, sym, ◌∙◌}
use Rattle.std.specs.Prelude.{flat_map}
use Rattle.std.proofs.lemmas.Result.{IfOk-weaker}
use Rattle.px_core.specs.CommandTree.{command_tree}
use Rattle.px_core.specs.Control.{Act}
use Rattle.px_callgraph.specs.JobTree.{job_tree}
use Rattle.px_callgraph.specs.Commands.{command_ways}
use Rattle.px_callgraph.specs.Alternatives.{item_act, alternatives}
use Rattle.px_symexec.specs.Ends.{ends}
use Rattle.px_symexec.proofs.EndLemmas.{of_calls}
use Rattle.px_symexec.proofs.steps.alternatives.Goals as goal

pub returns-then-is_call : goal.returns-then-is_call
returns-then-is_call c =
    let j = job_tree c.args.job.now in
    let s = c.args.state.now in
    let k = command_tree c.args.command.now in
    IfOk-weaker c.call_alternatives.result (λ r. r.items ≡ flat_map (λ w. ends j (item_act j s (Act k ∷ []) w)) (command_ways j s k)) (λ r. r.items ≡ alternatives j s k)
    (λ r e. e ∙ of_calls j s k (sym c.if-is_call.ensures)) c.call_alternatives.ensures
