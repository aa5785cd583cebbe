use Rattle.std.proofs.Common.{◌≡◌, ◌∙◌, map}
use Rattle.std.proofs.lemmas.Result.{IfOk-weaker}
use Rattle.px_core.specs.CommandTree.{command_tree}
use Rattle.px_callgraph.specs.JobTree.{job_tree}
use Rattle.px_callgraph.specs.Commands.{command_done}
use Rattle.px_callgraph.specs.Alternatives.{alternative_of, command_alternatives}
use Rattle.px_steps.specs.Led.{led_of}
use Rattle.px_symexec.proofs.StepLemmas.{of_command}
use Rattle.px_symexec.proofs.steps.command_alternatives.Goals as goal

pub returns : goal.returns
returns c =
    let j = job_tree c.args.job.now in
    let s = c.args.state.now in
    let k = command_tree c.args.command.now in
    IfOk-weaker c.by_ways.result (λ r. r.items ≡ map (λ w. alternative_of (led_of s (command_done j k w s))) c.deref.result.now) (λ r. r.items ≡ command_alternatives j s k)
    (λ r e. e ∙ of_command j s k c.deref.result.now (c.deref.ensures.value ∙ c.in_ok-ways.ensures)) c.by_ways.ensures
