use Rattle.px_core.specs.CommandTree.{command_tree}
use Rattle.px_callgraph.specs.JobTree.{job_tree}
use Rattle.px_callgraph.specs.Commands.{command_done}
use Rattle.px_walks.specs.Items.{items_of}
use Rattle.px_walks.specs.Walks.{call_in}
use Rattle.px_walks.proofs.LedFacts.{goes_on}
use Rattle.px_walks.proofs.FewLemmas.{few_command}
use Rattle.px_walks.proofs.walking.do_command.Goals as goal

pub returns-in_ok-led-clause-leads : goal.returns-in_ok-led-clause-leads
returns-in_ok-led-clause-leads c =
    let a = c.args in
    goes_on (job_tree a.job.now) a.state.now c.command_act_in.new.state (command_tree a.command.now) a.way (items_of a.control.now.items) (items_of c.go_after.new.control.items) _ (call_in c.in_ok-begun.begun)
    c.in_ok-led.led c.if-branch.true c.in_ok-go_after.ensures c.in_ok-begun.ensures c.in_ok-led.ensures

pub returns-in_ok-led-clause-few : goal.returns-in_ok-led-clause-few
returns-in_ok-led-clause-few c =
    let a = c.args in
    few_command a.state.now c.command_act_in.new.state (command_done (job_tree a.job.now) (command_tree a.command.now) a.way a.state.now) c.in_ok-led.led c.in_ok-led.ensures
