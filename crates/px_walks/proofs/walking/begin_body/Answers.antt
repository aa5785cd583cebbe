use Rattle.std.proofs.Common.{◌+◌, refl}
use Rattle.px_base.specs.declared.trace.MarkKind.TheVariants as mark
use Rattle.px_callgraph.specs.JobTree.{job_tree}
use Rattle.px_callgraph.specs.States.{on, marked}
use Rattle.px_callgraph.specs.Commands.{repeat_loop}
use Rattle.px_walks.specs.Items.{turns_of, items_of}
use Rattle.px_walks.proofs.LedFacts.{turned, past_bound}
use Rattle.px_walks.proofs.FewLemmas.{few_command}
use Rattle.px_walks.proofs.walking.begin_body.Goals as goal

pub returns-in_ok-led-clause-leads : goal.returns-in_ok-led-clause-leads
returns-in_ok-led-clause-leads c =
    let a = c.args in
    turned (job_tree a.job.now) a.state.now c.iteration_act_in.new.state (turns_of a.turns) (items_of a.control.now.items) (items_of c.put_part.new.control.items) c.unroll-unroll.result (a.turns.made + 1)
    c.in_ok-led.led c.unroll-unroll.ensures c.if-made-unroll.true refl c.in_ok-put_part.ensures c.in_ok-led.ensures

pub returns-in_ok-led-clause-few : goal.returns-in_ok-led-clause-few
returns-in_ok-led-clause-few c =
    let a = c.args in
    few_command a.state.now c.iteration_act_in.new.state (on (repeat_loop a.turns.site (a.turns.made + 1) (marked mark.Iter a.turns.site a.state.now))) c.in_ok-led.led c.in_ok-led.ensures

pub returns-else-made-unroll-clause-leads : goal.returns-else-made-unroll-clause-leads
returns-else-made-unroll-clause-leads c =
    let a = c.args in
    past_bound (job_tree a.job.now) a.state.now (turns_of a.turns) (items_of a.control.now.items) c.unroll-unroll.result c.unroll-unroll.ensures c.if-made-unroll.false
