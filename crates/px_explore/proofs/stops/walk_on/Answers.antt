use Rattle.std.proofs.Common.{Some, None, length, ap, refl, ◌∙◌}
use Rattle.px_callgraph.specs.JobTree.{job_tree}
use Rattle.px_callgraph.specs.declared.outcomes.StepOutcome.TheVariants.{Next, Ends, Cut, «Past» as IsPast}
use Rattle.px_callgraph.specs.Alternatives.{ways}
use Rattle.px_steps.specs.declared.led.Led.TheVariants as led
use Rattle.px_walks.specs.Walks.{walk_of}
use Rattle.px_explore.specs.declared.stops.Listed.TheVariants as L
use Rattle.px_explore.proofs.OnLemmas.{listed_as, on_led, fewer}
use Rattle.px_explore.proofs.StopLemmas.{stop_dead, stop_choice, stop_ends, stop_cut, stop_past}
use Rattle.px_explore.proofs.AfterLemmas.{after_same}
use Rattle.px_explore.proofs.stops.walk_on.Goals as goal

pub loop-walk-init : goal.loop-walk-init
loop-walk-init c = record { stands = c.requires.stands; after = after_same c.args.from.state; same = refl }

pub returns-in-Nothing : goal.returns-in-Nothing
returns-in-Nothing c =
    let j = job_tree c.args.job.now in
    let w = walk_of c.loop-walk.walk in
    let on = c.loop-walk.invariant in
    let listed = listed_as (ways j w) c.in_ok-next_ways.field-0 L.Nothing c.in_ok-next_ways.ensures c.in-Nothing.is in
    record { after = on.after; stop = stop_dead j _ c.loop-walk.steps (Next w) w (ways j w) refl refl (ap length listed) on.stands on.same }

pub returns-in-Several : goal.returns-in-Several
returns-in-Several c =
    let j = job_tree c.args.job.now in
    let w = walk_of c.loop-walk.walk in
    let on = c.loop-walk.invariant in
    let listed = listed_as (ways j w) c.in_ok-next_ways.field-0 (L.Several c.in-Several.ways) c.in_ok-next_ways.ensures c.in-Several.is in record {
      after = on.after;
      stop = stop_choice j _ c.loop-walk.steps _ (Next w) (record { walk = c.loop-walk.walk; steps = c.replace.result; ways = c.in-Several.ways }) refl c.replace.ensures.value listed.0 listed.1 on.stands on.same;
    }

pub returns-in-Some-Ends : goal.returns-in-Some-Ends
returns-in-Some-Ends c =
    let j = job_tree c.args.job.now in
    let w = walk_of c.loop-walk.walk in
    let listed = listed_as (ways j w) c.in_ok-next_ways.field-0 (L.One c.in-One.way) c.in_ok-next_ways.ensures c.in-One.is in
    let on = on_led j _ _ w (walk_of c.act_in.new.walk) c.in-One.way c.loop-walk.steps c.put_steps.new.steps c.in_ok-act_in.field-0 (Some (led.Ends c.in-Some-Ends.exit c.in-Some-Ends.result))
    c.requires.parameters listed c.in_ok-act_in.ensures c.in_ok-put_steps.ensures (c.in-Some-Ends.is ∙ ap Some c.in-Some-Ends.field-0-is) c.loop-walk.invariant in
    record {
      after = on.after;
      stop = stop_ends j _ c.put_steps.new.steps (Ends c.act_in.new.walk.state c.in-Some-Ends.exit c.in-Some-Ends.result) _ _ _ refl on.stands on.same;
    }

pub returns-in-Some-Cut : goal.returns-in-Some-Cut
returns-in-Some-Cut c =
    let j = job_tree c.args.job.now in
    let w = walk_of c.loop-walk.walk in
    let listed = listed_as (ways j w) c.in_ok-next_ways.field-0 (L.One c.in-One.way) c.in_ok-next_ways.ensures c.in-One.is in
    let on = on_led j _ _ w (walk_of c.act_in.new.walk) c.in-One.way c.loop-walk.steps c.put_steps.new.steps c.in_ok-act_in.field-0 (Some (led.Cut c.in-Some-Cut.gap))
    c.requires.parameters listed c.in_ok-act_in.ensures c.in_ok-put_steps.ensures (c.in-Some-Cut.is ∙ ap Some c.in-Some-Cut.field-0-is) c.loop-walk.invariant in
    record { after = on.after; stop = stop_cut j _ c.put_steps.new.steps (Cut c.act_in.new.walk.state c.in-Some-Cut.gap) _ _ refl on.stands on.same }

pub returns-in-None : goal.returns-in-None
returns-in-None c =
    let j = job_tree c.args.job.now in
    let w = walk_of c.loop-walk.walk in
    let listed = listed_as (ways j w) c.in_ok-next_ways.field-0 (L.One c.in-One.way) c.in_ok-next_ways.ensures c.in-One.is in
    let on = on_led j _ _ w (walk_of c.act_in.new.walk) c.in-One.way c.loop-walk.steps c.put_steps.new.steps c.in_ok-act_in.field-0 None
    c.requires.parameters listed c.in_ok-act_in.ensures c.in_ok-put_steps.ensures c.in-None.is c.loop-walk.invariant in
    record { after = on.after; stop = stop_past j _ c.put_steps.new.steps (IsPast c.act_in.new.walk.state) _ refl on.stands on.same }

pub loop-walk-smaller : goal.loop-walk-smaller
loop-walk-smaller c =
    fewer (job_tree c.args.job.now) (walk_of c.loop-walk.walk) (walk_of c.act_in.new.walk) c.in-One.way c.in_ok-act_in.field-0 (Some led.Goes) c.in_ok-act_in.ensures (c.in-Some-Goes.is ∙ ap Some c.in-Some-Goes.field-0-is)

pub loop-walk-preserved : goal.loop-walk-preserved
loop-walk-preserved c =
    let j = job_tree c.args.job.now in
    let w = walk_of c.loop-walk.walk in
    let listed = listed_as (ways j w) c.in_ok-next_ways.field-0 (L.One c.in-One.way) c.in_ok-next_ways.ensures c.in-One.is in
    let on = on_led j _ _ w (walk_of c.act_in.new.walk) c.in-One.way c.loop-walk.steps c.put_steps.new.steps c.in_ok-act_in.field-0 (Some led.Goes)
    c.requires.parameters listed c.in_ok-act_in.ensures c.in_ok-put_steps.ensures (c.in-Some-Goes.is ∙ ap Some c.in-Some-Goes.field-0-is) c.loop-walk.invariant in
    on
