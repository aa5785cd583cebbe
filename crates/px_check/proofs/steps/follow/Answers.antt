use Rattle.std.proofs.Common.{subst, sym, refl, take}
use Rattle.px_callgraph.specs.JobTree.{job_tree}
use Rattle.px_callgraph.specs.Derivations.{RunsTo}
use Rattle.px_steps.specs.declared.led.Led.TheVariants.{Cut}
use Rattle.px_walks.specs.Walks.{walk_of}
use Rattle.px_check.specs.Leading.{lead_at}
use Rattle.px_check.specs.Follows.{Follows}
use Rattle.px_check.proofs.ForkLemmas.{goes_on}
use Rattle.px_check.proofs.FollowLemmas.{within, here, goes_by, falls_by, fails_by, ends_there, is_cut}
use Rattle.px_check.proofs.steps.follow.Goals as goal

pub loop-led-init : goal.loop-led-init
loop-led-init c = (goes_on (job_tree c.args.job.now) c.args.steps.now c.args.from c.requires.from, c.requires.forks)

pub keep-requires : goal.keep-requires
keep-requires c = within (job_tree c.args.job.now) c.args.steps.now c.loop-led.place (lead_at (walk_of c.loop-led.walk) c.loop-led.led) c.loop-led.invariant.0

pub loop-led-smaller : goal.loop-led-smaller
loop-led-smaller c =
    falls_by (job_tree c.args.job.now) c.args.steps.now c.loop-led.place (walk_of c.loop-led.walk) c.loop-led.led c.loop-led.invariant.0 c.in-Goes.is (walk_of c.do_next.new.walk) c.in_ok-next-in-Goes.field-0 c.in-Taken.next c.in-Taken.to
    c.in_ok-next-in-Goes.ensures c.in-Taken.is

pub loop-led-preserved : goal.loop-led-preserved
loop-led-preserved c = (
  goes_by (job_tree c.args.job.now) c.args.steps.now c.loop-led.place (walk_of c.loop-led.walk) c.loop-led.led c.loop-led.invariant.0 c.in-Goes.is (walk_of c.do_next.new.walk) c.in_ok-next-in-Goes.field-0 c.in-Taken.next c.in-Taken.to
      c.in_ok-next-in-Goes.ensures c.in-Taken.is,
  c.in_ok-left-in-Goes.ensures (job_tree c.args.job.now)
      (here (job_tree c.args.job.now) c.args.steps.now c.loop-led.place (walk_of c.loop-led.walk) c.loop-led.led c.loop-led.invariant.0 c.in-Goes.is)
      c.loop-led.invariant.1,
)

pub returns-in-Fails-clause-runs : goal.returns-in-Fails-clause-runs
returns-in-Fails-clause-runs c =
    subst (RunsTo (job_tree c.args.job.now) c.args.steps.now) (sym c.failed.ensures.course)
    (fails_by (job_tree c.args.job.now) c.args.steps.now c.loop-led.place (walk_of c.loop-led.walk) c.loop-led.led c.loop-led.invariant.0 c.in-Goes.is (walk_of c.do_next.new.walk) c.in_ok-next-in-Goes.field-0 c.in-Fails.next c.in_ok-next-in-Goes.ensures c.in-Fails.is)

pub returns-in-Ends-clause-runs : goal.returns-in-Ends-clause-runs
returns-in-Ends-clause-runs c =
    subst (RunsTo (job_tree c.args.job.now) c.args.steps.now) (sym c.ended.ensures.course)
    (ends_there (job_tree c.args.job.now) c.args.steps.now c.loop-led.place c.loop-led.walk.state c.in-Ends.exit c.in-Ends.given (subst (λ z. Follows (job_tree c.args.job.now) (take c.loop-led.place c.args.steps.now) c.loop-led.place (lead_at (walk_of c.loop-led.walk) z)) c.in-Ends.is c.loop-led.invariant.0))

pub returns-in-Cut-clause-runs : goal.returns-in-Cut-clause-runs
returns-in-Cut-clause-runs c =
    subst (RunsTo (job_tree c.args.job.now) c.args.steps.now) (sym c.failed-in-Cut.ensures.course)
    (is_cut (job_tree c.args.job.now) c.args.steps.now c.loop-led.place (lead_at (walk_of c.loop-led.walk) (Cut c.in-Cut.field-0)) (subst (λ z. Follows (job_tree c.args.job.now) (take c.loop-led.place c.args.steps.now) c.loop-led.place (lead_at (walk_of c.loop-led.walk) z)) c.in-Cut.is c.loop-led.invariant.0) refl)
