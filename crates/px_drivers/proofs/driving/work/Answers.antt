use Rattle.px_drivers.proofs.DriverLemmas.{goes_nowhere, goes_on}
use Rattle.px_drivers.proofs.driving.work.Goals as goal

pub loop-init : goal.loop-init
loop-init g c = (c.requires, goes_nowhere c.args.driver.now)

pub returns-then-not-turn : goal.returns-then-not-turn
returns-then-not-turn g c = goes_on c.args.driver.now c.loop.driver c.turn.new.driver c.loop.invariant.1 c.turn.ensures.later

pub loop-preserved : goal.loop-preserved
loop-preserved g c = (c.turn.ensures.ready c.if-not-turn.false, goes_on c.args.driver.now c.loop.driver c.turn.new.driver c.loop.invariant.1 c.turn.ensures.later)
