use Rattle.px_walks.specs.Walks.{walk_of}
use Rattle.px_check.proofs.ForkLemmas.{kept}
use Rattle.px_check.proofs.forks.keep.Goals as goal

pub returns-in_ok-push-in-Some : goal.returns-in_ok-push-in-Some
returns-in_ok-push-in-Some c = λ j h all. kept j c.args.forks.now.items c.push.new.self.items _ (walk_of c.args.walk.now) c.in_ok-push-in-Some.ensures.items c.in_ok-copy_walk-in-Some.ensures h all
