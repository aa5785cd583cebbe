use Rattle.px_walks.specs.Walks.{walk_of}
use Rattle.px_check.proofs.ForkLemmas.{kept}
use Rattle.px_check.proofs.forks.put_copy.Goals as goal

pub returns : goal.returns
returns c = λ j h all. kept j c.args.forks.now.items c.push.new.self.items _ (walk_of c.args.fork.now.walk) c.in_ok-push.ensures.items c.in_ok-copy_walk.ensures h all
