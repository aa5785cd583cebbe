use Rattle.std.proofs.Common.{refl, subst}
use Rattle.px_callgraph.specs.JobTree.{job_tree}
use Rattle.px_callgraph.proofs.AskLemmas.{reached_askable}
use Rattle.px_callgraph.proofs.ReachedLemmas.{reached_keep, sorted_places}
use Rattle.px_walks.specs.Walks.{walk_of}
use Rattle.px_explore.specs.Thinned.{Thins, IsShut}
use Rattle.px_explore.proofs.ThinLemmas.{thins_self}
use Rattle.px_explore.proofs.thin.thin_fork.Goals as goal

pub returns-then-not-are_all_placed-clause-thinned : goal.returns-then-not-are_all_placed-clause-thinned
returns-then-not-are_all_placed-clause-thinned g c = λ kinds k. record { walk = refl; steps = refl; ways = thins_self (IsShut (job_tree c.args.job.now) (walk_of c.args.fork.walk)) c.args.fork.ways.items }

pub open_ways-requires-clause-askable : goal.open_ways-requires-clause-askable
open_ways-requires-clause-askable g c = let (j, l, k) = c.requires.fork in (reached_askable j (walk_of c.args.fork.walk) l k.reached).0

pub open_ways-requires-clause-placed : goal.open_ways-requires-clause-placed
open_ways-requires-clause-placed g c = c.are_all_placed.ensures c.if-not-are_all_placed.false

pub returns-clause-thinned : goal.returns-clause-thinned
returns-clause-thinned g c = λ kinds k.
    let j = job_tree c.args.job.now in
    let w = walk_of c.args.fork.walk in record {
      walk = refl;
      steps = refl;
      ways = subst (λ z. Thins (IsShut j w) z c.in_ok-left.left.items) c.deref.ensures.value
          (c.in_ok-left.ensures.left kinds (record { places = sorted_places c.args.fork.walk.state (reached_keep j w k.fork.reached).0; live = k.live }));
    }
