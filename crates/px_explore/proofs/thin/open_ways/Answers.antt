use Rattle.std.proofs.Common.{◌∙◌, sym, subst}
use Rattle.std.proofs.lemmas.List.{take_all}
use Rattle.px_callgraph.specs.JobTree.{job_tree}
use Rattle.px_walks.specs.Walks.{walk_of}
use Rattle.px_explore.specs.Thinned.{Thins, IsShut}
use Rattle.px_explore.proofs.ThinLemmas.{thins_next}
use Rattle.px_explore.proofs.thin.open_ways.Goals as goal

pub is_shut-requires-clause-held : goal.is_shut-requires-clause-held
is_shut-requires-clause-held g c = let (items, on, of) = c.requires.held in (items, c.loop-n.invariant.on items on, of)

pub loop-n-preserved : goal.loop-n-preserved
loop-n-preserved g c = record {
  on = λ items on. c.in_ok-shut.ensures.on items (c.loop-n.invariant.on items on);
  left = λ kinds m. thins_next (IsShut (job_tree c.args.job.now) (walk_of c.args.walk.now)) c.args.ways.now c.loop-n.left.items c.put_open.new.left.items c.loop-n.n _ c.in_ok-shut.shut c.loop-n-test.true (c.loop-n.invariant.left kinds m)
      (λ yes. c.in_ok-shut.ensures.shut yes (kinds ∙ sym c.loop-n.invariant.kinds) m) c.in_ok-put_open.ensures.left c.in_ok-put_open.ensures.shut;
  kinds = c.in_ok-shut.ensures.kinds ∙ c.loop-n.invariant.kinds;
}

pub returns-clause-left : goal.returns-clause-left
returns-clause-left g c = λ kinds m.
    subst (λ z. Thins (IsShut (job_tree c.args.job.now) (walk_of c.args.walk.now)) z c.loop-n.left.items) (take_all c.loop-n.n c.args.ways.now c.loop-n-test.false) (c.loop-n.invariant.left kinds m)
