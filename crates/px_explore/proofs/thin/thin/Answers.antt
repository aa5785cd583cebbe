use Rattle.std.proofs.Common.{refl, sym, subst}
use Rattle.px_callgraph.specs.JobTree.{job_tree}
use Rattle.px_explore.specs.declared.weigh.Weighed.TheVariants.{Open}
use Rattle.px_explore.specs.Weights.{IsOpenAt}
use Rattle.px_explore.specs.Thinned.{IsOpenFork, IsThinnedTo}
use Rattle.px_explore.proofs.thin.thin.Goals as goal

pub thin_fork-requires-clause-held : goal.thin_fork-requires-clause-held
thin_fork-requires-clause-held g c = let (items, on, of) = c.requires.held in (items, on, subst (λ z. IsOpenAt z items) c.in-Open.is of)

pub thin_fork-requires-clause-fork : goal.thin_fork-requires-clause-fork
thin_fork-requires-clause-fork g c = let (j, l, k) = c.requires.fork in (j, l, (subst (IsOpenFork j) c.in-Open.is k).fork)

pub returns-in_ok-thin_fork-in-Open-clause-thinned : goal.returns-in_ok-thin_fork-in-Open-clause-thinned
returns-in_ok-thin_fork-in-Open-clause-thinned g c = λ kinds k.
    let j = job_tree c.args.job.now in
    let r = c.in_ok-thin_fork-in-Open in
    subst (λ z. IsThinnedTo j z (Open r.field-0)) (sym c.in-Open.is) (r.field-0, refl, r.ensures.thinned kinds (subst (IsOpenFork j) c.in-Open.is k))
