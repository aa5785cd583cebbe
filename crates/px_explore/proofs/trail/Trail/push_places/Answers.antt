use Rattle.std.proofs.Common.{◌++◌, ◌∷◌, []}
use Rattle.px_terms.proofs.Outcomes.{err_any}
use Rattle.px_explore.specs.Trails.{found_places}
use Rattle.px_explore.proofs.ReachLemmas.{places_next, placed_next, stacks_then}
use Rattle.px_explore.proofs.trail.Trail.push_places.Goals as goal

pub push_place-requires : goal.push_place-requires
push_place-requires c =
    let (done, s, d) = c.loop-n.invariant in
    places_next c.args.self.now c.loop-n.self c.args.vars.now c.args.atoms.now c.args.from c.loop-n.n c.index-atoms-n.result done c.requires s d c.loop-n-test.true c.index-atoms-n.is

pub loop-n-preserved : goal.loop-n-preserved
loop-n-preserved c =
    let (done, s, d) = c.loop-n.invariant in
    let x = c.index-atoms-n.result in (
      done ++ found_places c.args.vars.now (x ∷ []),
      stacks_then c.args.self.now c.loop-n.self c.push_place.new.self done (found_places c.args.vars.now (x ∷ [])) s c.in_ok-push_place.ensures.pushed,
      placed_next c.args.vars.now c.args.atoms.now c.args.from c.loop-n.n done x c.loop-n-test.true c.index-atoms-n.is d,
    )

pub returns-in_err-push_place-clause-failed : goal.returns-in_err-push_place-clause-failed
returns-in_err-push_place-clause-failed c =
    let (done, s, d) = c.loop-n.invariant in
    err_any c.from_residual.result (done ++ [], stacks_then c.args.self.now c.loop-n.self c.push_place.new.self done [] s c.in_err-push_place.ensures.failed)
