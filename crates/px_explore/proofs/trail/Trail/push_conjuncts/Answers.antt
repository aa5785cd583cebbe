use Rattle.std.proofs.Common.{◌++◌, ◌∷◌, [], ◌∙◌}
use Rattle.px_terms.proofs.Outcomes.{err_any}
use Rattle.px_explore.proofs.TrailLemmas.{puts_conjunct, puts_same, done_next}
use Rattle.px_explore.proofs.ReachLemmas.{conjuncts_next}
use Rattle.px_explore.proofs.trail.Trail.push_conjuncts.Goals as goal

pub push_conjunct-requires : goal.push_conjunct-requires
push_conjunct-requires g c =
    let (done, s, d) = c.loop-n.invariant.done in
    conjuncts_next c.args.self.now _ c.loop-n.self _ c.args.pure.now c.args.from c.loop-n.n c.index-pure-n.result done c.requires s d c.loop-n-test.true c.index-pure-n.is

pub returns-in_err-push_conjunct-clause-failed : goal.returns-in_err-push_conjunct-clause-failed
returns-in_err-push_conjunct-clause-failed g c =
    let (done, s, d) = c.loop-n.invariant.done in
    err_any c.from_residual.result (done, puts_same c.args.self.now _ c.loop-n.self _ c.push_conjunct.new.self _ done s c.in_err-push_conjunct.ensures.failed)

pub loop-n-preserved : goal.loop-n-preserved
loop-n-preserved g c =
    let (done, s, d) = c.loop-n.invariant.done in
    let x = c.index-pure-n.result in record {
      done = (
        done ++ x ∷ [],
        puts_conjunct c.args.self.now _ c.loop-n.self _ c.push_conjunct.new.self _ done x s c.in_ok-push_conjunct.ensures.pushed,
        done_next done c.args.pure.now c.args.from c.loop-n.n x c.loop-n-test.true c.index-pure-n.is d,
      );
      kinds = c.in_ok-push_conjunct.ensures.kinds ∙ c.loop-n.invariant.kinds;
    }
