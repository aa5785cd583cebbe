use Rattle.px_explore.proofs.ReachLemmas.{slice_vars, slice_conjuncts, slice_places, slice_reaches, kept_stack, kept_on, kept_then, either_way}
use Rattle.std.proofs.lemmas.Result.{on_ok_weaker}
use Rattle.px_explore.proofs.trail.Trail.reach.Goals as goal

pub push_vars-requires : goal.push_vars-requires
push_vars-requires g c = slice_vars c.args.self.now _ c.args.state.now c.requires.askable c.as_slice.result.now c.args.state.now.pure c.args.state.now.atoms c.as_slice.ensures c.requires.behind

pub returns-in_err-push_vars-clause-kept : goal.returns-in_err-push_vars-clause-kept
returns-in_err-push_vars-clause-kept g c = kept_stack c.args.self.now c.push_vars.new.self _ c.args.state.now _ _ c.requires.behind c.in_err-push_vars.ensures.failed.1

pub push_conjuncts-requires : goal.push_conjuncts-requires
push_conjuncts-requires g c =
    slice_conjuncts c.args.self.now _ c.args.state.now c.requires.askable c.as_slice.result.now c.as_slice-2.result.now c.args.state.now.atoms c.as_slice.ensures c.push_vars.new.self c.in_ok-push_vars.ensures.pushed
    c.as_slice-2.ensures c.requires.behind

pub returns-in_err-push_conjuncts-clause-kept : goal.returns-in_err-push_conjuncts-clause-kept
returns-in_err-push_conjuncts-clause-kept g c =
    kept_on c.args.self.now c.push_vars.new.self c.push_conjuncts.new.self _ _ c.args.state.now _ _ c.requires.behind c.in_ok-push_vars.ensures.pushed c.in_err-push_conjuncts.ensures.failed.1

pub push_places-requires : goal.push_places-requires
push_places-requires g c =
    slice_places c.args.self.now _ c.args.state.now c.requires.askable c.as_slice.result.now c.as_slice-2.result.now c.as_slice-4.result.now c.as_slice.ensures c.push_vars.new.self c.in_ok-push_vars.ensures.pushed
    c.as_slice-2.ensures c.push_conjuncts.new.self _ c.in_ok-push_conjuncts.ensures.pushed c.as_slice-3.result.now c.as_slice-3.ensures c.as_slice-4.ensures c.requires.behind

pub returns-clause-reached : goal.returns-clause-reached
returns-clause-reached g c =
    on_ok_weaker c.push_places.result
    (λ xs. slice_reaches c.args.self.now _ c.args.state.now c.requires.askable c.as_slice.result.now c.as_slice-2.result.now c.as_slice-4.result.now c.as_slice.ensures c.push_vars.new.self c.in_ok-push_vars.ensures.pushed
    c.as_slice-2.ensures c.push_conjuncts.new.self _ c.in_ok-push_conjuncts.ensures.pushed c.as_slice-3.result.now c.as_slice-3.ensures c.as_slice-4.ensures c.push_places.new.self xs) c.push_places.ensures.pushed

pub returns-clause-kept : goal.returns-clause-kept
returns-clause-kept g c =
    either_way _ c.push_places.result c.push_places.ensures.pushed c.push_places.ensures.failed
    (λ xs. kept_then c.args.self.now c.push_vars.new.self c.push_conjuncts.new.self c.push_places.new.self _ _ c.args.state.now _ _ _ c.requires.behind c.in_ok-push_vars.ensures.pushed c.in_ok-push_conjuncts.ensures.pushed xs)
    (λ e xs. kept_then c.args.self.now c.push_vars.new.self c.push_conjuncts.new.self c.push_places.new.self _ _ c.args.state.now _ _ _ c.requires.behind c.in_ok-push_vars.ensures.pushed c.in_ok-push_conjuncts.ensures.pushed xs.1)
