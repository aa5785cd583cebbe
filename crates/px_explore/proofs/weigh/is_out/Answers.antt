use Rattle.px_walks.proofs.ResultLemmas.{ok_any}
use Rattle.px_explore.proofs.WeighLemmas.{reaches_kept, kept_kept, reached_items}
use Rattle.px_explore.proofs.weigh.is_out.Goals as goal

pub is_refuted-requires-clause-held : goal.is_refuted-requires-clause-held
is_refuted-requires-clause-held g c = reached_items c.args.trail.now _ c.reach.new.self _ c.args.state.now c.requires.behind c.in_ok-reach.ensures.reached

pub returns-clause-reached : goal.returns-clause-reached
returns-clause-reached g c = ok_any c.is_refuted.result (reaches_kept c.args.trail.now _ c.reach.new.self _ _ c.args.state.now c.in_ok-reach.ensures.reached c.is_refuted.ensures.held)

pub returns-clause-kept : goal.returns-clause-kept
returns-clause-kept g c = kept_kept c.reach.new.self _ _ c.in_ok-reach.ensures.kept c.is_refuted.ensures.held
