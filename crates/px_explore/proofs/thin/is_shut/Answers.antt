use Rattle.std.proofs.Common.{sym, subst}
use Rattle.std.specs.Prelude.{IfSome}
use Rattle.std.proofs.lemmas.Result.{IfOk-weaker}
use Rattle.px_callgraph.specs.JobTree.{JobTree, job_tree}
use Rattle.px_walks.specs.Walks.{walk_of}
use Rattle.px_explore.specs.Said.{Says, IsNew}
use Rattle.px_explore.specs.Thinned.{IsRefutedWith}
use Rattle.px_explore.proofs.TrailLemmas.{on_stacked}
use Rattle.px_explore.proofs.ThinLemmas.{new_by_refuted, shut_by}
use Rattle.px_explore.proofs.KnownLemmas.{known_shut}
use Rattle.px_explore.proofs.thin.is_shut.Goals as goal

pub returns-then-is_elsewhere-clause-shut : goal.returns-then-is_elsewhere-clause-shut
returns-then-is_elsewhere-clause-shut g c = λ yes kinds m.
    known_shut (job_tree c.args.job.now) (walk_of c.args.walk.now) c.args.known c.args.way m c.requires.known (c.is_elsewhere.ensures c.if-is_elsewhere.true)

pub returns-in-Some-clause-shut : goal.returns-in-Some-clause-shut
returns-in-Some-clause-shut g c =
    let j = job_tree c.args.job.now in
    let w = walk_of c.args.walk.now in
    let s = c.args.walk.now.state in
    let x = c.in-Some.conjunct in
    let says = subst (λ z. IfSome z (λ x. (j : JobTree) → IsNew s x → Says j w c.args.way x)) c.in-Some.is c.in_ok-more.ensures in
    IfOk-weaker c.is_against.result _ _ (λ yes h e kinds m. let (added, r) = h e in let refuted = subst (IsRefutedWith s x) (sym kinds) r in shut_by j w c.args.way x m.places (says j (new_by_refuted s x j.kinds m.live added refuted)) refuted)
    c.is_against.ensures.against

pub is_shut_by_block-requires-clause-held : goal.is_shut_by_block-requires-clause-held
is_shut_by_block-requires-clause-held g c = let (items, on, of) = c.requires.held in (items, on.stacked, of)

pub returns-in-None-clause-shut : goal.returns-in-None-clause-shut
returns-in-None-clause-shut g c = IfOk-weaker c.is_shut_by_block.result _ _ (λ yes h e kinds m. h e m.places) c.is_shut_by_block.ensures.shut

pub returns-in-None-clause-on : goal.returns-in-None-clause-on
returns-in-None-clause-on g c = λ items on. on_stacked c.args.trail.now c.is_shut_by_block.new.trail _ items on c.is_shut_by_block.ensures.stacked
