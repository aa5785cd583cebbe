use Rattle.std.proofs.Common.{◌≡◌, ◌∙◌, true, false, Some, sym, ap, subst}
use Rattle.px_core.specs.BodyTree.{body_tree}
use Rattle.px_callgraph.specs.declared.jobs.Job.{Job}
use Rattle.px_callgraph.specs.JobTree.{job_tree}
use Rattle.px_pieces.specs.declared.desk.Who.TheVariants.{Parent}
use Rattle.px_book.specs.Books.{BookParts, IsGiven, claimed, IsDue, published}
use Rattle.px_pooled.proofs.OwnLemmas.{few_at}
use Rattle.px_pooled.proofs.TurnLemmas.{due_now}
use Rattle.px_pooled.proofs.parent.take_turn.Goals as goal

pub piece_of-requires-clause-parameters : goal.piece_of-requires-clause-parameters
piece_of-requires-clause-parameters g c =
    let b = c.args.book.now in
    let j = c.in-Some.job in
    let given : IsGiven b Parent (Some j) = subst (IsGiven b Parent) c.in-Some.is c.in_ok-job.ensures.given in
    few_at b.sources.bodies j.proc.0 (body_tree j.body) c.requires.few given.1.body

pub unreachable-requires : goal.unreachable-requires
unreachable-requires g c =
    let b = c.args.book.now in
    let j = c.in-Some.job in
    let piece = c.in_ok-piece.piece in
    let given : IsGiven b Parent (Some j) = subst (IsGiven b Parent) c.in-Some.is c.in_ok-job.ensures.given in
    let at : c.claim.new.self ≡ claimed b Parent (Some j) = c.in_ok-job.ensures.claimed ∙ ap (claimed b Parent) c.in-Some.is in
    let due = due_now c.claimed_jobs_stay.ensures c.calls_move_one.ensures b j given c.books_go_on.ensures in
    let here : IsDue c.claim.new.self j.ticket (job_tree piece.job) =
    subst (λ (z : BookParts). IsDue z j.ticket (job_tree piece.job)) (sym at) (subst (λ (i : Job). IsDue (claimed b Parent (Some j)) j.ticket (job_tree i)) (sym c.in_ok-piece.ensures.job) due) in
    let no : false ≡ true = c.in-Err.ensures.due.1 here in
    cc

pub returns-clause-one : goal.returns-clause-one
returns-clause-one g c = λ e.
    let b = c.args.book.now in
    let j = c.in-Some.job in
    let piece = c.in_ok-piece.piece in
    let at : c.claim.new.self ≡ claimed b Parent (Some j) = c.in_ok-job.ensures.claimed ∙ ap (claimed b Parent) c.in-Some.is in
    (j, piece, subst (IsGiven b Parent) c.in-Some.is c.in_ok-job.ensures.given, c.in_ok-piece.ensures.job, c.in-Ok.ensures.published ∙ ap (λ (z : BookParts). published z j.ticket piece) at)
