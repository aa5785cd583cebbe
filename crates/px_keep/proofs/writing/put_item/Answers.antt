use Rattle.std.proofs.Common.{rules, ◌≡◌, ◌∙◌, true}
use Rattle.std.proofs.lemmas.Result.{on_ok_weaker}
use Rattle.px_callgraph.specs.JobTree.{job_tree}
use Rattle.px_wire.specs.Messages.{said_tree}
use Rattle.px_keep.proofs.WriteLemmas.{is_put}
use Rattle.px_keep.proofs.writing.put_item.Goals as goal

pub returns : goal.returns
returns c t ds same =
    let asked : c.is_request_in_range.result ≡ true = search rules in
    let given : c.is_said_in_range.result ≡ true = search rules in
    on_ok_weaker c.put_frames.result (λ h.
    is_put (job_tree c.args.job.now) t ds (said_tree c.args.reply.now) c.args.out.now.items c.put_frames.new.out.items c.deref.result.now c.deref-2.result.now c.requires
    (c.is_request_in_range.ensures.0 asked) (c.is_said_in_range.ensures.0 given) same (c.deref.ensures.value ∙ c.in_ok-asked.ensures) (c.deref-2.ensures.value ∙ c.in_ok-given.ensures) h) c.put_frames.ensures
