use Rattle.std.proofs.Common.{inl, refl, sym, ap, subst, ◌∙◌, ℕ, [], Err}
use Rattle.std.proofs.lemmas.Result.{err_from_is_err_and}
use Rattle.px_callgraph.specs.JobTree.{job_tree}
use Rattle.px_pool.specs.Words.{IsWordKept}
use Rattle.px_pool.specs.Outcomes.{CountsFaults}
use Rattle.px_pool.specs.Reading.{IsReplied}
use Rattle.px_pool.proofs.ExchangeLemmas.{err_counts}
use Rattle.px_pool.proofs.PieceLemmas.{kept_on, replied}
use Rattle.px_pool.proofs.replies.read_reply.Goals as goal

pub returns-in_err-length-clause-replied : goal.returns-in_err-length-clause-replied
returns-in_err-length-clause-replied g c =
    let p = err_from_is_err_and c.from_residual.result c.from_residual.ensures.1 in
    let e = c.in_err-length.field-0.0 in
    subst (λ r. IsReplied c.args.version (job_tree c.args.job.now) (g.K.Link.told c.args.link.now) (g.K.Link.told c.read_length.new.link) [] r) (sym (p.1 ∙ ap (λ z. Err z) p.2)) (inl (c.in_err-length.ensures.unanswered e refl))

pub returns-in_err-length-clause-faults : goal.returns-in_err-length-clause-faults
returns-in_err-length-clause-faults g c =
    let p = err_from_is_err_and c.from_residual.result c.from_residual.ensures.1 in
    let e = c.in_err-length.field-0.0 in
    err_counts ℕ (g.K.Link.count c.args.link.now) (g.K.Link.count c.read_length.new.link) c.from_residual.result e (p.1 ∙ ap (λ z. Err z) p.2) c.in_err-length.ensures.faults

pub returns-clause-replied : goal.returns-clause-replied
returns-clause-replied g c =
    replied c.args.version (job_tree c.args.job.now) (g.K.Link.told c.args.link.now) (g.K.Link.told c.read_length.new.link) (g.K.Link.told c.read_parts.new.link) c.in_ok-length.length c.in_ok-length.ensures.few c.in_ok-length.ensures.given
    c.read_parts.result c.read_parts.ensures.read

pub returns-clause-word : goal.returns-clause-word
returns-clause-word g c =
    let says = g.K.Word.Honesty.says in
    kept_on c.read_parts.result (IsWordKept says (g.K.Link.told c.read_length.new.link)) (IsWordKept says (g.K.Link.told c.read_parts.new.link)) c.read_parts.ensures.word c.in_ok-length.ensures.word

pub returns-clause-faults : goal.returns-clause-faults
returns-clause-faults g c =
    subst (λ n. CountsFaults n (g.K.Link.count c.read_parts.new.link) c.read_parts.result) c.in_ok-length.ensures.faults c.read_parts.ensures.faults
