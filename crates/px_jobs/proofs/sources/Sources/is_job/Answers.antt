use Rattle.std.proofs.Common.{◌≡◌, ◌↔◌, ◌<◌, length, get_or, true, sym, ap, ◌∙◌, subst, arith}
use Rattle.px_callgraph.specs.JobTree.{job_tree}
use Rattle.px_callgraph.specs.CallGraphs.{bodies_in, IsGraphOf}
use Rattle.px_symexec.specs.One.{IsJob}
use Rattle.px_jobs.specs.Plans.{IsPlan, IsReady, AreCallees, tables_at}
use Rattle.px_jobs.specs.Sources.{SourceParts, source_work}
use Rattle.px_jobs.proofs.SourceLemmas.{plan_of, job_from, callees_of_job}
use Rattle.px_jobs.proofs.sources.Sources.is_job.Goals as goal

pub returns : goal.returns
returns c =
    let i = c.self.inside in
    let s : SourceParts = record { bodies = i.bodies; types = i.types; limits = i.limits; kinds = i.kinds; out = i.out } in
    let graph = c.args.graph.now in
    let parts = c.args.parts.now in
    let f = c.args.proc.0 in
    let j = c.args.job.now in
    let kept = length graph in
    let b = c.index-as_slice-proc.result in
    let many = ap (λ (z : SourceParts). length z.bodies) c.self.view_is in
    let inside : f < length s.bodies = (let p = c.requires.proc in let q = c.requires.bodies in omega arith) in
    let rest = c.has_same.ensures.0 c.if-not-has_same.false in
    subst (λ (z : SourceParts). IsGraphOf (bodies_in z.bodies) graph → IsReady (source_work z kept) parts f →
    (c.are_callees.result ≡ true) ↔ (IsJob (source_work z kept) (tables_at parts) f (job_tree j) × (j.ticket ≡ c.args.ticket))) c.self.view_is
    (λ is ready.
    let plan : IsPlan (source_work s kept) graph c.deref.result.now = subst (λ z. IsPlan (source_work s kept) graph z) (sym c.deref.ensures.value) (plan_of s graph i.flags.items c.self.invariant is) in
    let exact = c.are_callees.ensures (source_work s kept) plan ready in (
      λ e. (
        job_from s kept (tables_at parts) f j b inside (c.index-as_slice-proc.is ∙ ap (λ z. get_or z f b) c.as_slice-3.ensures) c.if-job-proc.false
            (c.equal_bodies.ensures.0 c.if-not-equal_bodies.false)
            (sym c.as_slice.ensures ∙ rest.0 ∙ sym (ap (λ (z : SourceParts). z.types) c.self.view_is))
            (rest.1 ∙ sym (ap (λ (z : SourceParts). z.limits) c.self.view_is))
            (sym c.as_slice-2.ensures ∙ rest.2 ∙ sym (ap (λ (z : SourceParts). z.kinds) c.self.view_is))
            (subst (λ z. AreCallees (source_work s kept) (tables_at parts) f z) c.as_slice-4.ensures (exact.0 e)),
        c.if-job-ticket.false,
      ),
      λ h. exact.1 (subst (λ z. AreCallees (source_work s kept) (tables_at parts) f z) (sym c.as_slice-4.ensures) (callees_of_job (source_work s kept) (tables_at parts) f j h.0)),
    ))
