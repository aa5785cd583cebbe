use Rattle.std.proofs.Common.{◌<◌, length, get_or, refl, sym, ap, ◌∙◌, subst, arith}
use Rattle.px_callgraph.specs.declared.jobs.Job.{Job}
use Rattle.px_callgraph.specs.JobTree.{job_tree}
use Rattle.px_callgraph.specs.CallGraphs.{bodies_in, IsGraphOf}
use Rattle.px_symexec.specs.One.{IsJob}
use Rattle.px_jobs.specs.Plans.{IsPlan, IsReady, tables_at}
use Rattle.px_jobs.specs.Sources.{SourceParts, source_work}
use Rattle.px_jobs.proofs.SourceLemmas.{plan_of, job_from}
use Rattle.px_jobs.proofs.sources.Sources.job.Goals as goal

pub returns-clause-job : goal.returns-clause-job
returns-clause-job c =
    let i = c.self.inside in
    let s : SourceParts = record { bodies = i.bodies; types = i.types; limits = i.limits; kinds = i.kinds; out = i.out } in
    let graph = c.args.graph.now in
    let parts = c.args.parts.now in
    let f = c.args.proc.0 in
    let kept = length graph in
    let b = c.index-as_slice-proc.result in
    let many = ap (λ (z : SourceParts). length z.bodies) c.self.view_is in
    let inside : f < length s.bodies = (let p = c.requires.proc in let q = c.requires.bodies in omega arith) in
    let j : Job = record {
      proc = c.args.proc;
      body = c.in_ok-copy_body.field-0;
      types = c.in_ok-copy.field-0;
      callees = c.in_ok-callees_of.field-0;
      limits = i.limits;
      kinds = c.in_ok-from_slice.field-0;
      ticket = c.args.ticket;
    } in
    subst (λ (z : SourceParts). IsGraphOf (bodies_in z.bodies) graph → IsReady (source_work z kept) parts f → IsJob (source_work z kept) (tables_at parts) f (job_tree j)) c.self.view_is
    (λ is ready.
    let plan : IsPlan (source_work s kept) graph c.deref.result.now = subst (λ z. IsPlan (source_work s kept) graph z) (sym c.deref.ensures.value) (plan_of s graph i.flags.items c.self.invariant is) in
    job_from s kept (tables_at parts) f j b inside (c.index-as_slice-proc.is ∙ ap (λ z. get_or z f b) c.as_slice.ensures) refl c.in_ok-copy_body.ensures c.in_ok-copy.ensures refl
    (c.in_ok-from_slice.ensures ∙ c.as_slice-2.ensures) (c.in_ok-callees_of.ensures (source_work s kept) plan ready))
