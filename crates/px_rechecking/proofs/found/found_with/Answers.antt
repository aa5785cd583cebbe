use Rattle.std.proofs.Common.{ℕ, map, sym, subst}
use Rattle.std.proofs.lemmas.Result.{IfOk-weaker}
use Rattle.px_syntax.specs.ProgramTree.{program_tree}
use Rattle.px_jobs.specs.Sources.{SourceParts, source_work}
use Rattle.px_pooled.specs.declared.parts.Parts.{Parts}
use Rattle.px_pooled.specs.Making.{ArePartsOf, sources_in}
use Rattle.px_pooled.proofs.OwnLemmas.{new_own}
use Rattle.px_keep.specs.Reused.{IsReused}
use Rattle.px_rechecking.proofs.FoundLemmas.{reused_same}
use Rattle.px_rechecking.proofs.found.found_with.Goals as goal

pub returns-clause-reused : goal.returns-clause-reused
returns-clause-reused g c =
    let P = program_tree c.args.program.now in
    let p : Parts = c.in_ok-desk.field-0 in
    let s : SourceParts = sources_in p in
    let kinds = map (λ b. (goal.Domain-dyn g (b.vtable, b.value)).number b.value) c.args.domains.now.items in
    let are = subst (λ ds. ArePartsOf P c.args.limits (map (λ b. (goal.Domain-dyn g (b.vtable, b.value)).number b.value) ds) p) c.deref.ensures.value c.in_ok-desk.ensures in
    IfOk-weaker c.reuse.result _ _ (λ r h.
    reused_same P c.args.limits kinds s p.desk.graph (new_own P c.args.limits kinds p are) c.args.items.now r.findings r.used (subst (λ (k : ℕ). IsReused (source_work s k) c.args.items.now r.findings r.used) (sym are.many_graph) h)) c.reuse.ensures.reused
