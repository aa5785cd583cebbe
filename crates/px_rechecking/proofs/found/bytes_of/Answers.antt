use Rattle.std.proofs.Common.{ℕ, map, sym, subst}
use Rattle.std.proofs.lemmas.Result.{IfOk-weaker}
use Rattle.px_syntax.specs.ProgramTree.{program_tree}
use Rattle.px_jobs.specs.Sources.{SourceParts, source_work}
use Rattle.px_pooled.specs.declared.parts.Parts.{Parts}
use Rattle.px_pooled.specs.Making.{ArePartsOf, sources_in}
use Rattle.px_pooled.proofs.OwnLemmas.{new_own}
use Rattle.px_keep.specs.Keeping.{KeepsWork}
use Rattle.px_rechecking.proofs.FoundLemmas.{keeps_same}
use Rattle.px_rechecking.proofs.found.bytes_of.Goals as goal

pub returns-clause-keeps : goal.returns-clause-keeps
returns-clause-keeps g c =
    let P = program_tree c.args.program.now in
    let p : Parts = c.in_ok-desk.field-0 in
    let s : SourceParts = sources_in p in
    let kinds = map (λ b. (goal.Domain-dyn g (b.vtable, b.value)).number b.value) c.args.domains.now.items in
    let are = subst (λ ds. ArePartsOf P c.args.limits (map (λ b. (goal.Domain-dyn g (b.vtable, b.value)).number b.value) ds) p) c.deref.ensures.value c.in_ok-desk.ensures in
    IfOk-weaker c.keep.result _ _ (λ r h.
    keeps_same P c.args.limits kinds s p.desk.graph (new_own P c.args.limits kinds p are) r.items (subst (λ (k : ℕ). KeepsWork (source_work s k) r.items) (sym are.many_graph) h)) c.keep.ensures.keeps
