use Rattle.std.proofs.Common.{List, sym, subst}
use Rattle.px_callgraph.specs.JobTree.{job_tree}
use Rattle.px_symexec.specs.One.{IsJob}
use Rattle.px_pieces.specs.declared.findings.Part.{Part}
use Rattle.px_pieces.specs.declared.findings.Part.TheVariants.{Tabled}
use Rattle.px_jobs.specs.Plans.{tables_at}
use Rattle.px_jobs.specs.Sources.{source_work}
use Rattle.px_keep.specs.Keeping.{IsOwn}
use Rattle.px_keep.specs.Making.{HaveTables}
use Rattle.px_keep.proofs.MakingLemmas.{made_at}
use Rattle.px_keep.proofs.KeepLemmas.{keeps_at}
use Rattle.px_keep.proofs.keeping.keep_part.Goals as goal

pub job_at-requires-clause-before : goal.job_at-requires-clause-before
job_at-requires-clause-before g c = subst (λ (ps : List Part). HaveTables c.args.order.now ps c.args.place) (sym c.deref.ensures.value) c.requires.made.done

pub returns-clause-made : goal.returns-clause-made
returns-clause-made g c =
    let w = source_work c.args.sources.now c.args.kept in
    let j = job_tree c.in_ok-job.job in
    let job = subst (λ (ps : List Part). IsJob w (tables_at ps) c.in_ok-job.job.proc.0 j) c.deref.ensures.value c.in_ok-job.ensures.job in
    let found = c.in_ok-found.found in
    made_at IsOwn w c.args.order.now c.args.progress.now.parts.items c.put.new.progress.parts.items c.args.progress.now.uses.items c.put.new.progress.uses.items c.args.place c.in_ok-job.job.proc.0
    (Tabled found.checked found.drops) found.used c.requires.order.ordered c.requires.place c.requires.made c.in_ok-job.ensures.turn
    (j, job, c.in_ok-found.ensures.own) c.put.ensures.parts c.put.ensures.uses

pub returns-clause-keeps : goal.returns-clause-keeps
returns-clause-keeps g c =
    let w = source_work c.args.sources.now c.args.kept in
    let j = job_tree c.in_ok-job.job in
    let job = subst (λ (ps : List Part). IsJob w (tables_at ps) c.in_ok-job.job.proc.0 j) c.deref.ensures.value c.in_ok-job.ensures.job in
    let found = c.in_ok-found.found in
    keeps_at w c.args.order.now c.args.progress.now.parts.items c.put.new.progress.parts.items c.args.progress.now.uses.items c.args.bytes.now.items c.written.new.bytes.items c.args.place c.in_ok-job.job.proc.0
    found.used found.checked found.drops j c.requires.order.ordered c.requires.place c.requires.made c.requires.keeps c.in_ok-job.ensures.turn job c.in_ok-job.ensures.ticket
    c.in_ok-found.ensures.own c.in_ok-found.ensures.written c.put.ensures.parts
