use Rattle.std.proofs.Common.{List, map, sym, subst}
use Rattle.px_callgraph.specs.JobTree.{job_tree}
use Rattle.px_symexec.specs.One.{IsJob}
use Rattle.px_pieces.specs.declared.findings.Part.{Part}
use Rattle.px_pieces.specs.declared.findings.Part.TheVariants.{Tabled}
use Rattle.px_jobs.specs.Plans.{tables_at}
use Rattle.px_jobs.specs.Sources.{source_work}
use Rattle.px_keep.specs.Lent.{item_of}
use Rattle.px_keep.specs.Reused.{IsAnswer}
use Rattle.px_keep.specs.Making.{HaveTables}
use Rattle.px_keep.proofs.MakingLemmas.{made_at}
use Rattle.px_keep.proofs.reusing.make_part.Goals as goal

pub job_at-requires-clause-before : goal.job_at-requires-clause-before
job_at-requires-clause-before g c = subst (λ (ps : List Part). HaveTables c.args.order.now ps c.args.place) (sym c.deref.ensures.value) c.requires.made.done

pub returns-clause-made : goal.returns-clause-made
returns-clause-made g c =
    let w = source_work c.args.sources.now c.args.kept in
    let j = job_tree c.in_ok-job.job in
    let job = subst (λ (ps : List Part). IsJob w (tables_at ps) c.in_ok-job.job.proc.0 j) c.deref.ensures.value c.in_ok-job.ensures.job in
    let found = c.in_ok-found.found in
    made_at (IsAnswer (map item_of c.args.items.now)) w c.args.order.now c.args.progress.now.parts.items c.put.new.progress.parts.items c.args.progress.now.uses.items c.put.new.progress.uses.items c.args.place
    c.in_ok-job.job.proc.0 (Tabled found.checked found.drops) found.used c.requires.order.ordered c.requires.place c.requires.made c.in_ok-job.ensures.turn
    (j, job, c.in_ok-found.ensures.answer) c.put.ensures.parts c.put.ensures.uses
