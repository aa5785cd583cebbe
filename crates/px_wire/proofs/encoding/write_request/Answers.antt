use Rattle.std.proofs.Common.{ℕ, List, [], ◌∷◌}
use Rattle.px_callgraph.specs.JobTree.{job_tree}
use Rattle.px_spelling.specs.Polynomials.{in_full}
use Rattle.px_wire.specs.Jobs.{job_bytes}
use Rattle.px_spelling.proofs.Nine.{put_more}
use Rattle.px_wire.proofs.encoding.write_request.Goals as goal

pub returns-clause-written : goal.returns-clause-written
returns-clause-written g c =
    let w = g.O.Output.written in
    let head : List ℕ = 0 ∷ 1 ∷ [] in
    put_more (w c.args.out.now) head (w c.write_head.new.out) (w c.write_job.new.out) (job_bytes in_full (job_tree c.args.job.now)) c.write_head.ensures.written c.write_job.ensures.written
