use Rattle.std.proofs.Common.{◌≡◌, ℕ, List, [], ◌∷◌, ◌++◌, subst, ◌∙◌}
use Rattle.px_callgraph.specs.JobTree.{job_tree}
use Rattle.px_spelling.specs.Lists.{list_bytes}
use Rattle.px_spelling.specs.Polynomials.{polynomial_bytes}
use Rattle.px_spelling.specs.ByPlace.{by_place}
use Rattle.px_spelling.proofs.Nine.{put_more}
use Rattle.px_wire.specs.Jobs.{job_bytes}
use Rattle.px_wire.specs.Mentions.{terms_of}
use Rattle.px_wire.specs.Messages.{request}
use Rattle.px_wire.proofs.encoding.write_shared_request.Goals as goal

pub returns-clause-written : goal.returns-clause-written
returns-clause-written g c =
    let w = g.O.Output.written in
    let j = job_tree c.args.job.now in
    let head : List ℕ = 0 ∷ 2 ∷ [] in
    let ts = terms_of (request j) in
    let listed = subst (λ xs. w c.write_items.new.out ≡ w c.write_head.new.out ++ list_bytes polynomial_bytes xs) (c.as_slice.ensures.same ∙ c.requires) c.write_items.ensures.written in
    let fields = subst (λ xs. w c.write_job.new.out ≡ w c.write_items.new.out ++ job_bytes (by_place xs) j) c.requires c.write_job.ensures.written in
    put_more (w c.args.out.now) (head ++ list_bytes polynomial_bytes ts) (w c.write_items.new.out) (w c.write_job.new.out) (job_bytes (by_place ts) j)
    (put_more (w c.args.out.now) head (w c.write_head.new.out) (w c.write_items.new.out) (list_bytes polynomial_bytes ts) c.write_head.ensures.written listed) fields
