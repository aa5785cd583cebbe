use Rattle.std.proofs.Common.{◌≡◌, ◌++◌, subst}
use Rattle.px_core.specs.BodyTree.{body_tree}
use Rattle.px_spelling.specs.Numbers.{u8_bytes, u64_bytes}
use Rattle.px_spelling.specs.Lists.{list_bytes}
use Rattle.px_spelling.specs.Traces.{proc_id_bytes}
use Rattle.px_spelling.specs.Types.{block_type_bytes}
use Rattle.px_body_spelling.specs.Bodies.{body_bytes}
use Rattle.px_wire.specs.Jobs.{limits_bytes, known_bytes}
use Rattle.px_spelling.proofs.Nine.{put_more}
use Rattle.px_wire.proofs.encoding.write_job.Goals as goal

pub returns-clause-written : goal.returns-clause-written
returns-clause-written g c =
    let w = g.O.Output.written in
    let p = g.S.Terms.spelling c.args.terms.now in
    let j = c.args.job.now in
    let before = w c.args.out.now in
    let proc = proc_id_bytes j.proc in
    let body = body_bytes (body_tree j.body) in
    let types = list_bytes block_type_bytes j.types in
    let callees = list_bytes (known_bytes p) j.callees in
    let limits = limits_bytes j.limits in
    let kinds = list_bytes u8_bytes j.kinds in
    let put_types = subst (λ xs. w c.write_items.new.out ≡ w c.write_body.new.out ++ list_bytes block_type_bytes xs) c.as_slice.ensures c.write_items.ensures.written in
    let put_callees = subst (λ xs. w c.write_items_with.new.out ≡ w c.write_items.new.out ++ list_bytes (known_bytes p) xs) c.as_slice-2.ensures c.write_items_with.ensures.written in
    let put_kinds = subst (λ xs. w c.write_items-2.new.out ≡ w c.write_limits.new.out ++ list_bytes u8_bytes xs) c.as_slice-3.ensures c.write_items-2.ensures.written in
    put_more before (proc ++ body ++ types ++ callees ++ limits ++ kinds) (w c.write_items-2.new.out) (w c.write-2.new.out) (u64_bytes j.ticket)
    (put_more before (proc ++ body ++ types ++ callees ++ limits) (w c.write_limits.new.out) (w c.write_items-2.new.out) kinds
    (put_more before (proc ++ body ++ types ++ callees) (w c.write_items_with.new.out) (w c.write_limits.new.out) limits
    (put_more before (proc ++ body ++ types) (w c.write_items.new.out) (w c.write_items_with.new.out) callees
    (put_more before (proc ++ body) (w c.write_body.new.out) (w c.write_items.new.out) types
    (put_more before proc (w c.write.new.out) (w c.write_body.new.out) body
    c.write.ensures.written c.write_body.ensures.written) put_types) put_callees) c.write_limits.ensures.written) put_kinds) c.write-2.ensures.written
