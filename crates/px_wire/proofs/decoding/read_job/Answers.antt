use Rattle.std.proofs.Common.{◌≡◌, ◌++◌, sym, subst}
use Rattle.px_base.specs.LimitNumbers.{IsInRange}
use Rattle.px_core.specs.BodyTree.{body_tree}
use Rattle.px_spelling.specs.Numbers.{u8_bytes, u64_bytes}
use Rattle.px_spelling.specs.Lists.{list_bytes}
use Rattle.px_spelling.specs.Traces.{proc_id_bytes}
use Rattle.px_spelling.specs.Types.{block_type_bytes}
use Rattle.px_body_spelling.specs.Bodies.{body_bytes}
use Rattle.px_wire.specs.Jobs.{limits_bytes, known_bytes}
use Rattle.px_wire.proofs.Put.{seven}
use Rattle.px_wire.proofs.decoding.read_job.Goals as goal

pub returns-clause-spelled : goal.returns-clause-spelled
returns-clause-spelled g c =
    let p = g.S.Terms.spelling c.args.terms.now in
    let proc = c.in_ok-proc.ensures.spelled in
    let body = c.in_ok-body.ensures.spelled in
    let types = c.in_ok-types.ensures.spelled in
    let callees = c.in_ok-callees.ensures.spelled in
    let same = sym c.in_ok-limits.ensures.0 in
    let numbers = subst (λ l. c.in_ok-callees.rest.now ≡ limits_bytes l ++ c.in_ok-numbers.rest.now) same c.in_ok-numbers.ensures.spelled in
    let kinds = c.in_ok-kinds.ensures.spelled in
    let ticket = c.in_ok-ticket.ensures.spelled in (
      seven c.args.bytes.now
          (proc_id_bytes c.in_ok-proc.proc) c.in_ok-proc.rest.now
          (body_bytes (body_tree c.in_ok-body.body)) c.in_ok-body.rest.now
          (list_bytes block_type_bytes c.in_ok-types.types) c.in_ok-types.rest.now
          (list_bytes (known_bytes p) c.in_ok-callees.callees) c.in_ok-callees.rest.now
          (limits_bytes c.in_ok-limits.limits) c.in_ok-numbers.rest.now
          (list_bytes u8_bytes c.in_ok-kinds.kinds) c.in_ok-kinds.rest.now
          (u64_bytes c.in_ok-ticket.ticket) c.in_ok-ticket.rest.now
          proc.0 body.0 types.0 callees.0 numbers kinds.0 ticket.0,
      (proc.1, body.1, types.1, callees.1, subst IsInRange same c.in_ok-limits.ensures.2, kinds.1, ticket.1),
    )
