use Rattle.std.proofs.Common.{refl}
use Rattle.px_wire.specs.Versions.{message_tree}
use Rattle.px_wire.proofs.Listed.{begins_listed}
use Rattle.px_wire.proofs.decoding.read_listed.Goals as goal

pub returns-clause-spelled : goal.returns-clause-spelled
returns-clause-spelled c =
    let m = c.in_ok-message.message in
    let list = c.in_ok-all.ensures.spelled in
    let fields = c.in_ok-message.ensures.spelled in
    begins_listed c.args.tag m.version c.args.bytes.now c.in_ok-all.rest.now c.in_ok-message.rest.now c.in_ok-all.all c.in_ok-all.all (message_tree m) c.requires list.0 list.1 refl fields.0 fields.1 fields.2
