use Rattle.std.proofs.Common.{◌++◌}
use Rattle.px_spelling.specs.Numbers.{u8_bytes, u64_bytes}
use Rattle.px_spelling.specs.Lists.{list_bytes}
use Rattle.px_spelling.specs.Tables.{table_bytes}
use Rattle.px_spelling.specs.Derivations.{derivation_bytes}
use Rattle.px_spelling.proofs.Nine.{put_more}
use Rattle.px_wire.proofs.encoding.write_reply.Goals as goal

pub returns-clause-written : goal.returns-clause-written
returns-clause-written g c =
    let w = g.O.Output.written in
    let p = g.S.Terms.spelling c.args.terms.now in
    let before = w c.args.out.now in
    let ticket = u64_bytes c.args.ticket in
    let kinds = list_bytes u8_bytes c.args.kinds.now in
    let table = table_bytes p c.args.table.now in
    let derivations = list_bytes derivation_bytes c.args.derivations.now in
    put_more before (ticket ++ kinds ++ table) (w c.write_with.new.out) (w c.write_items-2.new.out) derivations
    (put_more before (ticket ++ kinds) (w c.write_items.new.out) (w c.write_with.new.out) table
    (put_more before ticket (w c.write.new.out) (w c.write_items.new.out) kinds c.write.ensures.written c.write_items.ensures.written) c.write_with.ensures.written) c.write_items-2.ensures.written
