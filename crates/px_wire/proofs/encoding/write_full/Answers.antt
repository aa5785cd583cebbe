use Rattle.px_spelling.specs.Polynomials.{in_full}
use Rattle.px_wire.specs.Messages.{said_tree, tag_of, fields_bytes}
use Rattle.px_wire.proofs.Put.{put_version}
use Rattle.px_wire.proofs.encoding.write_full.Goals as goal

pub returns-clause-written : goal.returns-clause-written
returns-clause-written g c =
    let w = g.O.Output.written in
    let m = said_tree c.args.said.now in
    put_version (w c.args.out.now) (w c.write_head.new.out) (w c.write_fields.new.out) (fields_bytes in_full m) c.tag.result (tag_of m) 1 c.tag.ensures c.write_head.ensures.written c.write_fields.ensures.written
