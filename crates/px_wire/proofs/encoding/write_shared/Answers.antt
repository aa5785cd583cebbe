use Rattle.std.proofs.Common.{◌≡◌, ◌++◌, subst}
use Rattle.px_spelling.specs.ByPlace.{by_place}
use Rattle.px_spelling.proofs.Nine.{put_more}
use Rattle.px_wire.specs.Mentions.{terms_of}
use Rattle.px_wire.specs.Messages.{said_tree, tag_of, fields_bytes}
use Rattle.px_wire.specs.Versions.{terms_bytes}
use Rattle.px_wire.proofs.Put.{put_version}
use Rattle.px_wire.proofs.encoding.write_shared.Goals as goal

pub returns-clause-written : goal.returns-clause-written
returns-clause-written g c =
    let w = g.O.Output.written in
    let m = said_tree c.args.said.now in
    let fields = subst (λ ts. w c.write_fields.new.out ≡ w c.write_list.new.out ++ fields_bytes (by_place ts) m) c.requires c.write_fields.ensures.written in
    put_version (w c.args.out.now) (w c.write_head.new.out) (w c.write_fields.new.out) (terms_bytes m ++ fields_bytes (by_place (terms_of m)) m) c.tag.result (tag_of m) 2 c.tag.ensures c.write_head.ensures.written
    (put_more (w c.write_head.new.out) (terms_bytes m) (w c.write_list.new.out) (w c.write_fields.new.out) (fields_bytes (by_place (terms_of m)) m) c.write_list.ensures.written fields)
