use Rattle.std.proofs.Common.{◌++◌}
use Rattle.px_spelling.specs.Numbers.{u32_bytes}
use Rattle.px_spelling.proofs.Nine.{put_more}
use Rattle.px_spelling.proofs.traces.SiteWire.write.Goals as goal

pub returns-clause-written : goal.returns-clause-written
returns-clause-written g c =
    let w = g.O.Output.written in
    let s = c.args.self.now in
    let before = w c.args.out.now in
    put_more before (u32_bytes s.file ++ u32_bytes s.line) (w c.write-2.new.out) (w c.write-3.new.out) (u32_bytes s.column)
    (put_more before (u32_bytes s.file) (w c.write.new.out) (w c.write-2.new.out) (u32_bytes s.line) c.write.ensures.written c.write-2.ensures.written) c.write-3.ensures.written
