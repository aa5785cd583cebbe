use Rattle.std.proofs.Common.{◌≡◌, ◌++◌, subst}
use Rattle.px_spelling.specs.Numbers.{u32_bytes}
use Rattle.px_spelling.proofs.Nine.{put_more}
use Rattle.px_wire.proofs.encoding.write_limits.Goals as goal

pub returns-clause-written : goal.returns-clause-written
returns-clause-written g c =
    let w = g.O.Output.written in
    let l = c.args.limits in
    let before = w c.args.out.now in
    let unroll = subst (λ n. w c.write.new.out ≡ before ++ u32_bytes n) c.unroll.ensures c.write.ensures.written in
    let paths = subst (λ n. w c.write-2.new.out ≡ w c.write.new.out ++ u32_bytes n) c.paths.ensures c.write-2.ensures.written in
    let nodes = subst (λ n. w c.write-3.new.out ≡ w c.write-2.new.out ++ u32_bytes n) c.nodes.ensures c.write-3.ensures.written in
    put_more before (u32_bytes l.unroll ++ u32_bytes l.paths) (w c.write-2.new.out) (w c.write-3.new.out) (u32_bytes l.nodes)
    (put_more before (u32_bytes l.unroll) (w c.write.new.out) (w c.write-2.new.out) (u32_bytes l.paths) unroll paths) nodes
