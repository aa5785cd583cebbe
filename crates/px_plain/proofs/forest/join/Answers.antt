use Rattle.std.proofs.Common.{rules, refl}
use Rattle.px_plain.proofs.Sums.{same_root, lower_from, lower_to}
use Rattle.px_plain.proofs.forest.join.Goals as goal

pub returns-then-a-b-clause-new : goal.returns-then-a-b-clause-new
returns-then-a-b-clause-new c = λ val h k.
    let ha = c.find-a.ensures.same.there val h in
    let hb = c.find-b.ensures.same.there val ha in (
      same_root val c.args.from c.args.to c.find-a.result.parent c.find-b.result.parent c.find-a.result.offset c.find-b.result.offset c.args.plus
          c.if-a-b.true (search rules) (c.find-a.ensures.above val ha) (c.find-b.ensures.above val hb) k,
      hb,
    )

pub returns-then-a-b-2-clause-new : goal.returns-then-a-b-2-clause-new
returns-then-a-b-2-clause-new c = λ val h k.
    let ha = c.find-a.ensures.same.there val h in
    let hb = c.find-b.ensures.same.there val ha in (
      refl,
      c.put_below.ensures.new val hb (lower_from val c.args.from c.args.to c.find-a.result.parent c.find-b.result.parent c.find-a.result.offset c.find-b.result.offset c.args.plus
          (search rules) (c.find-a.ensures.above val ha) (c.find-b.ensures.above val hb) k),
    )

pub returns-else-a-b-2-clause-new : goal.returns-else-a-b-2-clause-new
returns-else-a-b-2-clause-new c = λ val h k.
    let ha = c.find-a.ensures.same.there val h in
    let hb = c.find-b.ensures.same.there val ha in (
      refl,
      c.put_below-else-a-b-2.ensures.new val hb (lower_to val c.args.from c.args.to c.find-a.result.parent c.find-b.result.parent c.find-a.result.offset c.find-b.result.offset c.args.plus
          (c.find-a.ensures.above val ha) (c.find-b.ensures.above val hb) k),
    )
