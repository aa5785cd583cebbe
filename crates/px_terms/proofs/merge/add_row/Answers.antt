use Rattle.std.proofs.Common.{arith, ◌∙◌}
use Rattle.px_terms.specs.Monomials.{term_of}
use Rattle.px_terms.proofs.RowLemmas.{row_step, row_end}
use Rattle.px_terms.proofs.merge.add_row.Goals as goal

pub loop-m-preserved : goal.loop-m-preserved
loop-m-preserved g c = record {
  within = c.in_ok-i.ensures.to;
  keeps = row_step (term_of c.args.s.now) c.args.b.now c.loop-m.m-index c.m-item.result (term_of c.times-next.result) _ _ _ _ c.loop-m-test.true c.m-item.is c.requires.right c.times-next.ensures c.in_ok-i.ensures.takes
      ∙ c.loop-m.invariant.keeps;
}

pub returns : goal.returns
returns g c =
    row_end (term_of c.args.s.now) c.args.a.now c.args.b.now c.loop-m.i c.loop-m.m-index c.loop-m.out.items _ c.requires.left (omega arith) c.in_ok-extend_from_slice.ensures.items
    ∙ c.loop-m.invariant.keeps
