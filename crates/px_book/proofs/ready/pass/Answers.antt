use Rattle.std.proofs.Common.{true≢false, sym, ◌∙◌, arith}
use Rattle.px_book.proofs.ReadyLemmas.{stops_at, goes_on}
use Rattle.px_book.proofs.ready.pass.Goals as goal

pub returns-then-blocks-clause-past : goal.returns-then-blocks-clause-past
returns-then-blocks-clause-past c = λ bodies is before.
    stops_at c.args.graph.now c.args.statuses.now c.args.caller.0 c.callees-callees.result.now c.loop-place.place bodies c.callees-callees.ensures c.loop-place-test.true
    ((c.blocks-in-loop-place.ensures bodies is).0 c.if-blocks.true) (c.loop-place.invariant.none bodies is before)

pub loop-place-preserved : goal.loop-place-preserved
loop-place-preserved c = record {
  from = let a = c.loop-place.invariant.from in omega arith;
  none = λ bodies is before.
      goes_on c.args.graph.now c.args.statuses.now c.args.caller.0 c.callees-callees.result.now c.loop-place.place bodies c.callees-callees.ensures c.loop-place-test.true
      (λ b. true≢false (sym ((c.blocks-in-loop-place.ensures bodies is).1 b) ∙ c.if-blocks.false)) (c.loop-place.invariant.none bodies is before);
}
