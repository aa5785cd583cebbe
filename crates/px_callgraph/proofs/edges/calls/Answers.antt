use Rattle.std.proofs.Common.{refl, ◌∙◌, arith}
use Rattle.std.proofs.lemmas.Option.{slice_get_read}
use Rattle.px_callgraph.proofs.Calling.{callee_at, caller_inside, calls_more}
use Rattle.px_callgraph.proofs.edges.calls.Goals as goal

pub add_calls-requires-clause-names : goal.add_calls-requires-clause-names
add_calls-requires-clause-names c = λ g h.
    let l = c.requires.names c.loop-i.i g ((callee_at c.args.bodies.now c.loop-i.i g _ (slice_get_read _ _ _ _ refl c.loop-i-test.true c.index-bodies-i.is)).1 h) in
    let s = c.loop-i.invariant.size in
    omega arith

pub loop-i-preserved : goal.loop-i-preserved
loop-i-preserved c = record {
  size = c.in_ok-add_calls.ensures.size ∙ c.loop-i.invariant.size;
  edges = calls_more c.args.bodies.now c.loop-i.i c.index-bodies-i.result c.loop-i.graph c.add_calls.new.graph (slice_get_read _ _ _ _ refl c.loop-i-test.true c.index-bodies-i.is) c.loop-i.invariant.edges c.in_ok-add_calls.ensures;
}

pub returns-clause-edges : goal.returns-clause-edges
returns-clause-edges c = λ x y.
    let h = c.loop-i.invariant.edges x y in
    let f = c.loop-i-test.false in (
      λ e. (h.0 e).1,
      λ k. let l = caller_inside c.args.bodies.now x y k in h.1 (omega arith, k),
    )
