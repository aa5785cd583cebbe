use Rattle.std.proofs.Common.{ℕ, List, subst, sym, get_or, take}
use Rattle.std.proofs.lemmas.List.{take_more}
use Rattle.px_callgraph.specs.Working.{GainsFrom}
use Rattle.px_callgraph.proofs.Gaining.{gains_from_more}
use Rattle.px_callgraph.proofs.edges.add_sources.Goals as goal

pub loop-source-preserved : goal.loop-source-preserved
loop-source-preserved c =
    let i : ℕ = c.loop-source.source-index in
    let xs : List ℕ = c.args.sources.now in
    record {
      gains = subst (λ (zs : List ℕ). GainsFrom c.args.graph.now zs c.args.to c.add_once.new.graph) (sym (take_more xs i 0 c.loop-source-test.true))
          (gains_from_more c.args.graph.now c.loop-source.graph c.add_once.new.graph (take i xs) (get_or xs i 0) c.args.to c.loop-source.invariant.gains c.in_ok-add_once.ensures.gains);
      rising = c.in_ok-add_once.ensures.rising;
    }
