use Rattle.std.proofs.Common.{◌++◌, ◌+◌, ◌∙◌, ap, drop}
use Rattle.px_terms.specs.declared.types.ValueType.TheVariants.{Int}
use Rattle.px_callgraph.specs.Accesses.{cell_contents}
use Rattle.px_ways.proofs.AtomLemmas.{next_cell}
use Rattle.px_ways.proofs.meetings.cell_contents.Goals as goal

pub loop-i-preserved : goal.loop-i-preserved
loop-i-preserved c =
    let a = c.args in
    ap (λ z. z ++ cell_contents (a.first + (c.loop-i.i + 1)) (drop (c.loop-i.i + 1) a.cells.now)) c.in_ok-push.ensures.added
    ∙ next_cell a.first c.loop-i.i a.cells.now Int c.loop-i.contents (cell_contents a.first a.cells.now) c.loop-i-test.true c.loop-i.invariant
