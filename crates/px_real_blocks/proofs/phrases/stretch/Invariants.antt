use Rattle.std.proofs.Common.{◌≤◌, ◌-◌, length}
use Rattle.px_real_symbols.specs.Symbols.{seen}
use Rattle.px_real_blocks.specs.Turns.{outside_of}
use Rattle.px_real_blocks.proofs.PhraseLemmas.{PhraseSoFar}
use Rattle.px_real_blocks.proofs.phrases.stretch.Given as goal

abbrev pub invariant-loop-at : goal.invariant-loop-at
invariant-loop-at l = record {
  counted : l.choices ≤ l.at;
  within : l.start ≤ l.at;
  so_far : PhraseSoFar (outside_of l.commas) (seen l.on) l.start l.at l.choices;
}

abbrev pub decreases-loop-at : goal.decreases-loop-at
decreases-loop-at l = length (seen l.on) - l.at
