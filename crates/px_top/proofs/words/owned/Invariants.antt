use Rattle.std.proofs.Common.{◌≡◌, ◌++◌, drop, map}
use Rattle.px_base.specs.Texts.{texts}
use Rattle.px_top.proofs.words.owned.Given as goal

abbrev pub invariant-loop-word : goal.invariant-loop-word
invariant-loop-word l = texts l.owned.items ++ map (λ w. w.now) (drop l.word-index l.words) ≡ map (λ w. w.now) l.words
