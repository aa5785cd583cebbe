use Rattle.std.proofs.Common.{◌≡◌, drop}
use Rattle.px_terms.specs.Substitutions.{content_for}
use Rattle.px_match.proofs.words.find.Given as goal

abbrev pub invariant-loop-pair : goal.invariant-loop-pair
invariant-loop-pair l = content_for (drop l.pair-index l.substitution) l.x ≡ content_for l.substitution l.x
