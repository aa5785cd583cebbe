use Rattle.std.proofs.Common.{◌≡◌, map, take}
use Rattle.std.specs.Prelude.{cond}
use Rattle.px_cnf.specs.Clauses.{negated}
use Rattle.px_cnf.proofs.requiring.signs.Given as goal

abbrev pub invariant-loop-i : goal.invariant-loop-i
invariant-loop-i l = l.all.items ≡ map (λ m. cond l.positive m (negated m)) (take l.i l.word)
