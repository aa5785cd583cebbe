use Rattle.std.proofs.Common.{vec_len}
use Rattle.px_cnf.proofs.TranslationLemmas.{Joins}
use Rattle.px_cnf.proofs.cnf.joined.Given as goal

abbrev pub invariant-loop-clause : goal.invariant-loop-clause
invariant-loop-clause l = Joins l.fn.clauses.items l.fn.more.items l.clauses.items l.more.items

abbrev pub decreases-loop-clause : goal.decreases-loop-clause
decreases-loop-clause l = vec_len l.more
