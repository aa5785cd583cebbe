use Rattle.std.proofs.Common.{get_or}
use Rattle.px_solver.proofs.EndLemmas.{solved_by_ends}
use Rattle.px_solver.proofs.solving.is_solved_by_ends.Goals as goal

pub returns-then-members-eq1-clause-yes : goal.returns-then-members-eq1-clause-yes
returns-then-members-eq1-clause-yes c = λ e.
    solved_by_ends c.args.table.now c.args.conjuncts.now c.args.indexes.now c.end_words.result (λ v. get_or c.args.roots.now v 0) c.args.members.now (λ v. get_or c.search.new.roots v 0)
    c.end_words.ensures c.if-members-eq1.true (c.search.ensures.found e)
