use Rattle.book_cases.proofs.CallLemmas.{callees_below}
use Rattle.book_cases.proofs.programs.graph.Goals as goal

pub new-requires-clause-names : goal.new-requires-clause-names
new-requires-clause-names c = callees_below c.names-names.result c.args.bodies.now (let e = c.are_of_calls.ensures in let b = c.if-not-are_of_calls in cc)
