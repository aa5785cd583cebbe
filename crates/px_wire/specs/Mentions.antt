-- The polynomials of messages, in the order in which they are spelled.
use Rattle.std.specs.Prelude.{List, []}
use Rattle.std.specs.List.{flat_map}
use Rattle.px_terms.specs.Polynomials.{Polynomial}
use Rattle.px_callgraph.specs.JobTree.{JobTree}
use Rattle.px_spelling.specs.ByPlace.{distinct}
use Rattle.px_spelling.specs.Mentions.{callee_mentions, table_mentions}
use Rattle.px_wire.specs.Messages.{MessageTree, request, reply, large}

abbrev pub job_mentions : JobTree → List Polynomial
job_mentions j = flat_map (λ c. callee_mentions c.1) j.callees

abbrev pub mentions : MessageTree → List Polynomial
mentions (request j) = job_mentions j
mentions (reply ticket kinds table derivations) = table_mentions table
mentions (large ticket) = []

-- the terms of a message: the polynomials that it mentions, each once, in the order of their first mentions
abbrev pub terms_of : MessageTree → List Polynomial
terms_of m = distinct (mentions m)
