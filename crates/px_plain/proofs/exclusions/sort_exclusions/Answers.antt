use Rattle.std.proofs.Common.{rules}
use Rattle.std.proofs.lemmas.List.Sorted.{IsNonDecreasingBy-from_sort_by_key}
use Rattle.px_plain.specs.declared.nodes.Exclusion.{Exclusion}
use Rattle.px_plain.proofs.exclusions.sort_exclusions.Goals as goal

pub returns-clause-rising : goal.returns-clause-rising
returns-clause-rising c = λ i j. IsNonDecreasingBy-from_sort_by_key (λ (e : Exclusion). e.high) c.sort_unstable_by_key.new.self.items c.sort_unstable_by_key.ensures.sorted (λ a r q k. search rules) i j (record { high = 0; low = 0; above = 0 })
