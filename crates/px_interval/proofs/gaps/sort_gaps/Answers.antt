use Rattle.std.proofs.Common.{rules, ◌+◌, ◌*◌, ◌^◌}
use Rattle.std.proofs.lemmas.List.Sorted.{IsNonDecreasingBy-from_sort_by_key}
use Rattle.px_interval.specs.declared.gaps.Gap.{Gap}
use Rattle.px_interval.proofs.gaps.sort_gaps.Goals as goal

pub returns-clause-order : goal.returns-clause-order
returns-clause-order c = λ i j. IsNonDecreasingBy-from_sort_by_key (λ (g : Gap). g.variable * 2 ^ 32 + g.low) c.sort_unstable_by_key.new.self.items c.sort_unstable_by_key.ensures.sorted (λ a r q k. search rules) i j (record { variable = 0; low = 0; end = 0 })
