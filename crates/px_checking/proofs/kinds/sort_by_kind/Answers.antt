use Rattle.std.proofs.Common.{[], rules}
use Rattle.std.proofs.lemmas.List.Sorted.{IsNonDecreasingBy-from_sort_by_key, All-permutation}
use Rattle.px_checking.proofs.KindLemmas.{rising_of}
use Rattle.px_checking.proofs.kinds.sort_by_kind.Goals as goal

pub returns-clause-rising : goal.returns-clause-rising
returns-clause-rising g c =
    let sort = c.sort_unstable_by_key in
    rising_of (λ b. (goal.Domain-dyn g (b.vtable, b.value)).number b.value) c.args.domains.now.items sort.new.self.items sort.ensures.permutation
    (IsNonDecreasingBy-from_sort_by_key (λ b. (goal.Domain-dyn g (b.vtable, b.value)).number b.value) sort.new.self.items sort.ensures.sorted (λ a r q k. search rules))

pub returns-clause-clear : goal.returns-clause-clear
returns-clause-clear g c all =
    let sort = c.sort_unstable_by_key in
    All-permutation (λ b. (goal.Domain-dyn g (b.vtable, b.value)).holds b.value []) c.args.domains.now.items sort.new.self.items sort.ensures.permutation all
