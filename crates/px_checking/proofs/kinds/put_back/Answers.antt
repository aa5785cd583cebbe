use Rattle.std.proofs.Common.{[], rules}
use Rattle.std.proofs.lemmas.List.Sorted.{IsNonDecreasingBy-from_sort_by_key, All-permutation}
use Rattle.px_checking.specs.Kinds.{rank_of}
use Rattle.px_checking.proofs.KindPlaces.{stand_back}
use Rattle.px_checking.proofs.kinds.put_back.Goals as goal

pub returns-clause-stand : goal.returns-clause-stand
returns-clause-stand g c kinds own are same =
    let sort = c.sort_unstable_by_key in
    stand_back (λ b. (goal.Domain-dyn g (b.vtable, b.value)).number b.value) kinds c.args.places own are _ sort.new.self.items same sort.ensures.permutation
    (IsNonDecreasingBy-from_sort_by_key (λ b. rank_of c.args.places ((goal.Domain-dyn g (b.vtable, b.value)).number b.value)) sort.new.self.items sort.ensures.sorted (λ a r q k. search rules))

pub returns-clause-clear : goal.returns-clause-clear
returns-clause-clear g c all =
    let sort = c.sort_unstable_by_key in
    All-permutation (λ b. (goal.Domain-dyn g (b.vtable, b.value)).holds b.value []) c.args.domains.now.items sort.new.self.items sort.ensures.permutation all
