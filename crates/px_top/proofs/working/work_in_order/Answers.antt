use Rattle.std.proofs.Common.{map, sym, subst}
use Rattle.std.specs.List.Sorted.{IsPermutation}
use Rattle.px_top.proofs.working.work_in_order.Goals as goal

pub returns-clause-works : goal.returns-clause-works
returns-clause-works g c =
    (map (λ b. (goal.Domain-dyn g (b.vtable, b.value)).number b.value) c.sort_by_kind-places.new.domains.items, c.sort_by_kind-places.ensures.rising, c.work-ended.ensures.works)

pub returns-clause-kinds : goal.returns-clause-kinds
returns-clause-kinds g c =
    let kinds = map (λ b. (goal.Domain-dyn g (b.vtable, b.value)).number b.value) c.args.domains.now.items in
    c.put_back.ensures.stand kinds c.requires.own c.sort_by_kind-places.ensures.places (subst (IsPermutation kinds) (sym c.work-ended.ensures.kinds) c.sort_by_kind-places.ensures.rising.0)
