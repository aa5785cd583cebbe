use Rattle.std.proofs.Common.{map, sym, subst}
use Rattle.std.specs.List.Sorted.{IsPermutation}
use Rattle.px_loading.proofs.Loops.{if_ok}
use Rattle.px_rechecking.proofs.KindLemmas.{kept_check_of}
use Rattle.px_rechecking.proofs.checking.check.Goals as goal

pub check_in_order-rendered-requires-clause-rising : goal.check_in_order-rendered-requires-clause-rising
check_in_order-rendered-requires-clause-rising g c = c.sort_by_kind-places.ensures.rising.1

pub returns-clause-check : goal.returns-clause-check
returns-clause-check g c =
    if_ok c.check_in_order-rendered.result c.check_in_order-rendered.ensures.check
    (λ r h. kept_check_of _ _ _ _ _ (map (λ b. (goal.Domain-dyn g (b.vtable, b.value)).number b.value) c.args.domains.now.items) _ _ _ _ _ c.sort_by_kind-places.ensures.rising h)

pub returns-clause-kinds : goal.returns-clause-kinds
returns-clause-kinds g c =
    let kinds = map (λ b. (goal.Domain-dyn g (b.vtable, b.value)).number b.value) c.args.domains.now.items in
    c.put_back.ensures.stand kinds c.requires.kinds c.sort_by_kind-places.ensures.places (subst (IsPermutation kinds) (sym c.check_in_order-rendered.ensures.kinds) c.sort_by_kind-places.ensures.rising.0)
