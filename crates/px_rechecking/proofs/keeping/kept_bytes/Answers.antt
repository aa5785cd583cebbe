use Rattle.std.proofs.Common.{map, sym, subst}
use Rattle.std.specs.List.Sorted.{IsPermutation}
use Rattle.px_loading.proofs.Loops.{if_ok}
use Rattle.px_rechecking.proofs.keeping.kept_bytes.Goals as goal

pub returns-clause-keeps : goal.returns-clause-keeps
returns-clause-keeps g c =
    if_ok c.bytes_of-bytes.result c.bytes_of-bytes.ensures.keeps
    (λ r h. record { kinds = map (λ b. (goal.Domain-dyn g (b.vtable, b.value)).number b.value) c.sort_by_kind-places.new.domains.items; rising = c.sort_by_kind-places.ensures.rising; keeps = h })

pub returns-clause-kinds : goal.returns-clause-kinds
returns-clause-kinds g c =
    let kinds = map (λ b. (goal.Domain-dyn g (b.vtable, b.value)).number b.value) c.args.domains.now.items in
    c.put_back.ensures.stand kinds c.requires.kinds c.sort_by_kind-places.ensures.places (subst (IsPermutation kinds) (sym c.bytes_of-bytes.ensures.kinds) c.sort_by_kind-places.ensures.rising.0)
