use Rattle.std.proofs.Common.{◌<◌, length, sym, ap, subst, ◌∙◌, arith}
use Rattle.std.specs.Prelude.{All}
use Rattle.std.proofs.lemmas.Slice.Zip.{AllZip-long}
use Rattle.px_solver.specs.Tables.{HasHome, AreNext, AreFirst}
use Rattle.px_solver.proofs.TouchLemmas.{homes_inside, node_homes_inside}
use Rattle.px_solver.proofs.layout.layout_of.Goals as goal

pub chains_of-requires-clause-few : goal.chains_of-requires-clause-few
chains_of-requires-clause-few c =
    let k = c.in_ok-components.ensures in
    let e = AllZip-long (HasHome c.args.table.now c.in_ok-components.components.joined.items) c.args.conjuncts.now c.in_ok-components.components.homes.conjuncts.items k.homes in
    let f = ap length c.deref.ensures.value in
    let g = c.requires.few in
    omega arith

pub chains_of-requires-clause-homes : goal.chains_of-requires-clause-homes
chains_of-requires-clause-homes c =
    let k = c.in_ok-components.ensures in
    subst (All (λ h. h < length c.args.table.now)) (sym c.deref.ensures.value)
    (homes_inside c.args.table.now c.in_ok-components.components.joined.items c.args.conjuncts.now c.in_ok-components.components.homes.conjuncts.items c.requires.some c.requires.forest k.joins.forest k.joins.size c.requires.inside k.homes)

pub chains_of-requires-2-clause-homes : goal.chains_of-requires-2-clause-homes
chains_of-requires-2-clause-homes c =
    let k = c.in_ok-components.ensures in
    subst (All (λ h. h < length c.args.table.now)) (sym c.deref-2.ensures.value)
    (node_homes_inside c.args.table.now c.in_ok-components.components.joined.items c.in_ok-components.components.homes.nodes.items c.requires.some k.joins.forest k.joins.size k.members)

pub hard_homes-requires-clause-size : goal.hard_homes-requires-clause-size
hard_homes-requires-clause-size c =
    let k = c.in_ok-components.ensures in
    ap length c.deref-3.ensures.value ∙ AllZip-long (HasHome c.args.table.now c.in_ok-components.components.joined.items) c.args.conjuncts.now c.in_ok-components.components.homes.conjuncts.items k.homes

pub hard_homes-requires-clause-homes : goal.hard_homes-requires-clause-homes
hard_homes-requires-clause-homes c =
    let k = c.in_ok-components.ensures in
    subst (All (λ h. h < length c.args.table.now)) (sym c.deref-3.ensures.value)
    (homes_inside c.args.table.now c.in_ok-components.components.joined.items c.args.conjuncts.now c.in_ok-components.components.homes.conjuncts.items c.requires.some c.requires.forest k.joins.forest k.joins.size c.requires.inside k.homes)

pub returns-clause-layout : goal.returns-clause-layout
returns-clause-layout c =
    let k = c.in_ok-components.ensures in
    record {
      size = AllZip-long (HasHome c.args.table.now c.in_ok-components.components.joined.items) c.args.conjuncts.now c.in_ok-components.components.homes.conjuncts.items k.homes;
      next = subst (λ z. AreNext z 0 c.in_ok-places.places.next.items) c.deref.ensures.value c.in_ok-places.ensures.next;
      first = subst (λ z. AreFirst z 0 (length c.args.table.now) c.in_ok-places.places.first.items) c.deref.ensures.value c.in_ok-places.ensures.first;
      node_size = k.members.size;
      node_next = subst (λ z. AreNext z 0 c.in_ok-nodes.nodes.next.items) c.deref-2.ensures.value c.in_ok-nodes.ensures.next;
      node_first = subst (λ z. AreFirst z 0 (length c.args.table.now) c.in_ok-nodes.nodes.first.items) c.deref-2.ensures.value c.in_ok-nodes.ensures.first;
      hard = c.in_ok-hard.ensures.size;
    }
