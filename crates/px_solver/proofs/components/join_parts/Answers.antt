use Rattle.std.proofs.Common.{◌<◌, length, map, sym, subst, ◌∙◌, ap}
use Rattle.std.specs.Prelude.{All}
use Rattle.std.specs.List.{AllZip}
use Rattle.px_plain.specs.Forest.{parent_at}
use Rattle.px_solver.specs.Tables.{HasHome}
use Rattle.px_solver.proofs.TouchLemmas.{firsts_inside, homes_from}
use Rattle.px_solver.proofs.components.join_parts.Goals as goal

pub homes_of-requires : goal.homes_of-requires
homes_of-requires c =
    let t = c.args.table.now in
    let h = firsts_inside t c.args.conjuncts.now c.in_ok-firsts.firsts.items c.requires.some c.requires.forest c.requires.inside c.in_ok-firsts.ensures.firsts in
    subst (λ n. All (λ u. u < n) c.deref.result.now) (sym (c.flatten.auto.table ∙ c.join_all_touched.auto.components ∙ c.requires.size))
    (subst (All (λ u. u < length t)) (sym c.deref.ensures.value) h)

pub returns-clause-homes : goal.returns-clause-homes
returns-clause-homes c =
    let t = c.args.table.now in
    let ct = c.flatten.new.table in
    let e = c.in_ok-conjuncts.ensures ∙ ap (map (parent_at ct)) c.deref.ensures.value in
    subst (AllZip (HasHome t ct) c.args.conjuncts.now) (sym e) (homes_from t ct c.args.conjuncts.now c.in_ok-firsts.firsts.items c.in_ok-firsts.ensures.firsts)
