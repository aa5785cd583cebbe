use Rattle.std.proofs.Common.{◌∙◌, [], ap, length, refl, rules}
use Rattle.std.specs.Prelude.{option_to_list}
use Rattle.px_terms.specs.declared.conjuncts.Conj.TheVariants.{Unequal}
use Rattle.px_callgraph.specs.States.{begun, assumed, set_slot, goes}
use Rattle.px_match.specs.PathLimits.{passes_grown}
use Rattle.px_match.proofs.PathLimitLemmas.{none}
use Rattle.px_steps.proofs.PathLimitLemmas.{next_led, cut_led, assuming, assumed_grows}
use Rattle.px_steps.proofs.divide_acts.give_quotient.Goals as goal
use Rattle.px_ways.proofs.Additions.{assumed_by}

pub returns-in-Some : goal.returns-in-Some
returns-in-Some c =
    let a = c.args in
    let s = a.state.now in
    let n = length (option_to_list c.in_ok-added.added) in
    let u = set_slot a.to a.content (assumed (Unequal a.q.now) (begun s)) in
    let g = assumed_grows s u (Unequal a.q.now) c.in_ok-added.added 0 n [] goes c.in_ok-added.ensures refl (none (length s.trace)) refl refl refl refl refl in
    cut_led c.cut.result s (assuming 0 n) u [] c.in-Some.passed (c.in-Some.ensures.first ∙ ap (passes_grown s) c.assuming-growth.ensures) g c.cut.ensures

pub returns-in_ok-add_conjunct-in-None : goal.returns-in_ok-add_conjunct-in-None
returns-in_ok-add_conjunct-in-None c =
    let a = c.args in
    let s = a.state.now in
    let n = length (option_to_list c.in_ok-added.added) in
    let u = set_slot a.to a.content (assumed (Unequal a.q.now) (begun s)) in
    let g = assumed_grows s u (Unequal a.q.now) c.in_ok-added.added 0 n [] goes c.in_ok-added.ensures refl (none (length s.trace)) refl refl refl refl refl in
    let e = assumed_by (begun s) (Unequal a.q.now) c.in_ok-added.added c.in_ok-added.ensures in
    next_led s (assuming 0 n) c.set_slot.new.state u [] (search (rules, e)) (c.in-None.ensures.first ∙ ap (passes_grown s) c.assuming-growth.ensures) g
