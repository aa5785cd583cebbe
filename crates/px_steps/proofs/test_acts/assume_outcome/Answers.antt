use Rattle.std.proofs.Common.{◌∙◌, [], ap, length, pos, refl, rules}
use Rattle.std.specs.Prelude.{option_to_list}
use Rattle.std.proofs.lemmas.List.{length_push}
use Rattle.px_terms.specs.declared.conjuncts.Content.TheVariants.{Word}
use Rattle.px_callgraph.specs.States.{begun, marked, assumed, set_slot, number, goes}
use Rattle.px_match.specs.PathLimits.{passes_grown}
use Rattle.px_steps.proofs.PathLimitLemmas.{next_led, cut_led, assuming, assumed_grows}
use Rattle.px_steps.proofs.test_acts.assume_outcome.Goals as goal
use Rattle.px_ways.proofs.Additions.{assumed_by}

pub returns-in-Some : goal.returns-in-Some
returns-in-Some c =
    let a = c.args in
    let s = a.state.now in
    let n = length (option_to_list c.unless_there-added.result) in
    let m = marked a.kind a.site (begun s) in
    let u = set_slot a.to (Word (number (pos a.outcome))) (assumed a.conjunct m) in
    let g = assumed_grows s u a.conjunct c.unless_there-added.result 1 n [] goes c.unless_there-added.ensures refl (length_push s.trace _) refl refl refl refl refl in
    cut_led c.cut.result s (assuming 1 n) u [] c.in-Some.passed (c.in-Some.ensures.first ∙ ap (passes_grown s) c.assuming-growth.ensures) g c.cut.ensures

pub returns-in_ok-word-in-None : goal.returns-in_ok-word-in-None
returns-in_ok-word-in-None c =
    let a = c.args in
    let s = a.state.now in
    let n = length (option_to_list c.unless_there-added.result) in
    let m = marked a.kind a.site (begun s) in
    let u = set_slot a.to (Word (number (pos a.outcome))) (assumed a.conjunct m) in
    let g = assumed_grows s u a.conjunct c.unless_there-added.result 1 n [] goes c.unless_there-added.ensures refl (length_push s.trace _) refl refl refl refl refl in
    let e = assumed_by m a.conjunct c.unless_there-added.result c.unless_there-added.ensures in
    next_led s (assuming 1 n) c.set_slot.new.state u [] (search (rules, e)) (c.in-None.ensures.first ∙ ap (passes_grown s) c.assuming-growth.ensures) g
