use Rattle.std.proofs.Common.{◌∙◌, [], ap, length, refl, rules}
use Rattle.std.specs.Prelude.{option_to_list}
use Rattle.px_terms.specs.declared.conjuncts.Conj.TheVariants.{Written}
use Rattle.px_entry.specs.Contents.{variable_content}
use Rattle.px_callgraph.specs.States.{begun, assumed, set_slot, goes}
use Rattle.px_match.specs.PathLimits.{passes_grown}
use Rattle.px_match.proofs.PathLimitLemmas.{none}
use Rattle.px_steps.proofs.PathLimitLemmas.{next_led, cut_led, assuming, assumed_grows}
use Rattle.px_steps.proofs.reads.read_value.Goals as goal
use Rattle.px_ways.proofs.Additions.{assumed_by}

pub returns-in-Some : goal.returns-in-Some
returns-in-Some c =
    let s = c.args.state.now in
    let n = length (option_to_list c.unless_there-added.result) in
    let u = set_slot c.args.slot (variable_content c.args.info.value c.args.x.0) (assumed (Written c.args.x) (begun s)) in
    let g = assumed_grows s u (Written c.args.x) c.unless_there-added.result 0 n [] goes c.unless_there-added.ensures refl (none (length s.trace)) refl refl refl refl refl in
    cut_led c.cut.result s (assuming 0 n) u [] c.in-Some.kind (c.in-Some.ensures.first ∙ ap (passes_grown s) c.assuming-growth.ensures) g c.cut.ensures

pub returns-in_ok-variable_content-in-None : goal.returns-in_ok-variable_content-in-None
returns-in_ok-variable_content-in-None c =
    let s = c.args.state.now in
    let n = length (option_to_list c.unless_there-added.result) in
    let u = set_slot c.args.slot (variable_content c.args.info.value c.args.x.0) (assumed (Written c.args.x) (begun s)) in
    let g = assumed_grows s u (Written c.args.x) c.unless_there-added.result 0 n [] goes c.unless_there-added.ensures refl (none (length s.trace)) refl refl refl refl refl in
    let e = assumed_by (begun s) (Written c.args.x) c.unless_there-added.result c.unless_there-added.ensures in
    next_led s (assuming 0 n) c.set_slot.new.state u [] (search (rules, e)) (c.in-None.ensures.first ∙ ap (passes_grown s) c.assuming-growth.ensures) g
