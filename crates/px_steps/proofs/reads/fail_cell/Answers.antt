use Rattle.std.proofs.Common.{◌∙◌, [], None, ap, length, refl, rules}
use Rattle.std.specs.Prelude.{option_to_list}
use Rattle.px_base.specs.declared.trace.Kind.TheVariants.{UninitialisedRead}
use Rattle.px_terms.specs.declared.conjuncts.Conj.TheVariants.{Unwritten}
use Rattle.px_entry.specs.declared.entries.Exit.TheVariants.{Error}
use Rattle.px_callgraph.specs.States.{begun, assumed, ends}
use Rattle.px_match.specs.PathLimits.{passes_grown}
use Rattle.px_match.proofs.PathLimitLemmas.{none}
use Rattle.px_steps.proofs.PathLimitLemmas.{ends_led, cut_end_led, assuming, assumed_grows}
use Rattle.px_steps.proofs.reads.fail_cell.Goals as goal
use Rattle.px_ways.proofs.Additions.{assumed_by}

pub returns-in-Some : goal.returns-in-Some
returns-in-Some c =
    let s = c.args.state.now in
    let n = length (option_to_list c.unless_there-added.result) in
    let u = assumed (Unwritten c.args.x) (begun s) in
    let exit = Error UninitialisedRead c.args.site in
    let g = assumed_grows s u (Unwritten c.args.x) c.unless_there-added.result 0 n [] (ends exit None) c.unless_there-added.ensures refl (none (length s.trace)) refl refl refl refl refl in
    cut_end_led c.cut.result s (assuming 0 n) u exit None c.in-Some.kind (c.in-Some.ensures.first ∙ ap (passes_grown s) c.assuming-growth.ensures) g c.cut.ensures

pub returns-in_ok-add_conjunct-in-None : goal.returns-in_ok-add_conjunct-in-None
returns-in_ok-add_conjunct-in-None c =
    let s = c.args.state.now in
    let n = length (option_to_list c.unless_there-added.result) in
    let u = assumed (Unwritten c.args.x) (begun s) in
    let exit = Error UninitialisedRead c.args.site in
    let g = assumed_grows s u (Unwritten c.args.x) c.unless_there-added.result 0 n [] (ends exit None) c.unless_there-added.ensures refl (none (length s.trace)) refl refl refl refl refl in
    let e = assumed_by (begun s) (Unwritten c.args.x) c.unless_there-added.result c.unless_there-added.ensures in
    ends_led s (assuming 0 n) c.add_conjunct.new.state u exit None (search (rules, e)) (c.in-None.ensures.first ∙ ap (passes_grown s) c.assuming-growth.ensures) g
