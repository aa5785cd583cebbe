use Rattle.std.proofs.Common.{[], refl, rules}
use Rattle.px_callgraph.specs.States.{begun, marked, goes}
use Rattle.px_callgraph.specs.States.{set_slot}
use Rattle.px_terms.specs.declared.conjuncts.Content.TheVariants.{Place}
use Rattle.px_terms.specs.declared.conjuncts.Place.TheVariants as place
use Rattle.px_base.specs.declared.trace.MarkKind.TheVariants as kind
use Rattle.px_steps.proofs.PathLimitLemmas.{next_led, cut_led, marking, marked_grows}
use Rattle.px_steps.proofs.block_acts.give_no_block.Goals as goal

pub returns-in-Some : goal.returns-in-Some
returns-in-Some c =
    let s = c.args.state.now in
    let u = set_slot c.args.to (Place place.Null) (marked kind.NoBlock c.args.site (begun s)) in
    cut_led c.cut.result s marking u [] c.in-Some.kind c.in-Some.ensures.first (marked_grows s u _ [] goes refl refl refl refl refl refl) c.cut.ensures

pub returns-in_ok-mark-in-None : goal.returns-in_ok-mark-in-None
returns-in_ok-mark-in-None c =
    let s = c.args.state.now in
    let u = set_slot c.args.to (Place place.Null) (marked kind.NoBlock c.args.site (begun s)) in
    next_led s marking c.set_slot.new.state u [] (search rules) c.in-None.ensures.first (marked_grows s u _ [] goes refl refl refl refl refl refl)
