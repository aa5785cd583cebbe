use Rattle.std.proofs.Common.{[], length, refl, rules}
use Rattle.px_base.specs.declared.trace.MarkKind.TheVariants as kind
use Rattle.px_terms.specs.declared.types.ValueType.TheVariants.{Pointer}
use Rattle.px_entry.specs.Contents.{variable_content}
use Rattle.px_callgraph.specs.States.{begun, marked, set_slot}
use Rattle.px_callgraph.specs.Commands.{make}
use Rattle.px_steps.proofs.PathLimitLemmas.{next_led, cut_led, making, made_grows}
use Rattle.px_steps.proofs.block_acts.give_block.Goals as goal

pub returns-in-Some : goal.returns-in-Some
returns-in-Some c =
    let a = c.args in
    let s = a.state.now in
    let u = set_slot a.to (variable_content (Pointer a.block) (length s.vars)) (make a.types.now a.block (marked kind.Got a.site (begun s))) in
    cut_led c.cut.result s making u [] c.in-Some.passed c.in-Some.ensures.first (made_grows s u _ _ _ refl refl refl refl refl) c.cut.ensures

pub returns-in_ok-take_block-in-None : goal.returns-in_ok-take_block-in-None
returns-in_ok-take_block-in-None c =
    let a = c.args in
    let s = a.state.now in
    let u = set_slot a.to (variable_content (Pointer a.block) (length s.vars)) (make a.types.now a.block (marked kind.Got a.site (begun s))) in
    next_led s making c.take_block.new.state u [] (search rules) c.in-None.ensures.first (made_grows s u _ _ _ refl refl refl refl refl)
