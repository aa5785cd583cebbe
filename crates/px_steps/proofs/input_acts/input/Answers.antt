use Rattle.std.proofs.Common.{[], ◌∷◌, length, refl, rules}
use Rattle.px_base.specs.declared.trace.MarkKind.TheVariants as kind
use Rattle.px_terms.specs.Substitutions.{variable}
use Rattle.px_terms.specs.declared.types.ValueType.TheVariants.{Int}
use Rattle.px_terms.specs.declared.variables.Sort.TheVariants as sort
use Rattle.px_terms.specs.declared.conjuncts.Content.TheVariants.{Word}
use Rattle.px_callgraph.specs.States.{begun, marked, set_slot, info, with_variables}
use Rattle.px_callgraph.specs.Commands.{is_input_byte, assume_all}
use Rattle.px_steps.proofs.PathLimitLemmas.{next_led, cut_led}
use Rattle.px_steps.proofs.InputLemmas.{reading, input_grows, bounded}
use Rattle.px_steps.proofs.input_acts.input.Goals as goal

pub returns-in-Some : goal.returns-in-Some
returns-in-Some c =
    let a = c.args in
    let s = a.state.now in
    let x = length s.vars in
    let m = with_variables (info sort.Input Int ∷ []) (marked kind.Input a.site (begun s)) in
    let u = set_slot a.to (Word (variable x)) (assume_all (is_input_byte x) m) in
    let g = input_grows s u _ _ m.vars x c.count_both.result c.lacks_least-least.result c.lacks_most-most.result
    c.lacks_least-least.ensures c.lacks_most-most.ensures c.count_both.ensures refl refl refl refl refl in
    cut_led c.cut.result s (reading c.count_both.result) u [] c.in-Some.passed c.in-Some.ensures.first g c.cut.ensures

pub returns-in_ok-take_input-in-None : goal.returns-in_ok-take_input-in-None
returns-in_ok-take_input-in-None c =
    let a = c.args in
    let s = a.state.now in
    let x = length s.vars in
    let m = with_variables (info sort.Input Int ∷ []) (marked kind.Input a.site (begun s)) in
    let u = set_slot a.to (Word (variable x)) (assume_all (is_input_byte x) m) in
    let g = input_grows s u _ _ m.vars x c.count_both.result c.lacks_least-least.result c.lacks_most-most.result
    c.lacks_least-least.ensures c.lacks_most-most.ensures c.count_both.ensures refl refl refl refl refl in
    let b = bounded m x c.lacks_least-least.result c.lacks_most-most.result c.lacks_least-least.ensures c.lacks_most-most.ensures in
    next_led s (reading c.count_both.result) c.take_input.new.state u [] (search (rules, b)) c.in-None.ensures.first g
