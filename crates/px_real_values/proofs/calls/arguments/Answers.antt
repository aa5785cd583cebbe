use Rattle.std.proofs.Common.{◌≡◌, ◌∙◌, sym, ap, map, length, ◌∷◌, [], arith}
use Rattle.std.proofs.lemmas.List.{nil_from_length, length-map}
use Rattle.std.specs.Vec.Iter.{into_iter_items}
use Rattle.px_syntax.specs.TypedViews.{typed_argument}
use Rattle.px_real_values.specs.Calls.{arguments}
use Rattle.px_real_values.specs.Views.{given_seen}
use Rattle.px_real_values.proofs.ArgumentLemmas.{arguments_more, arguments_end}
use Rattle.px_real_values.proofs.calls.arguments.Goals as goal

pub loop-one-preserved : goal.loop-one-preserved
loop-one-preserved g c =
    let env = g.E.Environment.sees c.args.environment.now in
    let at = c.loop-one in
    let es = map typed_argument at.all.items in
    let steps : into_iter_items at.one-iterator ≡ c.in-Some.one ∷ into_iter_items c.next.new.self = c.in-Some.ensures.steps.0 in
    let place : c.len-at.result ≡ length es = omega (arith, at.all.ok.0, length-map at.all.items typed_argument) in (
      arguments_more env c.args.signature.parameters.now es (map typed_argument c.put_argument.new.all.items) _ c.len-at.result (given_seen c.in-Some.one) (map given_seen (into_iter_items at.one-iterator)) (map given_seen (into_iter_items c.next.new.self))
          c.parameter-wanted.result (typed_argument c.in_ok-passed.passed) place (ap (map given_seen) steps) c.parameter-wanted.ensures c.in_ok-passed.ensures c.in_ok-put_argument.ensures at.invariant.0,
      let was = at.invariant.1 in
          let gone = c.in-Some.ensures.steps.1 in
          let short = ap length steps in
          omega arith,
    )

pub returns : goal.returns
returns g c =
    let env = g.E.Environment.sees c.args.environment.now in
    let at = c.loop-one in
    let ps = c.args.signature.parameters.now in
    let empty : into_iter_items at.one-iterator ≡ [] = nil_from_length _ (sym at.invariant.1 ∙ c.in-None.ensures.steps.0) in
    arguments_end env ps (map typed_argument at.all.items) _ (map given_seen (into_iter_items at.one-iterator)) (ap (map given_seen) empty) at.invariant.0
    ∙ ap (λ xs. arguments env ps (map given_seen xs)) c.into_iter-one-iterator.ensures.into_iter_gives.0
