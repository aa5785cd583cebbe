use Rattle.std.proofs.Common.{◌≡◌, ◌∙◌, ◌+◌, ◌++◌, sym, ap, map, length, ◌∷◌, [], arith}
use Rattle.std.proofs.lemmas.List.{nil_from_length}
use Rattle.std.specs.Vec.Iter.{into_iter_items}
use Rattle.px_syntax.specs.TypedViews.{typed_expression}
use Rattle.px_real_values.specs.Operators.{stopped_at}
use Rattle.px_real_values.specs.Calls.{all_parts}
use Rattle.px_real_values.specs.Views.{given_seen}
use Rattle.px_real_values.proofs.ArgumentLemmas.{parts_more, parts_end}
use Rattle.px_real_values.proofs.calls.stopped_call.Goals as goal

pub loop-one-preserved : goal.loop-one-preserved
loop-one-preserved g c =
    let env = g.E.Environment.sees c.args.environment.now in
    let at = c.loop-one in
    let steps : into_iter_items at.one-iterator ≡ c.in-Some.one ∷ into_iter_items c.next.new.self = c.in-Some.ensures.steps.0 in (
      parts_more env (map typed_expression at.all.items) (map typed_expression c.in_ok-parts.parts.items) (map typed_expression c.put_all.new.all.items) _ (given_seen c.in-Some.one)
          (map given_seen (into_iter_items at.one-iterator)) (map given_seen (into_iter_items c.next.new.self)) (ap (map given_seen) steps) c.in_ok-parts.ensures c.in_ok-put_all.ensures at.invariant.0,
      let was = at.invariant.1 in
          let gone = c.in-Some.ensures.steps.1 in
          let short = ap length steps in
          omega arith,
    )

pub returns : goal.returns
returns g c =
    let env = g.E.Environment.sees c.args.environment.now in
    let at = c.loop-one in
    let before = map typed_expression c.args.before.items in
    let empty : into_iter_items at.one-iterator ≡ [] = nil_from_length _ (sym at.invariant.1 ∙ c.in-None.ensures.steps.0) in
    c.stopped_at.ensures
    ∙ ap (stopped_at env c.args.text.now c.args.at)
    (parts_end env (map typed_expression at.all.items) _ (map given_seen (into_iter_items at.one-iterator)) (ap (map given_seen) empty) at.invariant.0
    ∙ ap (λ xs. before ++ all_parts env (map given_seen xs)) c.into_iter-one-iterator.ensures.into_iter_gives.0)
