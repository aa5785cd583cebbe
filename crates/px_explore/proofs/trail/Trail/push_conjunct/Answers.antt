use Rattle.std.proofs.Common.{ap, ◌∙◌, ◌++◌, ◌∷◌, []}
use Rattle.px_explore.specs.declared.trail.Holder.TheVariants.{Everywhere}
use Rattle.px_explore.proofs.TrailLemmas.{on_push, few_pushed, mentions_few}
use Rattle.px_explore.proofs.trail.Trail.push_conjunct.Goals as goal

pub push-requires-clause-domains : goal.push-requires-clause-domains
push-requires-clause-domains g c = let (items, on, v, w, n) = c.requires in (_, on.conjuncts, few_pushed items n)

pub push-requires-clause-variables : goal.push-requires-clause-variables
push-requires-clause-variables g c = let (items, on, v, w, n) = c.requires in mentions_few items c.args.conjunct.now v w

pub returns-clause-pushed : goal.returns-clause-pushed
returns-clause-pushed g c = λ items h.
    on_push c.args.self.now _ _ _ items c.args.conjunct.now (c.push_reserved.ensures.items ∙ ap (λ z. z ++ Everywhere ∷ []) c.in_ok-reserve.ensures.items) h (c.in_ok-push.ensures.pushed items h.stacked.stack) (c.in_ok-push.ensures.everywhere _ h.conjuncts)
