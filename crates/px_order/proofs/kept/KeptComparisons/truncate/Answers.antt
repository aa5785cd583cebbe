use Rattle.std.proofs.Common.{sym, ap, subst, ◌∙◌, take, map}
use Rattle.std.specs.Prelude.{All}
use Rattle.std.proofs.lemmas.List.{take-map}
use Rattle.std.proofs.lemmas.List.Elements.{All-take}
use Rattle.px_order.specs.Comparisons.{IsBelow, first_compared}
use Rattle.px_order.proofs.kept.KeptComparisons.truncate.Goals as goal

pub invariant_of-self : goal.invariant_of-self
invariant_of-self c = record {
  chained = c.truncate-2.ensures ∙ ap (take c.args.count) c.self.invariant.chained ∙ take-map first_compared c.args.count c.self.inside.comparisons.items ∙ ap (map first_compared) (sym c.truncate.ensures.items);
  below = subst (All (IsBelow c.self.inside.search)) (sym c.truncate.ensures.items) (All-take (IsBelow c.self.inside.search) c.args.count c.self.inside.comparisons.items c.self.invariant.below);
}
