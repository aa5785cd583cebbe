use Rattle.std.proofs.Common.{map, sym, subst}
use Rattle.px_spelling.specs.ByPlace.{Differ}
use Rattle.px_spelling.proofs.PlaceLemmas.{all_differ}
use Rattle.px_spelling.proofs.term_list.distinct.Goals as goal

pub invariant_of-result : goal.invariant_of-result
invariant_of-result c = (subst Differ (sym c.in_ok-terms.ensures) (all_differ (map (λ p. p.now) c.args.mentions.now)), c.in_ok-places.ensures)
