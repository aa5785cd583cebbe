use Rattle.std.proofs.Common.{◌≡◌, true, false, subst, sym}
use Rattle.std.specs.Prelude.{IsPermutation}
use Rattle.px_interval.specs.Gaps.{HavePlaces, SomeFull, NoneFull}
use Rattle.px_interval.proofs.Rule.{sorted_places, decides}
use Rattle.px_interval.proofs.gaps.rule_out.Goals as goal

pub is_some_full-requires-clause-places : goal.is_some_full-requires-clause-places
is_some_full-requires-clause-places c =
    subst HavePlaces (sym c.deref.ensures.value) (sorted_places c.requires.0 c.sort_gaps.new.gaps.items
    (subst (λ z. IsPermutation z c.sort_gaps.new.gaps.items) c.requires.1 c.sort_gaps.ensures.permutation))

pub returns : goal.returns
returns c = λ cs e.
    decides cs c.sort_gaps.new.gaps.items
    (subst (λ z. IsPermutation z c.sort_gaps.new.gaps.items) e c.sort_gaps.ensures.permutation)
    c.is_some_full.result
    (subst (λ z. c.is_some_full.result ≡ true → SomeFull z) c.deref.ensures.value c.is_some_full.ensures.yes)
    (subst (λ z. c.is_some_full.result ≡ false → NoneFull z) c.deref.ensures.value c.is_some_full.ensures.no)
