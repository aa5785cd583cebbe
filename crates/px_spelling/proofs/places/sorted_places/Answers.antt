use Rattle.std.proofs.Common.{◌≡◌, ap, arith, rules}
use Rattle.std.specs.Ordering.{is_lt}
use Rattle.std.proofs.lemmas.Fn.{always_returns_same}
use Rattle.std.proofs.lemmas.List.Sorted.{Contains-permutation}
use Rattle.px_spelling.specs.ByPlace.{place_cmp}
use Rattle.px_spelling.proofs.IndexLemmas.{one_more_there, place_weak}
use Rattle.px_spelling.proofs.places.sorted_places.Goals as goal

pub loop-place-preserved : goal.loop-place-preserved
loop-place-preserved g c = one_more_there c.loop-place.places.items c.push.new.self.items c.loop-place.place c.in_ok-push.ensures.items c.loop-place.invariant

pub returns : goal.returns
returns g c =
    let ts = g.L.Listed.polynomials c.args.terms.now in
    let sort = c.sort_unstable_by.ensures in
    record {
      sorted = sort.sorted (λ i j. is_lt (place_cmp ts i j)) (place_weak ts) (always_returns_same _ _ _ (λ a r q k. let is : r ≡ place_cmp ts a.0.now a.1.0.now = search rules in (ap is_lt is, search rules)));
      all = λ n lt. Contains-permutation c.loop-place.places.items c.sort_unstable_by.new.self.items n sort.permutation (c.loop-place.invariant n (omega (arith, c.count-place-end.ensures)));
    }
