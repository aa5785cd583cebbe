use Rattle.std.proofs.Common.{◌≡◌, ◌++◌, ◌+◌, drop, get_or, sym, subst, arith}
use Rattle.std.proofs.lemmas.List.{get_or_read}
use Rattle.px_solver.specs.Tables.{places_from, IsNext}
use Rattle.px_solver.proofs.ChainLemmas.{to_next, place_more}
use Rattle.px_solver.proofs.chains.places_of.Goals as goal

pub loop-at-init : goal.loop-at-init
loop-at-init c =
    let homes = c.args.homes.now in
    let h = c.args.home in
    let n = c.requires.first.each h c.requires.home in
    let l = c.requires.home in
    let e = get_or_read c.args.chains.now.first.items _ _ l c.index-at.ensures 0 in
    let m = subst (IsNext homes 0 h) (sym e) n in
    record {
      within = m.within;
      here = m.is;
      so_far = subst (λ z. z ++ places_from h c.index-at.result.now (drop c.index-at.result.now homes) ≡ places_from h 0 homes) (sym c.new-places.ensures.items) (sym (to_next h homes 0 c.index-at.result.now m));
    }

pub loop-at-preserved : goal.loop-at-preserved
loop-at-preserved c =
    let homes = c.args.homes.now in
    let h = c.args.home in
    let at = c.loop-at.at in
    let l = c.loop-at-test.true in
    let here = c.loop-at.invariant.here l in
    let n = c.requires.next.each at (omega arith) l in
    let size = c.requires.next.size in
    let e = get_or_read c.args.chains.now.next.items _ _ (omega arith) c.index-at-in-loop-at.ensures 0 in
    let m = subst (λ z. IsNext homes (at + 1) z c.index-at-in-loop-at.result.now) here (subst (IsNext homes (at + 1) (get_or homes at 0)) (sym e) n) in
    record {
      within = m.within;
      here = m.is;
      so_far = subst (λ z. z ++ places_from h c.index-at-in-loop-at.result.now (drop c.index-at-in-loop-at.result.now homes) ≡ places_from h 0 homes) (sym c.in_ok-push.ensures.items)
          (place_more h homes c.loop-at.places.items at c.index-at-in-loop-at.result.now (places_from h 0 homes) l here m c.loop-at.invariant.so_far);
    }
