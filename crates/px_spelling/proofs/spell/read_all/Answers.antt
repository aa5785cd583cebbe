use Rattle.std.proofs.Common.{◌≡◌, ◌++◌, ◌∷◌, [], length, ◌+◌, Some, sym, ap, subst, ◌∙◌, ◌-◌}
use Rattle.std.specs.List.{flat_map, AllByRecursion}
use Rattle.std.proofs.lemmas.List.{length-append}
use Rattle.std.proofs.lemmas.Result.{err_from_is_err_and}
use Rattle.px_spelling.specs.Lists.{items_at}
use Rattle.px_spelling.proofs.Loop.{goes_on, ends, is_done, with_front, front_goes_on}
use Rattle.px_spelling.proofs.spell.read_all.Goals as goal
use Rattle.px_terms.proofs.Recursion.{all_push}

pub returns-in_err-item-clause-reads : goal.returns-in_err-item-clause-reads
returns-in_err-item-clause-reads g c =
    let p = err_from_is_err_and c.from_residual-in_err-item.result c.from_residual-in_err-item.ensures.1 in
    rw (p.1, p.2) (ends c.in_err-item.field-0.0 (g.T.WireWith.at_with (g.S.Terms.spelling c.args.terms.now)) c.loop.items.items c.args.count c.loop.counter c.loop.rest.now (items_at (g.T.WireWith.at_with (g.S.Terms.spelling c.args.terms.now)) c.args.count c.args.bytes.now) c.loop-test.true c.in_err-item.ensures.reads c.loop.invariant.reads)

pub loop-preserved : goal.loop-preserved
loop-preserved g c =
    let is = c.in_ok-push.ensures.items in
    let item = c.in_ok-item.ensures in
    record {
      reads = subst (λ xs. with_front xs (items_at (g.T.WireWith.at_with (g.S.Terms.spelling c.args.terms.now)) (c.args.count - (c.loop.counter + 1)) c.in_ok-item.after.now) ≡ items_at (g.T.WireWith.at_with (g.S.Terms.spelling c.args.terms.now)) c.args.count c.args.bytes.now) (sym is)
          (goes_on (g.T.WireWith.at_with (g.S.Terms.spelling c.args.terms.now)) c.loop.items.items c.args.count c.loop.counter c.loop.rest.now c.in_ok-item.item c.in_ok-item.after.now (items_at (g.T.WireWith.at_with (g.S.Terms.spelling c.args.terms.now)) c.args.count c.args.bytes.now) c.loop-test.true item.reads c.loop.invariant.reads);
      spelled = subst (λ xs. c.args.bytes.now ≡ flat_map (g.T.WireWith.bytes_with (g.S.Terms.spelling c.args.terms.now)) xs ++ c.in_ok-item.after.now) (sym is)
          (front_goes_on (g.T.WireWith.bytes_with (g.S.Terms.spelling c.args.terms.now)) c.args.bytes.now c.loop.items.items c.in_ok-item.item c.loop.rest.now c.in_ok-item.after.now c.loop.invariant.spelled item.spelled.0);
      many = ap length is ∙ length-append c.loop.items.items (c.in_ok-item.item ∷ []) ∙ ap (λ n. n + 1) c.loop.invariant.many;
      fits = subst (AllByRecursion (g.T.WireWith.fits_with (g.S.Terms.spelling c.args.terms.now))) (sym is) (all_push (g.T.WireWith.fits_with (g.S.Terms.spelling c.args.terms.now)) c.loop.items.items c.in_ok-item.item c.loop.invariant.fits item.spelled.1);
    }

pub returns-clause-reads : goal.returns-clause-reads
returns-clause-reads g c =
    is_done (g.T.WireWith.at_with (g.S.Terms.spelling c.args.terms.now)) c.loop.items.items c.args.count c.loop.counter c.loop.rest.now (items_at (g.T.WireWith.at_with (g.S.Terms.spelling c.args.terms.now)) c.args.count c.args.bytes.now) c.loop-test.false c.loop.invariant.reads
    ∙ ap (λ xs. Some (xs, c.loop.rest.now)) (sym c.from_vec.ensures)
