use Rattle.std.proofs.Common.{◌≡◌, ◌++◌, ◌∷◌, [], length, map, ◌+◌, ◌-◌, sym, ap, subst, ◌∙◌}
use Rattle.std.specs.List.{flat_map, AllByRecursion}
use Rattle.std.proofs.lemmas.List.{length-append, map_push}
use Rattle.std.proofs.lemmas.Result.{err_from_is_err_and}
use Rattle.px_terms.specs.Monomials.{term_of}
use Rattle.px_spelling.specs.Lists.{items_at}
use Rattle.px_spelling.specs.Polynomials.{term_bytes, IsTerm, term_at}
use Rattle.px_spelling.proofs.Loop.{goes_on, ends, is_done, with_front, front_goes_on}
use Rattle.px_spelling.proofs.polynomials.read_all_monomials.Goals as goal
use Rattle.px_terms.proofs.Recursion.{all_push}

pub returns-in_err-monomial-clause-reads : goal.returns-in_err-monomial-clause-reads
returns-in_err-monomial-clause-reads c =
    let p = err_from_is_err_and c.from_residual-in_err-monomial.result c.from_residual-in_err-monomial.ensures.1 in
    rw (p.1, p.2) (ends c.in_err-monomial.field-0.0 term_at (map term_of c.loop.monomials.items) c.args.count c.loop.counter c.loop.rest.now (items_at term_at c.args.count c.args.bytes.now) c.loop-test.true c.in_err-monomial.ensures.reads c.loop.invariant.reads)

pub loop-preserved : goal.loop-preserved
loop-preserved c =
    let before = map term_of c.loop.monomials.items in
    let term = term_of c.in_ok-monomial.monomial in
    let item = c.in_ok-monomial.ensures in
    let is : map term_of c.push.new.self.items ≡ before ++ term ∷ [] = ap (map term_of) c.in_ok-push.ensures.items ∙ map_push term_of c.loop.monomials.items c.in_ok-monomial.monomial in
    record {
      reads = subst (λ xs. with_front xs (items_at term_at (c.args.count - (c.loop.counter + 1)) c.in_ok-monomial.after.now) ≡ items_at term_at c.args.count c.args.bytes.now) (sym is)
          (goes_on term_at before c.args.count c.loop.counter c.loop.rest.now term c.in_ok-monomial.after.now (items_at term_at c.args.count c.args.bytes.now) c.loop-test.true item.reads c.loop.invariant.reads);
      spelled = subst (λ xs. c.args.bytes.now ≡ flat_map term_bytes xs ++ c.in_ok-monomial.after.now) (sym is)
          (front_goes_on term_bytes c.args.bytes.now before term c.loop.rest.now c.in_ok-monomial.after.now c.loop.invariant.spelled item.spelled.0);
      many = ap length is ∙ length-append before (term ∷ []) ∙ ap (λ n. n + 1) c.loop.invariant.many;
      fits = subst (AllByRecursion IsTerm) (sym is) (all_push IsTerm before term c.loop.invariant.fits item.spelled.1);
    }

pub returns-clause-reads : goal.returns-clause-reads
returns-clause-reads c = is_done term_at (map term_of c.loop.monomials.items) c.args.count c.loop.counter c.loop.rest.now (items_at term_at c.args.count c.args.bytes.now) c.loop-test.false c.loop.invariant.reads
