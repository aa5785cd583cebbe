use Rattle.std.proofs.Common.{◌≡◌, Some, sym, ap, subst, ◌∙◌}
use Rattle.std.specs.Prelude.{slice_get}
use Rattle.px_spelling.specs.ByPlace.{Differ, place_in}
use Rattle.px_spelling.proofs.IndexLemmas.{own_place}
use Rattle.px_spelling.proofs.term_list.TermListTerms.read_polynomial.Goals as goal

pub returns-in_ok-copy-in-Some-clause-spelled : goal.returns-in_ok-copy-in-Some-clause-spelled
returns-in_ok-copy-in-Some-clause-spelled c =
    let ts = c.args.self.now in
    let place = c.in_ok-place.place in
    let p = c.in_ok-copy-in-Some.field-0 in
    let there : slice_get c.self.inside.terms place ≡ Some p = sym c.in-Some.ensures ∙ ap Some (sym c.in_ok-copy-in-Some.ensures) in
    let stands : slice_get ts place ≡ Some p = subst (λ xs. slice_get xs place ≡ Some p) c.self.view_is there in
    let own : place_in ts p ≡ Some place = own_place ts place p (subst Differ c.self.view_is c.self.invariant.0) stands in
    rw own c.in_ok-place.ensures.spelled
