use Rattle.std.proofs.Common.{◌<◌, ◌∙◌, length, map, ap, subst}
use Rattle.std.specs.Prelude.{All, flat_map}
use Rattle.std.proofs.lemmas.List.{take_all}
use Rattle.px_terms.specs.Terms.{Term}
use Rattle.px_terms.specs.Monomials.{term_of}
use Rattle.px_terms.proofs.Evaluation.{variables_at}
use Rattle.px_solver.specs.Tables.{IsMarked}
use Rattle.px_solver.proofs.MarkLemmas.{any_term}
use Rattle.px_solver.proofs.outright.sum_has_marked.Goals as goal

pub has_marked-requires : goal.has_marked-requires
has_marked-requires c =
    variables_at (λ x. x < length c.args.marks.now) c.monomials-m-items.result.now c.loop-m.m-index c.m-item.result c.args.p.now.monomials c.loop-m-test.true c.m-item.is c.monomials-m-items.ensures.value c.requires

pub returns-then-has_marked-clause-yes : goal.returns-then-has_marked-clause-yes
returns-then-has_marked-clause-yes c = λ e.
    any_term (IsMarked c.args.marks.now) c.monomials-m-items.result.now c.loop-m.m-index c.m-item.result c.args.p.now.monomials c.loop-m-test.true c.m-item.is c.monomials-m-items.ensures.value (c.has_marked.ensures.yes c.if-has_marked.true)

pub returns-clause-no : goal.returns-clause-no
returns-clause-no c = λ e.
    let ms = c.monomials-m-items.result.now in
    let same = ap (map term_of) (take_all c.loop-m.m-index ms c.loop-m-test.false) ∙ c.monomials-m-items.ensures.value in
    subst (λ z. All (λ x. ¬ IsMarked c.args.marks.now x) (flat_map (λ (t : Term). t.vars) z)) same c.loop-m.invariant
