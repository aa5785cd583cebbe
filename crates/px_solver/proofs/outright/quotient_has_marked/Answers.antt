use Rattle.std.proofs.Common.{ℕ, [], ◌∷◌, ◌++◌}
use Rattle.std.proofs.lemmas.List.Elements.{All-cons, All-append}
use Rattle.px_terms.specs.Variables.{variables_of}
use Rattle.px_solver.specs.Tables.{IsMarked}
use Rattle.px_solver.proofs.MarkLemmas.{any_left, any_right}
use Rattle.px_solver.proofs.outright.quotient_has_marked.Goals as goal

pub returns-then-sum_has_marked-clause-yes : goal.returns-then-sum_has_marked-clause-yes
returns-then-sum_has_marked-clause-yes c = λ h.
    let P = IsMarked c.args.marks.now in
    let x = c.args.x.0 in
    any_left P (x ∷ variables_of c.args.p.now) (variables_of c.args.q.now) (any_right P (x ∷ []) (variables_of c.args.p.now) (c.sum_has_marked.ensures.yes c.if-sum_has_marked.true))

pub returns-clause-yes : goal.returns-clause-yes
returns-clause-yes c = λ h.
    any_right (IsMarked c.args.marks.now) (c.args.x.0 ∷ variables_of c.args.p.now) (variables_of c.args.q.now) (c.sum_has_marked-2.ensures.yes h)

pub returns-clause-no : goal.returns-clause-no
returns-clause-no c = λ h.
    let P = λ (x : ℕ). ¬ IsMarked c.args.marks.now x in
    All-cons P c.args.x.0 (variables_of c.args.p.now ++ variables_of c.args.q.now) (λ m. let f = c.if-marks-x.false in cc) (All-append P (variables_of c.args.p.now) (variables_of c.args.q.now) (c.sum_has_marked.ensures.no c.if-sum_has_marked.false) (c.sum_has_marked-2.ensures.no h))
