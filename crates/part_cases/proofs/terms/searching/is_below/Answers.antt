use Rattle.std.proofs.Common.{◌≡◌, ◌+◌, ◌<◌, false, List, [], ◌∷◌, ◌++◌, sym, subst, length, take, get_or, arith}
use Rattle.std.specs.List.{All}
use Rattle.std.proofs.lemmas.List.{take_more, take_all}
use Rattle.std.proofs.lemmas.List.Elements.{All-append, All-cons, All-nil}
use Rattle.px_cnf.specs.Clauses.{AreBelow}
use Rattle.px_cnf.specs.declared.literal.Literal.{Literal}
use Rattle.part_cases.proofs.terms.searching.is_below.Goals as goal

pub loop-literal-preserved : goal.loop-literal-preserved
loop-literal-preserved c =
    let n = c.args.variables in let i = c.loop-literal.literal-index in let ls = c.args.clause.now in
    let d : Literal = record { variable = 0; positive = false } in
    let below : (get_or ls i d).variable < n = (let f = c.if-literal-variables.false in omega arith) in
    subst (AreBelow n) (sym (take_more ls i d (let t = c.loop-literal-test.true in omega arith)))
    (All-append (λ (l : Literal). l.variable < n) (take i ls) (get_or ls i d ∷ []) c.loop-literal.invariant
    (All-cons (λ (l : Literal). l.variable < n) (get_or ls i d) [] below (All-nil (λ (l : Literal). l.variable < n))))

pub returns : goal.returns
returns c = λ _. subst (AreBelow c.args.variables) (take_all c.loop-literal.literal-index c.args.clause.now (let t = c.loop-literal-test.false in omega arith)) c.loop-literal.invariant
