use Rattle.std.proofs.Common.{◌+◌, ◌∷◌, ◌++◌, [], false, List, subst, take, get_or, arith}
use Rattle.std.proofs.lemmas.List.{take_more, take_all}
use Rattle.px_cnf.specs.declared.literal.Literal.{Literal}
use Rattle.px_sat.specs.declared.propagating.Left.{Left}
use Rattle.px_sat.specs.Searches.{IsLeft}
use Rattle.px_sat.proofs.LeftLemmas.{more_of_all}
use Rattle.px_sat.proofs.propagating.left_of.Goals as goal

pub returns-in-More : goal.returns-in-More
returns-in-More c =
    let i = c.loop-literal.literal-index in
    let d : Literal = record { variable = 0; positive = false } in
    let h = c.left_with-left.ensures (take i c.args.clause.now) c.loop-literal.invariant in
    let k = subst (λ (l : Left). IsLeft c.args.trail.now (take i c.args.clause.now ++ get_or c.args.clause.now i d ∷ []) l) c.in-More.is h in
    more_of_all c.args.trail.now c.args.clause.now (i + 1)
    (rw (take_more c.args.clause.now i d (let t = c.loop-literal-test.true in omega arith)) k)

pub loop-literal-preserved : goal.loop-literal-preserved
loop-literal-preserved c =
    let i = c.loop-literal.literal-index in
    let d : Literal = record { variable = 0; positive = false } in
    rw (take_more c.args.clause.now i d (let t = c.loop-literal-test.true in omega arith))
    (c.left_with-left.ensures (take i c.args.clause.now) c.loop-literal.invariant)

pub returns : goal.returns
returns c = subst (λ (ls : List Literal). IsLeft c.args.trail.now ls c.loop-literal.left) (take_all c.loop-literal.literal-index c.args.clause.now (let t = c.loop-literal-test.false in omega arith)) c.loop-literal.invariant
