use Rattle.std.proofs.Common.{List, [], ◌∷◌, ◌+◌, ◌/◌, ◌++◌, drop, ap, ◌∙◌}
use Rattle.px_cnf.specs.declared.literal.Literal.{Literal}
use Rattle.px_cnf.specs.Words.{matching}
use Rattle.px_cnf.proofs.Matching.{matching_next, matching_at_end}
use Rattle.px_cnf.proofs.reading.matching.Goals as goal

pub loop-i-preserved : goal.loop-i-preserved
loop-i-preserved c =
    ap (λ (z : List Literal). z ++ matching (drop (c.loop-i.i + 1) c.args.word.now) (c.loop-i.rest / 2)) (c.in_ok-push.ensures.items ∙ ap (λ (l : Literal). c.loop-i.all.items ++ l ∷ []) c.with_sign.ensures)
    ∙ matching_next c.args.word.now c.loop-i.i c.loop-i.rest _ c.loop-i.all.items c.loop-i-test.true
    ∙ c.loop-i.invariant

pub returns : goal.returns
returns c = matching_at_end c.args.word.now c.loop-i.i c.loop-i.rest c.loop-i.all.items c.loop-i-test.false ∙ c.loop-i.invariant
