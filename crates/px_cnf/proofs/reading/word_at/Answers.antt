use Rattle.std.proofs.Common.{List, [], ◌∷◌, ◌+◌, ◌++◌, true, ap, sym, ◌∙◌, arith}
use Rattle.px_cnf.specs.declared.literal.Literal.{Literal}
use Rattle.px_cnf.specs.Words.{bits_from}
use Rattle.px_cnf.proofs.Matching.{bits_from-none, bits_from-push}
use Rattle.px_cnf.proofs.reading.word_at.Goals as goal

pub loop-i-init : goal.loop-i-init
loop-i-init c = c.in_ok-word.ensures.items ∙ sym (bits_from-none c.args.first)

pub loop-i-preserved : goal.loop-i-preserved
loop-i-preserved c =
    c.in_ok-push.ensures.items ∙ ap (λ (z : List Literal). z ++ record { variable = c.args.first + c.loop-i.i; positive = true } ∷ []) c.loop-i.invariant ∙ sym (bits_from-push c.loop-i.i c.args.first)

pub returns : goal.returns
returns c = c.loop-i.invariant ∙ ap (λ n. bits_from n c.args.first) (omega arith)
