use Rattle.std.proofs.Common.{[], ◌∷◌, ◌++◌, ap, sym, ◌∙◌}
use Rattle.px_spelling.specs.Types.{var_bytes}
use Rattle.px_spelling.specs.Conjuncts.{conj_bytes}
use Rattle.px_spelling.proofs.Nine.{put_more}
use Rattle.px_spelling.proofs.conjuncts.ConjWireWith.write_with.Goals as goal

pub returns-in-Quotient-clause-written : goal.returns-in-Quotient-clause-written
returns-in-Quotient-clause-written g c =
    let w = g.O.Output.written in
    let p = g.S.Terms.spelling c.args.terms.now in
    let before = w c.args.out.now in
    let parts = var_bytes c.in-Quotient.var ++ (p.bytes_of c.in-Quotient.left ++ p.bytes_of c.in-Quotient.right) in
    put_more before (8 ∷ []) (w c.write-in-Quotient.new.out) (w c.write_quotient.new.out) parts c.write-in-Quotient.ensures.written c.write_quotient.ensures.written
    ∙ ap (λ k. before ++ conj_bytes p k) (sym c.in-Quotient.is)
