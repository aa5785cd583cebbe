use Rattle.std.proofs.Common.{◌++◌}
use Rattle.px_spelling.specs.Types.{var_bytes}
use Rattle.px_spelling.proofs.Nine.{put_more}
use Rattle.px_spelling.proofs.conjuncts.write_quotient.Goals as goal

pub returns-clause-written : goal.returns-clause-written
returns-clause-written g c =
    let w = g.O.Output.written in
    let p = g.S.Terms.spelling c.args.terms.now in
    let before = w c.args.out.now in
    let x = var_bytes c.args.var in
    let a = p.bytes_of c.args.left.now in
    let b = p.bytes_of c.args.right.now in
    put_more before (x ++ a) (w c.write_polynomial.new.out) (w c.write_polynomial-2.new.out) b
    (put_more before x (w c.write.new.out) (w c.write_polynomial.new.out) a c.write.ensures.written c.write_polynomial.ensures.written) c.write_polynomial-2.ensures.written
