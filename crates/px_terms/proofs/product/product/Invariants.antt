use Rattle.std.proofs.Common.{◌≡◌, ◌++◌, map, take}
use Rattle.px_terms.specs.Terms.{gathered}
use Rattle.px_terms.specs.Monomials.{term_of}
use Rattle.px_terms.specs.Rows.{row_of, rows_of, scalar_of}
use Rattle.px_terms.proofs.product.product.Given as goal

abbrev pub invariant-loop-s : goal.invariant-loop-s
invariant-loop-s g l = map term_of l.all.items
    ≡ gathered (row_of (scalar_of l.d) (map term_of l.a) ++ row_of (scalar_of l.c) (map term_of l.b) ++ rows_of (map term_of (take l.s-index l.a)) (map term_of l.b))
