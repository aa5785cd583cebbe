use Rattle.std.proofs.Common.{length, ◌≡◌, ◌≤◌, ◌++◌, map, drop}
use Rattle.px_terms.specs.Terms.{gathered}
use Rattle.px_terms.specs.Monomials.{term_of}
use Rattle.px_terms.specs.Rows.{row_of}
use Rattle.px_terms.proofs.merge.add_row.Given as goal

abbrev pub invariant-loop-m : goal.invariant-loop-m
invariant-loop-m g l = record {
  within : l.i ≤ length l.a;
  keeps : map term_of l.out.items ++ gathered (map term_of (drop l.i l.a) ++ row_of (term_of l.s) (map term_of (drop l.m-index l.b)))
      ≡ gathered (map term_of l.a ++ row_of (term_of l.s) (map term_of l.b));
}
