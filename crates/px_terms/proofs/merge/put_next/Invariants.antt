use Rattle.std.proofs.Common.{length, ◌-◌, ◌≤◌, map, drop}
use Rattle.px_terms.specs.Terms.{IsRising}
use Rattle.px_terms.specs.Monomials.{term_of}
use Rattle.px_terms.specs.Rows.{Keeps}
use Rattle.px_terms.proofs.merge.put_next.Given as goal

abbrev pub invariant-loop-i : goal.invariant-loop-i
invariant-loop-i g l = record {
  within : l.i ≤ length l.a;
  rising : IsRising (map term_of (drop l.i l.a));
  keeps : Keeps (term_of l.next) (map term_of l.initial.out.items) (map term_of (drop l.from l.a)) (map term_of l.out.items) (map term_of (drop l.i l.a));
}

abbrev pub decreases-loop-i : goal.decreases-loop-i
decreases-loop-i g l = length l.a - l.i
