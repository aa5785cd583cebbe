use Rattle.std.proofs.Common.{◌≡◌, ◌-◌, ◌*◌, take, drop}
use Rattle.px_terms.specs.Polynomials.{normal_form}
use Rattle.px_terms.specs.Substitutions.{expansion}
use Rattle.px_terms.specs.Wides.{wide_of, HasDegree}
use Rattle.px_terms.proofs.wide.expanded.Given as goal

abbrev pub invariant-loop-done : goal.invariant-loop-done
invariant-loop-done l = record {
  value : wide_of l.rest ≡ normal_form (expansion l.with (drop (l.m.degree - l.done) (take l.m.degree l.m.vars)));
  degree : HasDegree (4 * l.done) l.rest;
}
