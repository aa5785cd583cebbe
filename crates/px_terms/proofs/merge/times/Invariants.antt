use Rattle.std.proofs.Common.{◌≡◌, ◌+◌, take}
use Rattle.std.specs.Prelude.{fold, length}
use Rattle.px_terms.specs.Terms.{put_among}
use Rattle.px_terms.proofs.merge.times.Given as goal

abbrev pub invariant-loop-i : goal.invariant-loop-i
invariant-loop-i g l = record {
  joined : take (l.t.degree + l.i) l.vars ≡ fold put_among (take l.t.degree l.t.vars) (take l.i l.s.vars);
  room : length l.vars ≡ g.row.N;
}
