use Rattle.std.proofs.Common.{◌≡◌, ◌++◌, take, drop}
use Rattle.px_terms.specs.Terms.{put_among}
use Rattle.px_terms.proofs.merge.put_among.Given as goal

abbrev pub invariant-loop-i : goal.invariant-loop-i
invariant-loop-i l = take l.i l.vars ++ put_among (drop l.i (take l.len l.vars)) l.x ≡ put_among (take l.len l.initial.vars) l.initial.x
