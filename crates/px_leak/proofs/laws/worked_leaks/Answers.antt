use Rattle.std.proofs.Common.{refl}
use Rattle.px_leak.proofs.laws.worked_leaks.Goals as goal

pub returns : goal.returns
returns c = record {
  forgotten = refl;
  given = refl;
  freed = refl;
  failed = refl;
  error = refl;
  finds = refl;
  through = refl;
  from = refl;
  cycle = refl;
  behind_freed = refl;
  of_callee = refl;
  inner = refl;
  half_inner = refl;
  once = refl;
}
