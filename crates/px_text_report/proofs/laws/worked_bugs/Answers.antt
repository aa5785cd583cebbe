use Rattle.std.proofs.Common.{refl}
use Rattle.px_text_report.proofs.laws.worked_bugs.Goals as goal

pub returns : goal.returns
returns c = record {
  none_open = refl;
  outer_open = refl;
  second_open = refl;
  outer_left = refl;
  push = refl;
  outermost = refl;
  first_outer = refl;
  not_kept = refl;
}
