use Rattle.std.proofs.Common.{◌≡◌, take, false}
use Rattle.std.specs.List.{list_any}
use Rattle.px_entry.specs.Equality.{same_conjunct}
use Rattle.px_calls.proofs.keys.is_among.Given as goal

abbrev pub invariant-loop-i : goal.invariant-loop-i
invariant-loop-i l = list_any (same_conjunct l.c) (take l.i l.all) ≡ false
