use Rattle.std.proofs.Common.{◌≡◌, ℕ, ◌+◌, ◌<◌, length, get_or}
use Rattle.std.specs.Prelude.{Some, slice_get}
use Rattle.px_terms.specs.Valuations.{valuation_of}
use Rattle.px_terms.specs.declared.variables.VarInfo.{VarInfo}
use Rattle.px_plain.specs.Places.{mark_at}
use Rattle.px_plain.specs.Models.{value_of}
use Rattle.px_plain.proofs.values.values_of.Given as goal

abbrev pub invariant-loop-x : goal.invariant-loop-x
invariant-loop-x l = record {
  so_far : length l.values.items ≡ l.x;
  each : (x : ℕ) (i : VarInfo) → x < l.x → slice_get l.vars x ≡ Some i
      → valuation_of l.values.items x ≡ value_of (mark_at l.marks (x + 1)) i.value (get_or l.words (x + 1) 0) (get_or l.places (x + 1) 0);
}
