use Rattle.std.proofs.Common.{List, ◌∷◌, ◌<◌, ◌≤◌, length}
use Rattle.px_parts.specs.declared.form.Due.{Due}
use Rattle.px_parts.specs.Forms.{due, Passes}
use Rattle.px_parts.proofs.skim.pass_many.Given as goal

-- so many are left, and those before them were passed over
abbrev pub invariant-loop-left : goal.invariant-loop-left
invariant-loop-left l = record {
  passes : (dues : List Due) → Passes (due l.form l.count ∷ dues) l.bytes (due l.form l.left ∷ dues) l.rest;
  within : length l.rest ≤ length l.bytes;
  few : l.left ≤ l.count;
  shorter : l.left < l.count → length l.rest < length l.bytes;
}

abbrev pub decreases-loop-left : goal.decreases-loop-left
decreases-loop-left l = l.left
