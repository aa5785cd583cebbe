use Rattle.std.proofs.Common.{◌≡◌, ℕ, ◌<◌, ◌≤◌, ◌^◌, length, get_or}
use Rattle.px_plain.specs.Exclusions.{Assigned, AreLeast}
use Rattle.px_plain.proofs.words.assign.Given as goal

abbrev pub invariant-loop : goal.invariant-loop
invariant-loop l = record {
  so_far : length l.values.items ≡ l.counter;
  zero : get_or l.values.items 0 0 ≡ 0;
  words : (k d : ℕ) → k < length l.values.items → get_or l.values.items k d < 2 ^ 32;
  within : l.next ≤ length l.exclusions;
  assigned : Assigned l.table l.exclusions l.next l.values.items;
  least : AreLeast l.table l.exclusions l.values.items;
}
