-- The worked procedures become what was worked out.
use Rattle.std.proofs.Common.{refl}
use Rattle.px_lower.specs.WorkedBodies.{WorkedBodies}

pub worked : WorkedBodies
worked = record {
  nothing = refl;
  constant = refl;
  null_pointer = refl;
  local = refl;
  negation = refl;
  left_to_right = refl;
  subtraction = refl;
  quotient = refl;
  remainder = refl;
  comparison = refl;
  greater = refl;
  at_least = refl;
  sum_of_comparisons = refl;
  unequal = refl;
  same_place = refl;
  other_place = refl;
  cell = refl;
  field_of_cell = refl;
  allocation = refl;
  get_char = refl;
  declaration = refl;
  used_call = refl;
  call_statement = refl;
  call_statement_with_arguments = refl;
  call_with_erased = refl;
  used_call_with_erased = refl;
  freed = refl;
  get_char_statement = refl;
  assignment = refl;
  stored = refl;
  compound_assignment = refl;
  compound_store = refl;
  if_else = refl;
  if_word = refl;
  if_pointer = refl;
  branches = refl;
  if_both = refl;
  either = refl;
  opposite = refl;
  nested = refl;
  while_loop = refl;
  for_loop = refl;
  for_without_condition = refl;
  for_without_step = refl;
  slots_in_order = refl;
  value_of_local = refl;
  value_of_cell = refl;
  value_of_call = refl;
  value_of_sum = refl;
  unknown_member = refl;
  unknown_member_of_cell = refl;
  stopped = refl;
  stopped_after_parts = refl;
  stopped_in_erased = refl;
  stopped_before_access = refl;
  nothing_behind = refl;
  lists_of_their_own = refl;
  head_of_loop = refl;
}
