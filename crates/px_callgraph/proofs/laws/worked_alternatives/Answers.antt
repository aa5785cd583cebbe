use Rattle.std.proofs.Common.{refl}
use Rattle.std.specs.Int.{int_wrap}
use Rattle.px_callgraph.specs.Alternatives.{ways, act, alternatives}
use Rattle.px_callgraph.proofs.laws.worked_alternatives.Goals as goal

pub returns-clause-words : goal.returns-clause-words
unfolding ways act alternatives
returns-clause-words c = record {
  equal = refl;
  decided = refl;
  signed = refl;
  stands = refl;
  negated = refl;
  unset_slot = refl;
  not_words = refl;
  input_byte = refl;
  read_word = refl;
  read_unwritten = refl;
  read_cell = refl;
  return_word = refl;
  return_nothing = refl;
  return_too_much = refl;
  return_wrong_type = refl;
  stopped = refl;
}

pub returns-clause-loops : goal.returns-clause-loops
unfolding ways act alternatives
returns-clause-loops c = record { once_more = refl; beyond = refl; left = refl; broken = refl; continued = refl; in_none = refl }

pub returns-clause-limits : goal.returns-clause-limits
unfolding ways act alternatives
returns-clause-limits c = record {
  full_trace = refl;
  first = refl;
  steps = refl;
  last_conjunct = refl;
  conjunct_too_many = refl;
  long_difference = refl;
  long_conjunct = refl;
  long_product = refl;
  stop_too_far = refl;
}

pub returns-clause-divisions : goal.returns-clause-divisions
unfolding ways act alternatives int_wrap
returns-clause-divisions c = record {
  by_variable = refl;
  stands = refl;
  of_variable = refl;
  never = refl;
  constant_by_zero = refl;
  constants = refl;
  least = refl;
  not_words = refl;
  unwritten = refl;
  conjunct_too_many = refl;
  steps = refl;
}

pub returns-clause-blocks : goal.returns-clause-blocks
unfolding ways act alternatives
returns-clause-blocks c = record {
  load_parameter = refl;
  free_parameter = refl;
  store_made = refl;
  free_made = refl;
  through_null = refl;
  unread = refl;
  a_word = refl;
  other_type = refl;
  wrong_content = refl;
  no_field = refl;
  malloc_node = refl;
  malloc_hidden = refl;
  no_room = refl;
}

pub returns-clause-calls : goal.returns-clause-calls
unfolding ways act alternatives
returns-clause-calls c = record {
  two_required = refl;
  not_freed = refl;
  value_known = refl;
  value_unwritten = refl;
  value_missing = refl;
  new_numbers = refl;
  not_regular = refl;
  too_few = refl;
  wrong_type = refl;
  unwritten_argument = refl;
  drops = refl;
  cycle = refl;
  left_out = refl;
  unnamed = refl;
  no_room_to_return = refl;
}
