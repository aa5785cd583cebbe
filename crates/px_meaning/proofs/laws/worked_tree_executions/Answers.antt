use Rattle.px_meaning.proofs.WorkedOnTrees.{unchecked_fails, wraps_fails, reads_input_fails, unset_fails, after_free_fails, in_callee_fails, in_loop_fails, erased_access_fails, around_passed_returns, member_of_null_fails, member_of_unset_fails, member_kept_returns}
use Rattle.px_meaning.proofs.laws.worked_tree_executions.Goals as goal

pub returns : goal.returns
returns c = record {
  unchecked_malloc = unchecked_fails;
  wrapping = wraps_fails;
  reading_input = reads_input_fails;
  never_written = unset_fails;
  after_free = after_free_fails;
  in_callee = in_callee_fails;
  in_loop = in_loop_fails;
  erased_access = erased_access_fails;
  around_passed = around_passed_returns;
  member_of_null = member_of_null_fails;
  member_of_unset = member_of_unset_fails;
  member_kept = member_kept_returns;
}
