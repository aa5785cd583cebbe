use Rattle.px_meaning.proofs.Worked.{unchecked_fails, wraps_fails, reads_input_fails, unset_fails, after_free_fails, not_before_access, never_passed, in_callee_fails, in_loop_fails}
use Rattle.px_meaning.proofs.laws.worked_executions.Goals as goal

pub returns : goal.returns
returns c = record {
  unchecked_malloc = unchecked_fails;
  wrapping = wraps_fails;
  reading_input = reads_input_fails;
  never_written = unset_fails;
  after_free = after_free_fails;
  not_before = not_before_access;
  not_passed = never_passed;
  in_callee = in_callee_fails;
  in_loop = in_loop_fails;
}
