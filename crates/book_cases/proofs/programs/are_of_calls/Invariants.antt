use Rattle.std.proofs.Common.{◌≡◌, drop}
use Rattle.std.specs.List.{list_all}
use Rattle.book_cases.specs.Calls.{is_body_of_calls}
use Rattle.book_cases.proofs.programs.are_of_calls.Given as goal

-- those that are left are bodies of calls where all are
abbrev pub invariant-loop-body : goal.invariant-loop-body
invariant-loop-body l = list_all (is_body_of_calls l.names) (drop l.body-index l.bodies) ≡ list_all (is_body_of_calls l.names) l.bodies
