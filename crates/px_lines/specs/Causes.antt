-- Why a run ends early: the status with which it ends, and the line that says so.
use Rattle.std.specs.Prelude.{◌≡◌, List, ℕ, ◌++◌, Result, Ok, Err}
use Rattle.px_lines.specs.declared.cause.Cause.{Cause}
use Rattle.px_lines.specs.declared.cause.Cause.TheVariants as C
use Rattle.px_lines.specs.declared.status.Status.{Status}
use Rattle.px_lines.specs.declared.status.Status.TheVariants as S
use Rattle.px_lines.specs.Lines.{usage_text, cannot_read_line, input_unread_line, cannot_write_line, long_line, many_line, out_of_memory_line, bad_request_line, other_domains_line}
use Rattle.px_lines.specs.Sinks.{Change, Tells}

abbrev pub status_of : Cause → Status
status_of C.Usage = S.Usage
status_of (C.UnreadFile name) = S.Unread
status_of C.UnreadInput = S.Unread
status_of C.Unwritten = S.Unwritten
status_of (C.LongFile name) = S.Refused
status_of (C.FaultyFile name fault) = S.Refused
status_of C.ManyProcedures = S.Refused
status_of C.NoMemory = S.NoMemory
status_of (C.BadRequest place) = S.BadInput
status_of (C.OtherDomains place) = S.BadInput

abbrev pub line_of : Cause → List ℕ
line_of C.Usage = usage_text
line_of (C.UnreadFile name) = cannot_read_line name.now
line_of C.UnreadInput = input_unread_line
line_of C.Unwritten = cannot_write_line
line_of (C.LongFile name) = long_line name.now
line_of (C.FaultyFile name fault) = name.now ++ fault.now
line_of C.ManyProcedures = many_line
line_of C.NoMemory = out_of_memory_line
line_of (C.BadRequest place) = bad_request_line place
line_of (C.OtherDomains place) = other_domains_line place

-- the status of a run that ended so
abbrev pub status_after : Result Status Cause → Status
status_after (Ok status) = status
status_after (Err cause) = status_of cause

-- what became of standard error: it is as it was, or the cause was told
abbrev pub IsTold : Change → Type 0 → Result Status Cause → Type 0
IsTold err same (Ok status) = same
IsTold err same (Err cause) = Tells err (line_of cause)
