use Rattle.std.proofs.Common.{◌≡◌, ◌+◌, drop}
use Rattle.px_real_tokens.specs.Bytes.{line_goes_on, run_of}
use Rattle.px_real_tokens.proofs.ends.line_run.Given as goal

abbrev pub invariant-loop-index : goal.invariant-loop-index
invariant-loop-index l = run_of line_goes_on 0 l.bytes ≡ l.index + run_of line_goes_on l.before (drop l.index l.bytes)
