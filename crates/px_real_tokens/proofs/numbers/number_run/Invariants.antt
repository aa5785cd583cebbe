use Rattle.std.proofs.Common.{◌≡◌, ◌+◌, drop}
use Rattle.px_real_tokens.specs.Bytes.{number_goes_on, run_of}
use Rattle.px_real_tokens.proofs.numbers.number_run.Given as goal

abbrev pub invariant-loop-index : goal.invariant-loop-index
invariant-loop-index l = run_of number_goes_on l.first l.bytes ≡ l.index + run_of number_goes_on l.before (drop l.index l.bytes)
