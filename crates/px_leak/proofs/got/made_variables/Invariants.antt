use Rattle.std.proofs.Common.{◌≡◌, ◌++◌, drop}
use Rattle.px_leak.specs.Losses.{made_from}
use Rattle.px_leak.proofs.got.made_variables.Given as goal

abbrev pub invariant-loop-number : goal.invariant-loop-number
invariant-loop-number l = l.made.items ++ made_from l.number (drop l.number l.vars) ≡ made_from 0 l.vars
