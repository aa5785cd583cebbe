use Rattle.std.proofs.Common.{◌≡◌, ℕ, ◌||◌, false, get_or, drop}
use Rattle.px_jobs.specs.Plans.{is_among}
use Rattle.px_jobs.proofs.flags.flags_of.Given as goal

-- a flag is set, or its function is still to come, where it is one of them
abbrev pub invariant-loop-function : goal.invariant-loop-function
invariant-loop-function l = (g : ℕ) → (get_or l.flags.items g false || is_among g (drop l.function-index l.functions)) ≡ is_among g l.functions
