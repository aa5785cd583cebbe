-- How many procedures a sample may have.
use Rattle.std.specs.Prelude.{◌≡◌, ℕ, ◌≤◌}
use Rattle.px_gen.specs.declared.fault.GenFault.{GenFault}
use Rattle.px_gen.specs.declared.fault.GenFault.TheVariants.{OutOfRange, NoMemory}

abbrev pub IsInRange : ℕ → Type 0
IsInRange n = (1 ≤ n) × (n ≤ 1000)

-- why there is no sample of n procedures: they are too few or too many, or else memory is wanting
abbrev pub IsFaultOf : ℕ → GenFault → Type 0
IsFaultOf n (OutOfRange m) = (m ≡ n) × ¬ IsInRange n
IsFaultOf n NoMemory = IsInRange n
