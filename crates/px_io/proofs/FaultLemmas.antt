-- Counts that rise.
use Rattle.std.proofs.Common.{ℕ, inl, inr, arith}
use Rattle.std.proofs.lemmas.Bool.{cases_lt}
use Rattle.px_io.specs.Faults.{Rose, RoseOnce}

-- a count that rose once rose
pub rose_once : (a b : ℕ) → RoseOnce a b → Rose a b
rose_once a b once = elim (cases_lt a b) [ inl less ↦ inl less | inr more ↦ inr (omega arith) ]
