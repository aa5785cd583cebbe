-- The locals of a procedure that is being executed.
use Rattle.std.specs.Prelude.{ℕ, cond, nat_eq}
use Rattle.px_meaning.specs.Values.{Value}

-- the value of each local
abbrev pub Locals : Type 0
Locals = ℕ → Value

abbrev pub with_local : Locals → ℕ → Value → Locals
with_local locals number value n = cond (nat_eq n number) value (locals n)
