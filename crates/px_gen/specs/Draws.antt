-- Numbers that look random: a linear congruential generator modulo 2^31.
use Rattle.std.specs.Prelude.{ℕ, zero, suc, ◌+◌, ◌*◌, ◌/◌, ◌%◌, ◌^◌}

-- the state that a start gives
abbrev pub first_state : ℕ → ℕ
first_state start = start % 2 ^ 31

abbrev pub next_state : ℕ → ℕ
next_state s = (s * 1103515245 + 12345) % 2 ^ 31

-- the state after so many draws
abbrev pub state_after : ℕ → ℕ → ℕ
state_after zero s = s
state_after (suc n) s = next_state (state_after n s)

-- the number that the n-th draw from a state gives, where the first has the number 1: the higher bits of the state that it leads to
abbrev pub draw : ℕ → ℕ → ℕ
draw n s = state_after n s / 65536
