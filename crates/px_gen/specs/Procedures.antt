-- The procedures of a sample, each drawn from a state.
use Rattle.std.specs.Prelude.{ℕ, zero, suc, ◌%◌, ◌==◌, if◌then◌else◌}
use Rattle.px_gen.specs.declared.kind.Kind.{Kind}
use Rattle.px_gen.specs.declared.kind.Kind.TheVariants.{Unchecked, Checked, WritesFreed, WritesGiven, FreesGiven, Calls}
use Rattle.px_gen.specs.Draws.{first_state, state_after, draw}

-- ---- what is drawn

-- a call goes to an earlier procedure, so the first procedure, which has none, is checked in its place
abbrev pub calling : ℕ → ℕ → Kind
calling zero third = Checked
calling (suc i) third = Calls (third % suc i)

-- the kind of procedure i: the first draw gives it, and the third the callee of a call
abbrev pub kind : ℕ → ℕ → Kind
kind i s =
    let n = draw 1 s % 6 in
    if n == 0 then Unchecked
    else if n == 1 then Checked
    else if n == 2 then WritesFreed
    else if n == 3 then WritesGiven
    else if n == 4 then FreesGiven
    else calling i (draw 3 s)

-- the constant of a procedure
abbrev pub constant : ℕ → ℕ
constant s = draw 2 s % 100

-- how many draws a procedure takes
abbrev pub draw_count : Kind → ℕ
draw_count (Calls callee) = 3
draw_count Unchecked = 2
draw_count Checked = 2
draw_count WritesFreed = 2
draw_count WritesGiven = 2
draw_count FreesGiven = 2

-- the state from which procedure i is drawn, and the one that it leaves
abbrev pub state_after_procedure : ℕ → ℕ → ℕ
state_after_procedure i s = state_after (draw_count (kind i s)) s

abbrev pub state_before : ℕ → ℕ → ℕ
state_before start zero = first_state start
state_before start (suc i) = state_after_procedure i (state_before start i)
