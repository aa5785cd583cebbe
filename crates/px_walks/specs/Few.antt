-- Few blocks are met in the state that an act leaves.
use Rattle.std.specs.Prelude.{◌≡◌, ◌<◌, ◌^◌, length, Option, Some, None, ⊤}
use Rattle.px_callgraph.specs.declared.states.State.{State}
use Rattle.px_steps.specs.declared.led.Led.{Led}
use Rattle.px_steps.specs.declared.led.Led.TheVariants as act

-- from a state the act leads so, and leaves another
abbrev pub IsFewLeft : State → Option Led → State → Type 0
IsFewLeft s None t = t ≡ s
IsFewLeft s (Some act.Goes) t = length t.atoms < 2 ^ 32
IsFewLeft s (Some (act.Ends exit result)) t = length s.atoms < 2 ^ 32 → length t.atoms < 2 ^ 32
IsFewLeft s (Some (act.Cut gap)) t = t ≡ s

-- where the path goes on, this holds
abbrev pub IfGoes : Option Led → Type 0 → Type 0
IfGoes None P = ⊤
IfGoes (Some act.Goes) P = P
IfGoes (Some (act.Ends exit result)) P = ⊤
IfGoes (Some (act.Cut gap)) P = ⊤
