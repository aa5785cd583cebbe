-- What a call gives, against what the rules give.
use Rattle.std.specs.Prelude.{◌≡◌, Option, Some, None, Result, Ok, Err}
use Rattle.px_bodies.specs.declared.refusal.Refusal.{Refusal}
use Rattle.px_bodies.specs.declared.refusal.Refusal.TheVariants.{Rule, NoMemory}

-- a rule refuses; want of memory says nothing of the rules
abbrev pub Refuses : {Y : Type 0} → Refusal → Option Y → Type 0
Refuses Rule wanted = wanted ≡ None
Refuses NoMemory wanted = Unit {0}

abbrev pub Yields : {X Y : Type 0} → (X → Y) → Result X Refusal → Option Y → Type 0
Yields view (Ok x) wanted = wanted ≡ Some (view x)
Yields view (Err e) wanted = Refuses e wanted
