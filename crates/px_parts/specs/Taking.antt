-- What a reader answers to a piece.
use Rattle.std.specs.Prelude.{◌≡◌, ℕ, ◌-◌, ◌<◌, min, List, [], ◌∷◌, ◌++◌, length, take, Result, Ok, Err}
use Rattle.px_spelling.specs.declared.fault.WireFault.{WireFault}
use Rattle.px_spelling.specs.declared.fault.WireFault.TheVariants.{NotAMessage, NoMemory}
use Rattle.px_parts.specs.declared.part.Part.{Part}
use Rattle.px_parts.specs.declared.part.Part.TheVariants as P
use Rattle.px_parts.specs.declared.part.Taken.{Taken}
use Rattle.px_parts.specs.Places.{Place, Over}
use Rattle.px_parts.specs.Stream.{Streams, IsStuck}

-- What a reader waits for: what comes next, the bytes from there that were taken, and how many bytes of the message weren't. Or it
-- has refused the bytes.
pub data Waiting : Type 0 where
  waits : Place → List ℕ → ℕ → Waiting
  refuses : Waiting

-- a part comes at the front of these bytes, and so many weren't taken
abbrev pub IsNext : Place → List ℕ → ℕ → Part → Waiting → Type 0
IsNext p bytes left x after = (q : Place) × (rest : List ℕ) × Streams p bytes (x ∷ []) q rest × (after ≡ waits q rest left)

-- what is found in the bytes from a place that were taken, where so many weren't
abbrev pub IsFound : Place → List ℕ → ℕ → Part → Waiting → Type 0
IsFound p bytes left P.Held after = (q : Place) × (rest : List ℕ) × Streams p bytes [] q rest × IsStuck q rest × (0 < left) × (after ≡ waits q rest left)
IsFound p bytes left (P.Head number ticket kinds) after = IsNext p bytes left (P.Head number ticket kinds) after
IsFound p bytes left (P.Entry e) after = IsNext p bytes left (P.Entry e) after
IsFound p bytes left (P.Drop g) after = IsNext p bytes left (P.Drop g) after
IsFound p bytes left (P.Derivation d) after = IsNext p bytes left (P.Derivation d) after
IsFound p bytes left (P.Large number ticket) after = IsNext p bytes left (P.Large number ticket) after
IsFound p bytes left P.End after = Streams p bytes [] Over [] × (left ≡ 0) × (after ≡ waits Over [] 0)

-- however the bytes from a place go on, as many as weren't taken, they are no message's end
abbrev pub IsNoEnd : Place → List ℕ → ℕ → Type 0
IsNoEnd p bytes left = (more : List ℕ) → length more ≡ left → (parts : List Part) → ¬ Streams p (bytes ++ more) parts Over []

-- where it waits at a place, with bytes from there, and so many weren't taken
abbrev pub IsTakenOn : Place → List ℕ → ℕ → List ℕ → Result Taken WireFault → Waiting → Type 0
IsTakenOn p held left piece (Ok t) after = (t.taken ≡ min left (length piece)) × IsFound p (held ++ take left piece) (left - length piece) t.part after
IsTakenOn p held left piece (Err NotAMessage) after = IsNoEnd p (held ++ take left piece) (left - length piece) × (after ≡ refuses)
IsTakenOn p held left piece (Err NoMemory) after = after ≡ waits p held left

-- a reader that waits for this answers that to a piece, and then waits for that
abbrev pub IsTaken : Waiting → List ℕ → Result Taken WireFault → Waiting → Type 0
IsTaken (waits p held left) piece answer after = IsTakenOn p held left piece answer after
IsTaken refuses piece answer after = (answer ≡ Err NotAMessage) × (after ≡ refuses)
