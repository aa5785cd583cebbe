-- A link that is one of two kinds.
use Rattle.std.specs.Prelude.{ℕ, ⊤, List, Result}
use Rattle.px_io.specs.declared.sink.Failed.{Failed}
use Rattle.px_pool.specs.Talks.{Talk}
use Rattle.px_pool.specs.ScriptLink.{talk_of as script_talk, Takes as ScriptTakes, Gives as ScriptGives}
use Rattle.px_test_links.specs.declared.mixed_link.MixedLink.{MixedLink}
use Rattle.px_test_links.specs.declared.mixed_link.MixedLink.TheVariants as M

-- what passed over it
abbrev pub talk_of : {X : Type 0} {Y : X → Type 0} → MixedLink X Y → Talk
talk_of (M.Script l) = script_talk l
talk_of (M.InPlace l) = l.talk

-- how often a call of it has failed
abbrev pub faults_of : {X : Type 0} {Y : X → Type 0} → MixedLink X Y → ℕ
faults_of (M.Script l) = l.faults
faults_of (M.InPlace l) = l.faults

-- A call of `send` with these bytes answers this, and leaves that: a link stays of its kind, and a script is the next call.
abbrev pub Takes : {X : Type 0} {Y : X → Type 0} → MixedLink X Y → List ℕ → Result ⊤ Failed → MixedLink X Y → Type 0
Takes (M.Script s) bytes answer (M.Script t) = ScriptTakes s bytes answer t
Takes (M.Script s) bytes answer (M.InPlace t) = ⊥
Takes (M.InPlace s) bytes answer (M.Script t) = ⊥
Takes (M.InPlace s) bytes answer (M.InPlace t) = ⊤

-- the same of a call of `receive` with this room
abbrev pub Gives : {X : Type 0} {Y : X → Type 0} → MixedLink X Y → ℕ → Result (List ℕ) Failed → MixedLink X Y → Type 0
Gives (M.Script s) room answer (M.Script t) = ScriptGives s room answer t
Gives (M.Script s) room answer (M.InPlace t) = ⊥
Gives (M.InPlace s) room answer (M.Script t) = ⊥
Gives (M.InPlace s) room answer (M.InPlace t) = ⊤
