-- Events that follow some first marks of a script.
use Rattle.std.proofs.Common.{◌≡◌, ◌⊎◌, ℕ, zero, suc, ℤ, List, [], ◌∷◌, take, length, refl, sym, ap}
use Rattle.std.specs.Prelude.{⊤}
use Rattle.px_base.specs.declared.trace.Mark.{Mark}
use Rattle.px_base.specs.declared.trace.MarkKind.TheVariants.{Got, Input}
use Rattle.px_meaning.specs.Events.{Event, marks, reads, makes, mark}
use Rattle.px_replay.specs.Following.{IsLeast, Follows, IsTaken}
use Rattle.px_replay.specs.Script.{PlainScript}
use Rattle.px_replay.proofs.TakenBlocks.{SameTaken, least_alike, also_alike}

-- The events have the first marks of the script, the values that are read are the first of its inputs, and each new
-- block has the least number that isn't taken.
abbrev pub Obeys : (ℕ → Type 0) → List ℤ → List Mark → List Event → Type 0
Obeys taken inputs trace [] = ⊤
Obeys taken inputs trace (marks m ∷ events) = (rest : List Mark) × (trace ≡ m ∷ rest) × Obeys taken inputs rest events
Obeys taken inputs trace (reads site z ∷ events) =
    (rest : List Mark) × (more : List ℤ) × (trace ≡ mark Input site ∷ rest) × (inputs ≡ z ∷ more) × Obeys taken more rest events
Obeys taken inputs trace (makes site n ∷ events) =
    (rest : List Mark) × (trace ≡ mark Got site ∷ rest) × IsLeast taken n × Obeys (λ k. taken k ⊎ (k ≡ n)) inputs rest events

-- those of a script, from its heap
abbrev pub ObeysScript : PlainScript → List Event → Type 0
ObeysScript s events = Obeys (IsTaken s.heap) s.inputs s.marks events

-- what follows some first marks obeys them all, and has as many events as marks were followed
pub follows_obeys : (taken : ℕ → Type 0) (inputs : List ℤ) (trace : List Mark) (at : ℕ) (events : List Event) → Follows taken inputs (take at trace) events → Obeys taken inputs trace events
follows_obeys taken inputs trace at [] h = tt
follows_obeys taken inputs trace zero (e ∷ events) h = absurd h
follows_obeys taken inputs [] (suc at) (e ∷ events) h = absurd h
follows_obeys taken inputs (m ∷ trace) (suc at) (marks k ∷ events) h =
    (trace, ap (λ k. k ∷ trace) (sym h.0), follows_obeys taken inputs trace at events h.2)
follows_obeys taken [] (m ∷ trace) (suc at) (reads site z ∷ events) h = absurd h
follows_obeys taken (i ∷ inputs) (m ∷ trace) (suc at) (reads site z ∷ events) h =
    (trace, inputs, ap (λ k. k ∷ trace) (sym h.0), ap (λ i. i ∷ inputs) (sym h.1), follows_obeys taken inputs trace at events h.2)
follows_obeys taken inputs (m ∷ trace) (suc at) (makes site n ∷ events) h =
    (trace, ap (λ k. k ∷ trace) (sym h.0), h.1, follows_obeys (λ k. taken k ⊎ (k ≡ n)) inputs trace at events h.2)

pub follows_length : (taken : ℕ → Type 0) (inputs : List ℤ) (trace : List Mark) (events : List Event) → Follows taken inputs trace events → length events ≡ length trace
follows_length taken inputs [] [] h = refl
follows_length taken inputs [] (e ∷ events) h = absurd h
follows_length taken inputs (m ∷ trace) [] h = absurd h
follows_length taken inputs (m ∷ trace) (marks k ∷ events) h = ap suc (follows_length taken inputs trace events h.2)
follows_length taken [] (m ∷ trace) (reads site z ∷ events) h = absurd h
follows_length taken (i ∷ inputs) (m ∷ trace) (reads site z ∷ events) h = ap suc (follows_length taken inputs trace events h.2)
follows_length taken inputs (m ∷ trace) (makes site n ∷ events) h = ap suc (follows_length (λ k. taken k ⊎ (k ≡ n)) inputs trace events h.2)

pub obeys_alike : (taken taken' : ℕ → Type 0) (inputs : List ℤ) (trace : List Mark) (events : List Event) → SameTaken taken taken' → Obeys taken inputs trace events → Obeys taken' inputs trace events
obeys_alike taken taken' inputs trace [] a h = tt
obeys_alike taken taken' inputs trace (marks m ∷ events) a (rest, e, h) = (rest, e, obeys_alike taken taken' inputs rest events a h)
obeys_alike taken taken' inputs trace (reads site z ∷ events) a (rest, more, e, f, h) = (rest, more, e, f, obeys_alike taken taken' more rest events a h)
obeys_alike taken taken' inputs trace (makes site n ∷ events) a (rest, e, l, h) =
    (rest, e, least_alike taken taken' n a l, obeys_alike (λ k. taken k ⊎ (k ≡ n)) (λ k. taken' k ⊎ (k ≡ n)) inputs rest events (also_alike taken taken' n a) h)
