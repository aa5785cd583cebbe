-- A reader of a new message goes on from piece to piece.
use Rattle.std.proofs.Common.{◌≡◌, ℕ, ◌+◌, ◌-◌, ◌<◌, ◌≤◌, List, [], ◌∷◌, ◌++◌, length, Some, None, Ok, Err, refl, sym, ap, subst, ◌∙◌, append-nil, arith}
use Rattle.std.specs.Prelude.{take}
use Rattle.std.proofs.lemmas.List.{length-append, length-take, take_all}
use Rattle.px_spelling.specs.declared.fault.WireFault.TheVariants.{NotAMessage}
use Rattle.px_wire.specs.Messages.{MessageTree}
use Rattle.px_wire.specs.Versions.{SpellsIn}
use Rattle.px_parts.specs.declared.part.Part.{Part}
use Rattle.px_parts.specs.declared.part.Part.TheVariants as P
use Rattle.px_parts.specs.declared.part.Taken.{Taken}
use Rattle.px_parts.specs.Places.{Place, Start, Over}
use Rattle.px_parts.specs.Parts.{parts_of, IsReplying}
use Rattle.px_parts.specs.Stream.{Comes, head, listed_head, too_large, entry, a_drop, derivation, Streams, stays, goes}
use Rattle.px_parts.specs.Taking.{Waiting, waits, refuses, IsFound, IsTakenOn, IsTaken}
use Rattle.px_parts.specs.Laws.{IsWhole}
use Rattle.px_parts.specs.Following.{HasGiven, to_give, PartsFollow}
use Rattle.px_parts.proofs.Streaming.{streams_begin, streams_more}
use Rattle.px_parts.proofs.PartsMessage.{message_of}
use Rattle.px_parts.proofs.Pieces.{found_whole, answers, said_streams}

begins : (n : ℕ) → HasGiven [] n [] (waits Start [] n)
begins n = record { place = Start; rest = []; is = refl; streams = stays }

-- ---- one piece

all_of : (piece : List ℕ) (left : ℕ) → length piece ≤ left → take left piece ≡ piece
all_of piece left within = take_all left piece within

-- what comes in the bytes that are held and a piece comes in all bytes
goes_on : (bytes piece rest after : List ℕ) (left : ℕ) (parts others : List Part) (p q : Place) → length piece ≤ left → Streams Start bytes parts p rest →
    Streams p (rest ++ take left piece) others q after → Streams Start (bytes ++ piece) (parts ++ others) q after
goes_on bytes piece rest after left parts others p q within first next =
    streams_more Start p q bytes rest piece after parts others first (subst (λ l. Streams p (rest ++ l) others q after) (all_of piece left within) next)

goes_quietly : (bytes piece rest after : List ℕ) (left : ℕ) (parts : List Part) (p q : Place) → length piece ≤ left → Streams Start bytes parts p rest →
    Streams p (rest ++ take left piece) [] q after → Streams Start (bytes ++ piece) parts q after
goes_quietly bytes piece rest after left parts p q within first next =
    subst (λ l. Streams Start (bytes ++ piece) l q after) (append-nil parts) (goes_on bytes piece rest after left parts [] p q within first next)

on : (bytes piece : List ℕ) (left : ℕ) (parts : List Part) (w v : Waiting) (t : Taken) (g : HasGiven bytes left parts w) → IsTaken w piece (Ok t) v → IsTakenOn g.place g.rest left piece (Ok t) v
on bytes piece left parts w v t g taken = answers w v g.place g.rest piece left (Ok t) g.is taken

gave : (bytes piece : List ℕ) (left : ℕ) (parts : List Part) (w v : Waiting) (t : Taken) → HasGiven bytes left parts w → length piece ≤ left → IsTaken w piece (Ok t) v →
    IsWhole t.part → HasGiven (bytes ++ piece) (left - length piece) (parts ++ t.part ∷ []) v
gave bytes piece left parts w v t g within taken whole =
    let found = found_whole g.place (g.rest ++ take left piece) (left - length piece) t.part v whole (on bytes piece left parts w v t g taken).1 in
    record {
      place = found.0;
      rest = found.1;
      is = found.3;
      streams = goes_on bytes piece g.rest found.1 left parts (t.part ∷ []) g.place found.0 within g.streams found.2;
    }

held : (bytes piece : List ℕ) (left : ℕ) (parts : List Part) (w v : Waiting) (t : Taken) → HasGiven bytes left parts w → length piece ≤ left → IsTaken w piece (Ok t) v →
    t.part ≡ P.Held → HasGiven (bytes ++ piece) (left - length piece) parts v × (0 < left - length piece)
held bytes piece left parts w v t g within taken is =
    let found = subst (λ x. IsFound g.place (g.rest ++ take left piece) (left - length piece) x v) is (on bytes piece left parts w v t g taken).1 in
    (record { place = found.0; rest = found.1; is = found.5; streams = goes_quietly bytes piece g.rest found.1 left parts g.place found.0 within g.streams found.2 }, found.4)

ended : (bytes piece : List ℕ) (left : ℕ) (parts : List Part) (w v : Waiting) (t : Taken) → HasGiven bytes left parts w → length piece ≤ left → IsTaken w piece (Ok t) v →
    t.part ≡ P.End → (left - length piece ≡ 0) × (number : ℕ) × (m : MessageTree) × IsReplying m × SpellsIn number (bytes ++ piece) m × (parts_of number m ≡ parts)
ended bytes piece left parts w v t g within taken is =
    let found = subst (λ x. IsFound g.place (g.rest ++ take left piece) (left - length piece) x v) is (on bytes piece left parts w v t g taken).1 in
    let said = message_of (bytes ++ piece) parts (goes_quietly bytes piece g.rest [] left parts g.place Over within g.streams found.0) in
    (found.1, said.0, said.1, said.2, said.3, said.4)

refused : (bytes piece : List ℕ) (left : ℕ) (parts : List Part) (w v : Waiting) → HasGiven bytes left parts w → length piece ≤ left → IsTaken w piece (Err NotAMessage) v →
    (more : List ℕ) → length more ≡ left - length piece → (number : ℕ) (m : MessageTree) → IsReplying m → ¬ SpellsIn number ((bytes ++ piece) ++ more) m
refused bytes piece left parts w v g within taken more many number m replying spells =
    let none : IsTakenOn g.place g.rest left piece (Err NotAMessage) v = answers w v g.place g.rest piece left (Err NotAMessage) g.is taken in
    let here : Streams Start (bytes ++ piece) parts g.place (g.rest ++ take left piece) = goes_quietly bytes piece g.rest (g.rest ++ take left piece) left parts g.place g.place within g.streams stays in
    let e = streams_begin Start g.place (bytes ++ piece) (g.rest ++ take left piece) more parts (parts_of number m) here (said_streams number m ((bytes ++ piece) ++ more) replying spells) in
    none.0 more many e.0 e.2

front : (bytes more : List ℕ) (left : ℕ) (parts : List Part) (w : Waiting) (number : ℕ) (m : MessageTree) → HasGiven bytes left parts w → IsReplying m → SpellsIn number (bytes ++ more) m →
    (others : List Part) × (parts_of number m ≡ parts ++ others)
front bytes more left parts w number m g replying spells =
    let e = streams_begin Start g.place bytes g.rest more parts (parts_of number m) g.streams (said_streams number m (bytes ++ more) replying spells) in (e.0, e.1)

-- ---- each part has bytes

has_bytes : (p q : Place) (x : Part) (bytes : List ℕ) → Comes p (Some x) q bytes → 0 < length bytes
has_bytes _ _ _ bytes (head ticket kinds _ fits is) = subst (λ l. 0 < length l) (sym is) (omega arith)
has_bytes _ _ _ bytes (listed_head terms ticket kinds _ are fits is) = subst (λ l. 0 < length l) (sym is) (omega arith)
has_bytes _ _ _ bytes (too_large number ticket _ fits is) = subst (λ l. 0 < length l) (sym is) (omega arith)
has_bytes _ _ _ bytes (entry n r k after e _ fits within order on is) = subst (λ l. 0 < length l) (sym is) (omega arith)
has_bytes _ _ _ bytes (a_drop n k after g _ fits within order on is) = subst (λ l. 0 < length l) (sym is) (omega arith)
has_bytes _ _ _ bytes (derivation n d _ fits is) = subst (λ l. 0 < length l) (sym is) (omega arith)

shorter : (p q : Place) (bytes rest : List ℕ) (parts : List Part) → Streams p bytes parts q rest → length rest ≤ length bytes
shorter p _ bytes _ parts stays = omega arith
shorter p q bytes rest parts (goes {q = s} {after = after} {more = more} x (front, comes, is) next are) =
    omega (arith, shorter s q after rest more next, ap length is, length-append front after)

some_or : List Part → ℕ
some_or [] = 0
some_or (x ∷ xs) = 1

part_falls : (p q : Place) (bytes rest : List ℕ) (x : Part) (parts all : List Part) → Streams p bytes all q rest → all ≡ x ∷ parts → length rest < length bytes
unfolding some_or
part_falls p _ bytes _ x parts _ stays is = let clash : 0 ≡ 1 = ap some_or is in absurd (omega (arith, clash))
part_falls p q bytes rest x parts all (goes {q = s} {after = after} {more = more} None (front, comes, at) next are) is =
    omega (arith, part_falls s q after rest x parts more next (sym are ∙ is), ap length at, length-append front after)
part_falls p q bytes rest x parts all (goes {q = s} {after = after} {more = more} (Some y) (front, comes, at) next are) is =
    omega (arith, has_bytes p s y front comes, shorter s q after rest more next, ap length at, length-append front after)

fewer_on : (p : Place) (held piece : List ℕ) (left : ℕ) (v : Waiting) (t : Taken) → IsTakenOn p held left piece (Ok t) v → IsWhole t.part → to_give v < length held + left
fewer_on p held piece left v t taken whole =
    let found = found_whole p (held ++ take left piece) (left - length piece) t.part v whole taken.1 in
    let falls : length found.1 < length (held ++ take left piece) = part_falls p found.0 (held ++ take left piece) found.1 t.part [] (t.part ∷ []) found.2 refl in
    subst (λ z. to_give z < length held + left) (sym found.3) (omega (arith, falls, length-append held (take left piece), length-take left piece))

no_answer : (t : Taken) → Ok t ≡ Err NotAMessage → ⊥
no_answer t clash = absurd cc

fewer : (piece : List ℕ) (w v : Waiting) (t : Taken) → IsTaken w piece (Ok t) v → IsWhole t.part → to_give v < to_give w
fewer piece (waits p held left) v t taken whole = fewer_on p held piece left v t taken whole
fewer piece refuses v t (clash, same) whole = absurd (no_answer t clash)

pub parts_follow : PartsFollow
parts_follow = record { begins = begins; gave = gave; held = held; ended = ended; refused = refused; front = front; fewer = fewer }
