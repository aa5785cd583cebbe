-- What a run of pieces gives.
use Rattle.std.proofs.Common.{◌≡◌, ◌≢◌, ℕ, zero, suc, ◌+◌, ◌-◌, ◌<◌, List, [], ◌∷◌, ◌++◌, length, Result, Ok, Err, refl, sym, ap, subst, ◌∙◌, append_assoc, append-nil, arith}
use Rattle.std.specs.Prelude.{take, drop, min}
use Rattle.std.proofs.lemmas.List.{length-append, length-drop, length-take, drop_min, drop_all, take_all}
use Rattle.std.proofs.Math.Seq.{take-nil}
use Rattle.px_spelling.specs.declared.fault.WireFault.{WireFault}
use Rattle.px_spelling.specs.declared.fault.WireFault.TheVariants.{NotAMessage, NoMemory}
use Rattle.px_wire.specs.Messages.{MessageTree}
use Rattle.px_wire.specs.Versions.{SpellsIn}
use Rattle.px_parts.specs.declared.part.Part.{Part}
use Rattle.px_parts.specs.declared.part.Part.TheVariants as P
use Rattle.px_parts.specs.declared.part.Taken.{Taken}
use Rattle.px_parts.specs.Places.{Place, Start, Over}
use Rattle.px_parts.specs.Parts.{parts_of, IsReplying}
use Rattle.px_parts.specs.Stream.{Streams, stays}
use Rattle.px_parts.specs.Taking.{Waiting, waits, refuses, IsNext, IsFound, IsTakenOn, IsTaken}
use Rattle.px_parts.specs.Laws.{IsWhole, Takes, none, gave, held, joined, taken_of, IsEndAtMost, PartsAreThose}
use Rattle.px_parts.proofs.Streaming.{streams_end, streams_begin, streams_more, no_further, longer}
use Rattle.px_parts.proofs.MessageParts.{message_streams}
use Rattle.px_parts.proofs.PartsMessage.{message_of}

-- ---- pieces of bytes

shorter : (n x : ℕ) (xs : List ℕ) → suc n - length (x ∷ xs) ≡ n - length xs
shorter n x xs = omega arith

nothing_left : (xs : List ℕ) → 0 - length xs ≡ 0
nothing_left xs = omega arith

all_left : (n : ℕ) → n - length {A = ℕ} [] ≡ n
all_left n = omega arith

take_over : (left : ℕ) (piece more : List ℕ) → take left (piece ++ more) ≡ take left piece ++ take (left - length piece) more
take_over zero piece more = rw (nothing_left piece) refl
take_over (suc n) [] more = rw (all_left (suc n)) refl
take_over (suc n) (x ∷ xs) more = rw (shorter n x xs) (ap (λ l. x ∷ l) (take_over n xs more))

-- what is left of a piece doesn't matter: it is left where no more is taken
dropped : (left : ℕ) (piece more : List ℕ) → take (left - length piece) (drop left piece ++ more) ≡ take (left - length piece) more
dropped zero piece more = rw (nothing_left piece) refl
dropped (suc n) [] more = refl
dropped (suc n) (x ∷ xs) more = rw (shorter n x xs) (dropped n xs more)

unused : (left taken : ℕ) (piece : List ℕ) → taken ≡ min left (length piece) → drop taken piece ≡ drop left piece
unused left taken piece is = ap (λ n. drop n piece) is ∙ drop_min left piece

still_left : (left : ℕ) (piece more : List ℕ) → (left - length piece) - length (drop left piece ++ more) ≡ left - length (piece ++ more)
still_left left piece more = omega (arith, length-append (drop left piece) more, length-append piece more, length-drop left piece)

goes_behind : (before piece more : List ℕ) (left : ℕ) → (before ++ take left piece) ++ take (left - length piece) more ≡ before ++ take left (piece ++ more)
goes_behind before piece more left = append_assoc before (take left piece) (take (left - length piece) more) ∙ ap (λ l. before ++ l) (sym (take_over left piece more))

-- ---- where a reader is

-- after bytes of a message, these parts were given
pub record IsAt (p : Place) (bytes : List ℕ) (left : ℕ) (parts : List Part) (w : Waiting) : Type 0 where
  pub place : Place
  pub rest : List ℕ
  pub is : w ≡ waits place rest left
  pub streams : Streams p bytes parts place rest

-- after bytes that were handed in
abbrev pub IsAfter : Waiting → List ℕ → List Part → Waiting → Type 0
IsAfter (waits p before left) bytes parts w = IsAt p (before ++ take left bytes) (left - length bytes) parts w
IsAfter refuses bytes parts w = Unit {0}

-- a part is what is found next
pub found_whole : (p : Place) (bytes : List ℕ) (left : ℕ) (x : Part) (after : Waiting) → IsWhole x → IsFound p bytes left x after → IsNext p bytes left x after
found_whole p bytes left P.Held after whole found = absurd whole
found_whole p bytes left (P.Head number ticket kinds) after whole found = found
found_whole p bytes left (P.Entry e) after whole found = found
found_whole p bytes left (P.Drop g) after whole found = found
found_whole p bytes left (P.Derivation d) after whole found = found
found_whole p bytes left (P.Large number ticket) after whole found = found
found_whole p bytes left P.End after whole found = absurd whole

-- a piece gave these parts, and after it come those of more bytes
joins : (p q : Place) (before rest piece more after : List ℕ) (left : ℕ) (first others : List Part) (w : Waiting) →
    Streams p (before ++ take left piece) first q rest → after ≡ drop left piece ++ more → IsAt q (rest ++ take (left - length piece) after) ((left - length piece) - length after) others w →
    IsAt p (before ++ take left (piece ++ more)) (left - length (piece ++ more)) (first ++ others) w
joins p q before rest piece more after left first others w streams unused at =
    let taken : take (left - length piece) after ≡ take (left - length piece) more = ap (λ l. take (left - length piece) l) unused ∙ dropped left piece more in
    let many : (left - length piece) - length after ≡ left - length (piece ++ more) = ap (λ l. (left - length piece) - length l) unused ∙ still_left left piece more in
    record {
      place = at.place;
      rest = at.rest;
      is = at.is ∙ ap (λ n. waits at.place at.rest n) many;
      streams = subst (λ l. Streams p l (first ++ others) at.place at.rest) (goes_behind before piece more left)
          (streams_more p q at.place (before ++ take left piece) rest (take (left - length piece) more) at.rest first others streams
          (subst (λ l. Streams q (rest ++ l) others at.place at.rest) taken at.streams));
    }

no_answer : (t : Taken) → Ok t ≡ Err NotAMessage → ⊥
no_answer t clash = absurd cc

whole_left : (left : ℕ) (piece more : List ℕ) → 0 < left - length piece → more ≡ drop left piece ++ more
whole_left left piece more some = ap (λ l. l ++ more) (sym (drop_all left piece (omega arith)))

pub follows : (v : Waiting) (pieces : List (List ℕ)) (parts : List Part) (w : Waiting) → Takes v pieces parts w → IsAfter v (joined pieces) parts w
follows (waits p before left) _ _ _ none = record {
  place = p;
  rest = before;
  is = ap (λ n. waits p before n) (sym (all_left left));
  streams = subst (λ l. Streams p l [] p before) (sym (ap (λ l. before ++ l) (take-nil left) ∙ append-nil before)) stays;
}
follows refuses _ _ _ none = tt
follows (waits p before left) (piece ∷ pieces) (_ ∷ parts) w (gave {v = v} t (many, taken) whole next) =
    let found = found_whole p (before ++ take left piece) (left - length piece) t.part v whole taken in
    let at = subst (λ z. IsAfter z (drop t.taken piece ++ joined pieces) parts w) found.3 (follows v (drop t.taken piece ∷ pieces) parts w next) in
    joins p found.0 before found.1 piece (joined pieces) (drop t.taken piece ++ joined pieces) left (t.part ∷ []) parts w found.2
    (ap (λ l. l ++ joined pieces) (unused left t.taken piece many)) at
follows refuses (piece ∷ pieces) (_ ∷ parts) w (gave t (clash, same) whole next) = tt
follows (waits p before left) (piece ∷ pieces) parts w (held {v = v} t (many, taken) is next) =
    let found = subst (λ x. IsFound p (before ++ take left piece) (left - length piece) x v) is taken in
    let at = subst (λ z. IsAfter z (joined pieces) parts w) found.5 (follows v pieces parts w next) in
    joins p found.0 before found.1 piece (joined pieces) (joined pieces) left [] parts w found.2 (whole_left left piece (joined pieces) found.4) at
follows refuses (piece ∷ pieces) parts w (held t (clash, same) is next) = tt

-- ---- the laws

-- a new reader, after these pieces
started : (n : ℕ) (pieces : List (List ℕ)) (parts : List Part) (w : Waiting) → Takes (waits Start [] n) pieces parts w → IsAt Start (take n (joined pieces)) (n - length (joined pieces)) parts w
started n pieces parts w takes = follows (waits Start [] n) pieces parts w takes

short : (n : ℕ) (bytes more : List ℕ) → length (bytes ++ more) ≡ n → take n bytes ≡ bytes
short n bytes more is = take_all n bytes (omega (arith, length-append bytes more))

pub said_streams : (number : ℕ) (m : MessageTree) (bytes : List ℕ) → IsReplying m → SpellsIn number bytes m → Streams Start bytes (parts_of number m) Over []
said_streams number m bytes replying (is, fits, has) = subst (λ l. Streams Start l (parts_of number m) Over []) (sym is) (message_streams number m replying fits has)

begin : (n : ℕ) (pieces : List (List ℕ)) (more : List ℕ) (parts : List Part) (w : Waiting) (number : ℕ) (m : MessageTree) → Takes (waits Start [] n) pieces parts w →
    IsReplying m → SpellsIn number (joined pieces ++ more) m → length (joined pieces ++ more) ≡ n → (others : List Part) × (parts_of number m ≡ parts ++ others)
begin n pieces more parts w number m takes replying spells many =
    let at = started n pieces parts w takes in
    let so_far : Streams Start (joined pieces) parts at.place at.rest = subst (λ l. Streams Start l parts at.place at.rest) (short n (joined pieces) more many) at.streams in
    let all = said_streams number m (joined pieces ++ more) replying spells in
    let e = streams_begin Start at.place (joined pieces) at.rest more parts (parts_of number m) so_far all in
    (e.0, e.1)

-- one piece more
one_more : (n : ℕ) (pieces : List (List ℕ)) (piece : List ℕ) (parts others : List Part) (w : Waiting) (q r : Place) (rest after : List ℕ) → w ≡ waits q rest (n - length (joined pieces)) →
    Streams Start (take n (joined pieces)) parts q rest → Streams q (rest ++ take (n - length (joined pieces)) piece) others r after → Streams Start (taken_of n pieces piece) (parts ++ others) r after
one_more n pieces piece parts others w q r rest after is first next =
    subst (λ l. Streams Start l (parts ++ others) r after) (sym (take_over n (joined pieces) piece))
    (streams_more Start q r (take n (joined pieces)) rest (take (n - length (joined pieces)) piece) after parts others first next)

-- what a reader answers to one piece more
pub answers : (w v : Waiting) (q : Place) (rest piece : List ℕ) (left : ℕ) (answer : Result Taken WireFault) → w ≡ waits q rest left → IsTaken w piece answer v → IsTakenOn q rest left piece answer v
answers w v q rest piece left answer is taken = subst (λ z. IsTaken z piece answer v) is taken

held_exactly : (n : ℕ) (pieces : List (List ℕ)) (piece : List ℕ) (parts : List Part) (w v : Waiting) (t : Taken) → Takes (waits Start [] n) pieces parts w →
    IsTaken w piece (Ok t) v → t.part ≡ P.Held → (x : Part) (q : Place) (rest : List ℕ) → ¬ Streams Start (taken_of n pieces piece) (parts ++ x ∷ []) q rest
held_exactly n pieces piece parts w v t takes taken is x q rest more =
    let left = n - length (joined pieces) in
    let at = started n pieces parts w takes in
    let on : IsTakenOn at.place at.rest left piece (Ok t) v = answers w v at.place at.rest piece left (Ok t) at.is taken in
    let found = subst (λ y. IsFound at.place (at.rest ++ take left piece) (left - length piece) y v) is on.1 in
    let all : Streams Start (taken_of n pieces piece) parts found.0 found.1 = subst (λ l. Streams Start (taken_of n pieces piece) l found.0 found.1) (append-nil parts)
    (one_more n pieces piece parts [] w at.place found.0 at.rest found.1 at.is at.streams found.2) in
    no_further Start found.0 q (taken_of n pieces piece) found.1 rest parts x all found.3 more

ended : (n : ℕ) (pieces : List (List ℕ)) (piece : List ℕ) (parts : List Part) (w v : Waiting) (t : Taken) → Takes (waits Start [] n) pieces parts w →
    IsTaken w piece (Ok t) v → t.part ≡ P.End → (number : ℕ) × (m : MessageTree) × IsReplying m × SpellsIn number (taken_of n pieces piece) m × (parts_of number m ≡ parts)
ended n pieces piece parts w v t takes taken is =
    let left = n - length (joined pieces) in
    let at = started n pieces parts w takes in
    let on : IsTakenOn at.place at.rest left piece (Ok t) v = answers w v at.place at.rest piece left (Ok t) at.is taken in
    let found = subst (λ y. IsFound at.place (at.rest ++ take left piece) (left - length piece) y v) is on.1 in
    let all : Streams Start (taken_of n pieces piece) parts Over [] = subst (λ l. Streams Start (taken_of n pieces piece) l Over []) (append-nil parts)
    (one_more n pieces piece parts [] w at.place Over at.rest [] at.is at.streams found.0) in
    message_of (taken_of n pieces piece) parts all

-- how many bytes weren't taken
not_taken : (n : ℕ) (pieces : List (List ℕ)) (piece more : List ℕ) → length (taken_of n pieces piece ++ more) ≡ n → length more ≡ (n - length (joined pieces)) - length piece
not_taken n pieces piece more many =
    let all : length (taken_of n pieces piece) + length more ≡ n = sym (length-append (taken_of n pieces piece) more) ∙ many in
    omega (arith, all, length-take n (joined pieces ++ piece), length-append (joined pieces) piece)

refused : (n : ℕ) (pieces : List (List ℕ)) (piece : List ℕ) (parts : List Part) (w v : Waiting) → Takes (waits Start [] n) pieces parts w →
    IsTaken w piece (Err NotAMessage) v → (more : List ℕ) → length (taken_of n pieces piece ++ more) ≡ n → (number : ℕ) (m : MessageTree) → IsReplying m → ¬ SpellsIn number (taken_of n pieces piece ++ more) m
refused n pieces piece parts w v takes taken more many number m replying spells =
    let left = n - length (joined pieces) in
    let at = started n pieces parts w takes in
    let on : IsTakenOn at.place at.rest left piece (Err NotAMessage) v = answers w v at.place at.rest piece left (Err NotAMessage) at.is taken in
    let here : Streams Start (taken_of n pieces piece) (parts ++ []) at.place (at.rest ++ take left piece) =
    one_more n pieces piece parts [] w at.place at.place at.rest (at.rest ++ take left piece) at.is at.streams stays in
    let e = streams_begin Start at.place (taken_of n pieces piece) (at.rest ++ take left piece) more (parts ++ []) (parts_of number m) here (said_streams number m (taken_of n pieces piece ++ more) replying spells) in
    on.0 more (not_taken n pieces piece more many) e.0 e.2

-- all bytes were taken
no_more_left : (n : ℕ) (pieces : List (List ℕ)) (piece : List ℕ) → length (taken_of n pieces piece) ≡ n → (n - length (joined pieces)) - length piece ≡ 0
no_more_left n pieces piece all = omega (arith, all, length-take n (joined pieces ++ piece), length-append (joined pieces) piece)

-- where no byte is missing and no part comes, it is the end
only_end : (p : Place) (bytes : List ℕ) (left : ℕ) (x : Part) (after : Waiting) → left ≡ 0 → IsFound p bytes left x after → (IsWhole x → ⊥) → x ≡ P.End
only_end p bytes left P.Held after all found partless = absurd (omega (arith, all, found.4))
only_end p bytes left (P.Head number ticket kinds) after all found partless = absurd (partless tt)
only_end p bytes left (P.Entry e) after all found partless = absurd (partless tt)
only_end p bytes left (P.Drop g) after all found partless = absurd (partless tt)
only_end p bytes left (P.Derivation d) after all found partless = absurd (partless tt)
only_end p bytes left (P.Large number ticket) after all found partless = absurd (partless tt)
only_end p bytes left P.End after all found partless = refl

all_were_given : (n : ℕ) (pieces : List (List ℕ)) (piece : List ℕ) (parts : List Part) (w v : Waiting) (answer : Result Taken WireFault) (number : ℕ) (m : MessageTree) →
    Takes (waits Start [] n) pieces parts w → IsTaken w piece answer v → length (taken_of n pieces piece) ≡ n → IsReplying m → SpellsIn number (taken_of n pieces piece) m → parts_of number m ≡ parts → IsEndAtMost answer
all_were_given n pieces piece parts w v (Ok t) number m takes taken all replying spells are =
    let left = n - length (joined pieces) in
    let at = started n pieces parts w takes in
    let on : IsTakenOn at.place at.rest left piece (Ok t) v = answers w v at.place at.rest piece left (Ok t) at.is taken in
    let bytes = at.rest ++ take left piece in
    let partless : IsWhole t.part → ⊥ = λ whole.
    let found = found_whole at.place bytes (left - length piece) t.part v whole on.1 in
    let more = one_more n pieces piece parts (t.part ∷ []) w at.place found.0 at.rest found.1 at.is at.streams found.2 in
    let e = streams_end Start found.0 (taken_of n pieces piece) found.1 (parts ++ t.part ∷ []) (parts_of number m) more (said_streams number m (taken_of n pieces piece) replying spells) in
    longer parts e.0 t.part (sym are ∙ e.1) in
    only_end at.place bytes (left - length piece) t.part v (no_more_left n pieces piece all) on.1 partless
all_were_given n pieces piece parts w v (Err NotAMessage) number m takes taken all replying spells are =
    refused n pieces piece parts w v takes taken [] (ap length (append-nil (taken_of n pieces piece)) ∙ all) number m replying (subst (λ l. SpellsIn number l m) (sym (append-nil (taken_of n pieces piece))) spells)
all_were_given n pieces piece parts w v (Err NoMemory) number m takes taken all replying spells are = tt

never_late : (n : ℕ) (pieces : List (List ℕ)) (piece : List ℕ) (parts : List Part) (w v : Waiting) (t : Taken) → Takes (waits Start [] n) pieces parts w →
    IsTaken w piece (Ok t) v → length (taken_of n pieces piece) ≡ n → t.part ≢ P.Held
never_late n pieces piece parts w v t takes taken all is =
    let left = n - length (joined pieces) in
    let at = started n pieces parts w takes in
    let on : IsTakenOn at.place at.rest left piece (Ok t) v = answers w v at.place at.rest piece left (Ok t) at.is taken in
    let found = subst (λ y. IsFound at.place (at.rest ++ take left piece) (left - length piece) y v) is on.1 in
    let over = no_more_left n pieces piece all in absurd (omega (arith, over, found.4))

pub parts_are_those : PartsAreThose
parts_are_those = record { front = begin; no_further = held_exactly; whole = ended; all_given = all_were_given; none_missing = never_late; no_message = refused }
