-- What was found in the bytes that are held is the answer to the piece.
use Rattle.std.proofs.Common.{◌≡◌, ℕ, ◌+◌, ◌-◌, ◌<◌, ◌≤◌, List, [], ◌∷◌, ◌++◌, length, Option, Some, None, Bool, true, false, Result, Ok, Err, refl, sym, ap, subst, ◌∙◌, append-nil, arith}
use Rattle.std.specs.Prelude.{take, drop, min}
use Rattle.std.proofs.lemmas.List.{nil_from_length, take_min, length-append, length-take}
use Rattle.std.proofs.Math.Nat.{min_comm}
use Rattle.px_terms.specs.Polynomials.{Polynomial}
use Rattle.px_spelling.specs.declared.fault.WireFault.{WireFault}
use Rattle.px_spelling.specs.declared.fault.WireFault.TheVariants.{NotAMessage, NoMemory}
use Rattle.px_parts.specs.declared.part.Part.{Part}
use Rattle.px_parts.specs.declared.part.Part.TheVariants as P
use Rattle.px_parts.specs.declared.part.Taken.{Taken}
use Rattle.px_parts.specs.declared.next.Next.{Next}
use Rattle.px_parts.specs.declared.next.Next.TheVariants as N
use Rattle.px_parts.specs.declared.steps.Given.{Given}
use Rattle.px_parts.specs.declared.steps.Given.TheVariants as G
use Rattle.px_parts.specs.declared.unread.Unread.{Unread}
use Rattle.px_parts.specs.Places.{Place, Over}
use Rattle.px_parts.specs.Stream.{Streams, stays, those, IsStuck}
use Rattle.px_parts.specs.Skims.{IsEnded}
use Rattle.px_parts.specs.Taking.{Waiting, waits, IsFound, IsTakenOn}
use Rattle.px_parts.specs.Kept.{place_of, part_in, terms_behind, place_in, held_in, waiting_of, kept_after, IsQuiet, IsAnswer, IsSame}
use Rattle.px_parts.proofs.Streaming.{first_is_part, no_end_with}
use Rattle.px_parts.proofs.Skimming.{ended_stuck}
use Rattle.px_parts.proofs.Holding.{is_behind, same_place, same_held, same_within}

taken_from : (count left : ℕ) (piece : List ℕ) → count ≡ min (length piece) left → take count piece ≡ take left piece
taken_from count left piece is = ap (λ n. take n piece) (is ∙ min_comm (length piece) left) ∙ take_min left piece

-- a part is what is found
found_part : (p q : Place) (bytes rest : List ℕ) (left : ℕ) (x : Part) (after : Waiting) → Streams p bytes (x ∷ []) q rest → after ≡ waits q rest left → IsFound p bytes left x after
found_part p q bytes rest left P.Held after streams is = absurd (first_is_part p q bytes rest P.Held [] (P.Held ∷ []) streams refl tt)
found_part p q bytes rest left (P.Head number ticket kinds) after streams is = (q, rest, streams, is)
found_part p q bytes rest left (P.Entry e) after streams is = (q, rest, streams, is)
found_part p q bytes rest left (P.Drop g) after streams is = (q, rest, streams, is)
found_part p q bytes rest left (P.Derivation d) after streams is = (q, rest, streams, is)
found_part p q bytes rest left (P.Large number ticket) after streams is = (q, rest, streams, is)
found_part p q bytes rest left P.End after streams is = absurd (first_is_part p q bytes rest P.End [] (P.End ∷ []) streams refl tt)

-- the end is where nothing comes
over_only : (n : Next) (ts : Option (List Polynomial)) → place_of n ts ≡ Over → n ≡ N.Over
over_only N.Start ts is = absurd cc
over_only N.Head ts is = absurd cc
over_only N.ListedHead ts is = absurd cc
over_only (N.Large number) ts is = absurd cc
over_only N.EntryCount ts is = absurd cc
over_only (N.Entries n r named) ts is = absurd cc
over_only (N.DropCount r named) ts is = absurd cc
over_only (N.Drops n named) ts is = absurd cc
over_only N.DerivationCount ts is = absurd cc
over_only (N.Derivations n) ts is = absurd cc
over_only N.Over ts is = refl

module _ (p : Place) (n : Next) (ts : Option (List Polynomial)) (held piece rest : List ℕ) (left count : ℕ) (after : Unread) (many : count ≡ min (length piece) left)
    (place_is : place_in after ≡ place_of n ts) (held_is : held_in after ≡ rest) (left_is : after.left ≡ left - count) where
  not_taken : after.left ≡ left - length piece
  not_taken = omega (arith, left_is, many)

  waits_for : waiting_of after ≡ waits (place_of n ts) rest (left - length piece)
  waits_for = ap (λ z. waits z (held_in after) after.left) place_is ∙ ap (λ l. waits (place_of n ts) l after.left) held_is ∙ ap (λ m. waits (place_of n ts) rest m) not_taken

  all_bytes : (parts : List Part) → Streams p (held ++ take count piece) parts (place_of n ts) rest → Streams p (held ++ take left piece) parts (place_of n ts) rest
  all_bytes parts streams = subst (λ l. Streams p (held ++ l) parts (place_of n ts) rest) (taken_from count left piece many) streams

  as_many : (m : ℕ) → m ≡ count → m ≡ min left (length piece)
  as_many m is = omega (arith, is, many)

  part_answer : (x : Part) (r : Result Taken WireFault) → Streams p (held ++ take count piece) (x ∷ []) (place_of n ts) rest → r ≡ Ok (record { part = x; taken = count }) → IsTakenOn p held left piece r (kept_after r after)
  part_answer x r streams is =
      let t : Taken = record { part = x; taken = count } in
      let answer : IsTakenOn p held left piece (Ok t) (kept_after (Ok t) after) =
      (as_many count refl, found_part p (place_of n ts) (held ++ take left piece) rest (left - length piece) x (waiting_of after) (all_bytes (x ∷ []) streams) waits_for) in
      subst (λ z. IsTakenOn p held left piece z (kept_after z after)) (sym is) answer

  quiet_part : (x : Part) (ended : Bool) → Streams p (held ++ take count piece) [] (place_of n ts) rest → IsStuck (place_of n ts) rest → IsQuiet n (length rest) after.left ended (Ok x) →
      IsFound p (held ++ take left piece) (left - length piece) x (waiting_of after)
  quiet_part P.Held ended streams stuck some = ((place_of n ts), rest, all_bytes [] streams, stuck, subst (λ m. 0 < m) not_taken some, waits_for)
  quiet_part (P.Head number ticket kinds) ended streams stuck h = absurd h
  quiet_part (P.Entry e) ended streams stuck h = absurd h
  quiet_part (P.Drop g) ended streams stuck h = absurd h
  quiet_part (P.Derivation d) ended streams stuck h = absurd h
  quiet_part (P.Large number ticket) ended streams stuck h = absurd h
  quiet_part P.End ended streams stuck (none, behind, is_over) =
      let empty : rest ≡ [] = nil_from_length rest behind in
      let over : place_of n ts ≡ Over = ap (λ z. place_of z ts) is_over in
      let no_more : left - length piece ≡ 0 = sym not_taken ∙ none in (
        subst (λ z. Streams p (held ++ take left piece) [] z []) over (subst (λ l. Streams p (held ++ take left piece) [] (place_of n ts) l) empty (all_bytes [] streams)),
        no_more,
        waits_for ∙ ap (λ z. waits z rest (left - length piece)) over ∙ ap (λ l. waits Over l (left - length piece)) empty ∙ ap (λ m. waits Over [] m) no_more,
      )

  -- nothing comes, however the bytes go on
  never : (ended : Bool) (more : List ℕ) → IsStuck (place_of n ts) rest → (ended ≡ true → IsEnded (place_of n ts) rest) → (0 < after.left → ended ≡ true) → length more ≡ left - length piece → IsStuck (place_of n ts) (rest ++ more)
  never ended [] stuck whole some many = subst (λ l. IsStuck (place_of n ts) l) (sym (append-nil rest)) stuck
  never ended (x ∷ xs) stuck whole some many = ended_stuck (place_of n ts) rest (x ∷ xs) (whole (some (omega (arith, not_taken, many)))) stuck

  nothing_more : (more : List ℕ) → rest ++ more ≡ [] → length more ≡ left - length piece → (after.left ≡ 0) × (length rest ≡ 0)
  nothing_more more none many =
      let all : length rest + length more ≡ 0 = sym (length-append rest more) ∙ ap length none in (omega (arith, not_taken, many, all), omega (arith, all))

  quiet_answer : (r : Result Taken WireFault) (ended : Bool) → Streams p (held ++ take count piece) [] (place_of n ts) rest → IsStuck (place_of n ts) rest → (ended ≡ true → IsEnded (place_of n ts) rest) →
      IsAnswer None n (length rest) after.left ended count r → IsTakenOn p held left piece r (kept_after r after)
  quiet_answer (Ok t) ended streams stuck whole (is, quiet) = (as_many t.taken is, quiet_part t.part ended streams stuck quiet)
  quiet_answer (Err NotAMessage) ended streams stuck whole (some, other) = (
    λ more many. no_end_with p (place_of n ts) (held ++ take left piece) rest more (all_bytes [] streams) (never ended more stuck whole some many)
        (λ over none. let all = nothing_more more none many in other all.0 all.1 (over_only n ts over)),
    refl,
  )
  quiet_answer (Err NoMemory) ended streams stuck whole h = absurd h

  pub answer_is : (x : Option Part) (r : Result Taken WireFault) (ended : Bool) → Streams p (held ++ take count piece) (those x) (place_of n ts) rest → (x ≡ None → IsStuck (place_of n ts) rest) →
      (x ≡ None → ended ≡ true → IsEnded (place_of n ts) rest) → IsAnswer x n (length rest) after.left ended count r → IsTakenOn p held left piece r (kept_after r after)
  answer_is (Some x) r ended streams stuck whole is = part_answer x r streams is
  answer_is None r ended streams stuck whole is = quiet_answer r ended streams (stuck refl) (whole refl) is

-- the same, where the bytes behind are told by their number
pub answer_at : (p : Place) (n : Next) (ts : Option (List Polynomial)) (held piece rest : List ℕ) (left count behind : ℕ) (after : Unread) (x : Option Part) (r : Result Taken WireFault) (ended : Bool) →
    count ≡ min (length piece) left → place_in after ≡ place_of n ts → held_in after ≡ rest → after.left ≡ left - count → behind ≡ length rest → Streams p (held ++ take count piece) (those x) (place_of n ts) rest →
    (x ≡ None → IsStuck (place_of n ts) rest) → (x ≡ None → ended ≡ true → IsEnded (place_of n ts) rest) → IsAnswer x n behind after.left ended count r → IsTakenOn p held left piece r (kept_after r after)
answer_at p n ts held piece rest left count behind after x r ended many place_is held_is left_is are streams stuck whole is =
    answer_is p n ts held piece rest left count after many place_is held_is left_is x r ended streams stuck whole (subst (λ m. IsAnswer x n m after.left ended count r) are is)

-- where a part isn't whole yet: nothing was gone through
pub short_answer : (n : Next) (ts : Option (List Polynomial)) (held piece bytes : List ℕ) (left count behind : ℕ) (after : Unread) (r : Result Taken WireFault) →
    count ≡ min (length piece) left → place_in after ≡ place_of n ts → held_in after ≡ bytes → after.left ≡ left - count → behind ≡ length bytes → bytes ≡ held ++ take count piece →
    IsStuck (place_of n ts) bytes → IsAnswer None n behind after.left false count r → IsTakenOn (place_of n ts) held left piece r (kept_after r after)
short_answer n ts held piece bytes left count behind after r many place_is held_is left_is are all stuck is =
    let p = place_of n ts in
    answer_at p n ts held piece bytes left count behind after None r false many place_is held_is left_is are (subst (λ l. Streams p l [] p bytes) all stays) (λ none. stuck)
    (λ none clash. absurd (true_false clash)) is where
      true_false : false ≡ true → ⊥
      true_false clash = absurd cc

-- where memory ran out
pub no_memory : (p : Place) (held piece : List ℕ) (left : ℕ) (e : WireFault) (after : Unread) → (e ≡ NotAMessage → ⊥) → waiting_of after ≡ waits p held left → IsTakenOn p held left piece (Err e) (kept_after (Err e) after)
no_memory p held piece left NotAMessage after other is = absurd (other refl)
no_memory p held piece left NoMemory after other is = is

-- ---- from what was held before the piece, over what is held with it

pub first_many : (count left : ℕ) (piece bytes : List ℕ) → count ≡ min (length piece) left → bytes ≡ take count piece → length bytes ≡ count
first_many count left piece bytes many is = omega (arith, ap length is, length-take count piece, many)

pub short_end : (old h l after : Unread) (piece bytes : List ℕ) (count behind : ℕ) (r : Result Taken WireFault) →
    count ≡ min (length piece) old.left → bytes ≡ take count piece → place_in h ≡ place_in old → h.left ≡ old.left → held_in h ≡ held_in old ++ bytes → IsSame h l →
    place_in after ≡ place_in l → held_in after ≡ held_in l → after.left ≡ l.left - count → behind ≡ length (held_in l) → IsStuck (place_in h) (held_in h) →
    IsAnswer None l.next behind after.left false count r → IsTakenOn (place_in old) (held_in old) old.left piece r (kept_after r after)
short_end old h l after piece bytes count behind r many first place left held same place_is held_is left_is are stuck is =
    let place_all : place_in l ≡ place_in old = same_place h l same ∙ place in
    let held_all : held_in h ≡ held_in old ++ take count piece = held ∙ ap (λ z. held_in old ++ z) first in
    let here : held_in l ≡ held_in h = same_held h l same in
    let stuck_l : IsStuck (place_in l) (held_in h) = subst (λ p. IsStuck p (held_in h)) (sym (same_place h l same)) stuck in
    subst (λ p. IsTakenOn p (held_in old) old.left piece r (kept_after r after)) place_all
    (short_answer l.next l.terms (held_in old) piece (held_in h) old.left count behind after r many place_is (held_is ∙ here) (left_is ∙ ap (λ m. m - count) (same.4 ∙ left))
    (are ∙ ap length here) held_all stuck_l is)

pub found_end : (old h l k g after : Unread) (piece bytes slice rest : List ℕ) (count : ℕ) (x : Option Given) (y : Option Part) (n : Next) (r : Result Taken WireFault) (ended : Bool) →
    count ≡ min (length piece) old.left → bytes ≡ take count piece → h.start ≤ length h.held.items → place_in h ≡ place_in old → h.left ≡ old.left → held_in h ≡ held_in old ++ bytes → IsSame h l →
    slice ≡ held_in l → Streams (place_in l) slice (those (part_in x)) (place_of n (terms_behind l.terms x)) rest → (x ≡ None → IsStuck (place_of n l.terms) rest) →
    y ≡ part_in x → k.terms ≡ terms_behind l.terms x → k.held.items ≡ l.held.items → k.left ≡ l.left →
    g.next ≡ n → g.terms ≡ k.terms → g.left ≡ k.left - count → held_in g ≡ drop (length k.held.items - length rest) k.held.items →
    IsSame g after → (ended ≡ true → IsEnded (place_in g) (held_in g)) → IsAnswer y n (length rest) after.left ended count r → IsTakenOn (place_in old) (held_in old) old.left piece r (kept_after r after)
found_end old h l k g after piece bytes slice rest count x y n r ended many first within place left held same slice_is streams stuck given terms items k_left next g_terms left_is held_is same_after whole is =
    let ts = terms_behind l.terms x in
    let place_all : place_in l ≡ place_in old = same_place h l same ∙ place in
    let here : held_in l ≡ held_in old ++ take count piece = same_held h l same ∙ held ∙ ap (λ z. held_in old ++ z) first in
    let in_held : Streams (place_in l) (held_in l) (those (part_in x)) (place_of n ts) rest = subst (λ z. Streams (place_in l) z (those (part_in x)) (place_of n ts) rest) slice_is streams in
    let all : Streams (place_in old) (held_in old ++ take count piece) (those (part_in x)) (place_of n ts) rest =
    subst (λ z. Streams (place_in old) z (those (part_in x)) (place_of n ts) rest) here (subst (λ p. Streams p (held_in l) (those (part_in x)) (place_of n ts) rest) place_all in_held) in
    let behind = is_behind (place_in l) (place_of n ts) l.start l.held.items rest (those (part_in x)) (same_within h l same within) in_held in
    let rest_is : held_in g ≡ rest = held_is ∙ ap (λ z. drop (length z - length rest) z) items ∙ behind.1 in
    let place_g : place_in g ≡ place_of n ts = ap (λ m. place_of m g.terms) next ∙ ap (λ z. place_of n z) (g_terms ∙ terms) in
    subst (λ z. IsAnswer z n (length rest) after.left ended count r → IsTakenOn (place_in old) (held_in old) old.left piece r (kept_after r after)) (sym given)
    (answer_at (place_in old) n ts (held_in old) piece rest old.left count (length rest) after (part_in x) r ended many (same_place g after same_after ∙ place_g) (same_held g after same_after ∙ rest_is)
    (same_after.4 ∙ left_is ∙ ap (λ m. m - count) (k_left ∙ same.4 ∙ left)) refl all (stuck_at x stuck)
    (λ none yes. subst (λ p. IsEnded p rest) place_g (subst (λ z. IsEnded (place_in g) z) rest_is (whole yes))))
    is where
      -- nothing was given, so that the terms are the same
      stuck_at : (z : Option Given) → (z ≡ None → IsStuck (place_of n l.terms) rest) → part_in z ≡ None → IsStuck (place_of n (terms_behind l.terms z)) rest
      stuck_at None quiet none = quiet refl
      stuck_at (Some (G.Head part own)) quiet none = absurd cc
      stuck_at (Some (G.Row part)) quiet none = absurd cc
