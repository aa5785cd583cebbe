-- Pieces of a reply, and what it gives.
use Rattle.std.proofs.Common.{◌≡◌, inl, inr, ℕ, ◌+◌, ◌-◌, ◌<◌, ◌≤◌, List, [], ◌∷◌, ◌++◌, length, Result, Ok, Err, refl, sym, ap, subst, ◌∙◌, append_assoc, append-nil, arith}
use Rattle.std.proofs.lemmas.List.{length-append, nil_from_length}
use Rattle.px_callgraph.specs.JobTree.{JobTree}
use Rattle.px_spelling.specs.declared.fault.WireFault.TheVariants.{NotAMessage}
use Rattle.px_wire.specs.Messages.{MessageTree, reply, large}
use Rattle.px_wire.specs.Versions.{SpellsIn}
use Rattle.px_parts.specs.declared.part.Part.{Part}
use Rattle.px_parts.specs.declared.part.Part.TheVariants as P
use Rattle.px_parts.specs.declared.part.Taken.{Taken}
use Rattle.px_parts.specs.Parts.{IsReplying}
use Rattle.px_parts.specs.Laws.{IsWhole}
use Rattle.px_parts.specs.Taking.{Waiting, IsTaken}
use Rattle.px_parts.specs.Following.{HasGiven}
use Rattle.px_parts.proofs.Following.{parts_follow}
use Rattle.px_pieces.specs.declared.desk.Lost.{Lost}
use Rattle.px_pieces.specs.declared.desk.Lost.TheVariants.{Frame}
use Rattle.px_pool.specs.declared.answers.Answer.{Answer}
use Rattle.px_pool.specs.declared.gathering.Standing.{Standing}
use Rattle.px_pool.specs.declared.feeding.Fed.{Fed}
use Rattle.px_pool.specs.declared.feeding.Fed.TheVariants as F
use Rattle.px_pool.specs.Outcomes.{NamesTicket}
use Rattle.px_pool.specs.Gathering.{IsStanding, IsOutcome, Tells, IsFed}

-- a part that is neither none nor the end
pub whole_part : (x : Part) → (x ≡ P.Held → ⊥) → (x ≡ P.End → ⊥) → IsWhole x
whole_part P.Held other end = absurd (other refl)
whole_part (P.Head number ticket kinds) other end = tt
whole_part (P.Entry e) other end = tt
whole_part (P.Drop g) other end = tt
whole_part (P.Derivation d) other end = tt
whole_part (P.Large number ticket) other end = tt
whole_part P.End other end = absurd (end refl)

-- While a piece is taken: from where the reader stood, with bytes of which this one is what is left of the piece.
pub record IsFeeding (number : ℕ) (j : JobTree) (all : List ℕ) (over : ℕ) (rest : List ℕ) (w : Waiting) (s : Standing) : Type 0 where
  pub before : List ℕ
  pub joined : before ++ rest ≡ all
  pub parts : List Part
  pub given : HasGiven before (over + length rest) parts w
  pub standing : IsStanding number j parts s

pub feeding_begins : (number : ℕ) (j : JobTree) (bytes piece : List ℕ) (left : ℕ) (parts : List Part) (w : Waiting) (s : Standing) → HasGiven bytes left parts w → IsStanding number j parts s → length piece ≤ left →
    IsFeeding number j (bytes ++ piece) (left - length piece) piece w s
feeding_begins number j bytes piece left parts w s given standing within =
    let same : left ≡ (left - length piece) + length piece = omega (arith, within) in
    record { before = bytes; joined = refl; parts = parts; given = subst (λ n. HasGiven bytes n parts w) same given; standing = standing }

module _ (number : ℕ) (j : JobTree) (all : List ℕ) (over : ℕ) (rest : List ℕ) (w v : Waiting) (s : Standing) (f : IsFeeding number j all over rest w s) where
  within : length rest ≤ over + length rest
  within = omega arith

  over_is : (over + length rest) - length rest ≡ over
  over_is = omega arith

  pub one_more : (t : Taken) (x : Part) (next : Standing) → t.part ≡ x → IsTaken w rest (Ok t) v → IsWhole x → ((parts : List Part) → IsStanding number j parts s → IsStanding number j (parts ++ x ∷ []) next) →
      IsFeeding number j all over [] v next
  one_more t x next is taken whole stands =
      let given = parts_follow.gave f.before rest (over + length rest) f.parts w v t f.given within taken (subst IsWhole (sym is) whole) in
      let over_left : (over + length rest) - length rest ≡ over + length {A = ℕ} [] = omega arith in
      let named = subst (λ y. HasGiven (f.before ++ rest) ((over + length rest) - length rest) (f.parts ++ y ∷ []) v) is given in
      record {
        before = f.before ++ rest;
        joined = append-nil (f.before ++ rest) ∙ f.joined;
        parts = f.parts ++ x ∷ [];
        given = subst (λ n. HasGiven (f.before ++ rest) n (f.parts ++ x ∷ []) v) over_left named;
        standing = stands f.parts f.standing;
      }

  pub opens_still : (t : Taken) (last : Standing) → t.part ≡ P.Held → IsTaken w rest (Ok t) v → ((parts : List Part) → IsStanding number j parts s → IsStanding number j parts last) → IsFed number j all over v (F.Open last)
  opens_still t last is taken stands =
      let h = parts_follow.held f.before rest (over + length rest) f.parts w v t f.given within taken is in (
        subst (λ n. 0 < n) over_is h.1,
        f.parts,
        subst (λ l. HasGiven l over f.parts v) f.joined (subst (λ n. HasGiven (f.before ++ rest) n f.parts v) over_is h.0),
        stands f.parts f.standing,
      )

  nothing_more : (more : List ℕ) → over ≡ 0 → length more ≡ over → all ++ more ≡ all
  nothing_more more none many = ap (λ l. all ++ l) (nil_from_length more (many ∙ none)) ∙ append-nil all

  pub ends : (t : Taken) (last : Standing) (r : Result Answer Lost) → t.part ≡ P.End → IsTaken w rest (Ok t) v → ((parts : List Part) → IsStanding number j parts s → IsStanding number j parts last) →
      ((parts : List Part) → IsStanding number j parts last → Tells number j parts r) → IsFed number j all over v (F.Done r)
  ends t last r is taken stands finishes more many =
      let e = parts_follow.ended f.before rest (over + length rest) f.parts w v t f.given within taken is in
      let none : over ≡ 0 = sym over_is ∙ e.0 in
      let spells : SpellsIn e.1 all e.2 = subst (λ l. SpellsIn e.1 l e.2) f.joined e.4 in
      subst (λ l. IsOutcome number j l r) (sym (nothing_more more none many)) (finishes f.parts (stands f.parts f.standing) all e.1 e.2 spells e.3 e.5)

  pub refuses_all : IsTaken w rest (Err NotAMessage) v → IsFed number j all over v (F.Done (Err Frame))
  refuses_all taken more many =
      let none : (own : ℕ) (m : MessageTree) → IsReplying m → ¬ SpellsIn own (all ++ more) m =
      λ own m replying spells. parts_follow.refused f.before rest (over + length rest) f.parts w v f.given within taken more (many ∙ sym over_is) own m replying
      (subst (λ l. SpellsIn own (l ++ more) m) (sym f.joined) spells) in
      no_ticket (all ++ more) none where
        no_ticket : (bytes : List ℕ) → ((own : ℕ) (m : MessageTree) → IsReplying m → ¬ SpellsIn own bytes m) → (ticket : ℕ) → ¬ NamesTicket number bytes ticket
        no_ticket bytes none ticket (inl (kinds, t, ds, spells)) = none number (reply ticket kinds t ds) tt spells
        no_ticket bytes none ticket (inr spells) = none number (large ticket) tt spells

-- ---- where this is known

pub feeds_on : (number : ℕ) (j : JobTree) (bytes piece : List ℕ) (left : ℕ) (w v : Waiting) (fed next : Fed) (s : Standing) → fed ≡ F.Open s →
    ((l : List ℕ) (n : ℕ) (parts : List Part) → HasGiven l n parts w → IsStanding number j parts s → length piece ≤ n → IsFed number j (l ++ piece) (n - length piece) v next) →
    IsFed number j bytes left w fed → length piece ≤ left → IsFed number j (bytes ++ piece) (left - length piece) v next
feeds_on number j bytes piece left w v fed next s is feeds known within =
    let opened : IsFed number j bytes left w (F.Open s) = subst (λ z. IsFed number j bytes left w z) is known in
    feeds bytes left opened.1 opened.2 opened.3 within

-- after a piece that isn't needed
pub fed_still : (number : ℕ) (j : JobTree) (bytes piece : List ℕ) (left : ℕ) (w v : Waiting) (fed : Fed) (r : Result Answer Lost) → fed ≡ F.Done r → IsFed number j bytes left w fed → length piece ≤ left →
    IsFed number j (bytes ++ piece) (left - length piece) v (F.Done r)
fed_still number j bytes piece left w v fed r is known within more many =
    let done : IsFed number j bytes left w (F.Done r) = subst (λ z. IsFed number j bytes left w z) is known in
    subst (λ l. IsOutcome number j l r) (sym (append_assoc bytes piece more)) (done (piece ++ more) (length-append piece more ∙ omega (arith, many, within)))

pub fed_whole : (number : ℕ) (j : JobTree) (bytes : List ℕ) (w : Waiting) (fed : Fed) (r : Result Answer Lost) → fed ≡ F.Done r → IsFed number j bytes 0 w fed → IsOutcome number j bytes r
fed_whole number j bytes w fed r is known =
    let done : IsFed number j bytes 0 w (F.Done r) = subst (λ z. IsFed number j bytes 0 w z) is known in
    subst (λ l. IsOutcome number j l r) (append-nil bytes) (done [] refl)

pub never_open : (number : ℕ) (j : JobTree) (bytes : List ℕ) (w : Waiting) (fed : Fed) (s : Standing) → fed ≡ F.Open s → IsFed number j bytes 0 w fed → IsOutcome number j bytes (Err Frame)
never_open number j bytes w fed s is known =
    let opened : IsFed number j bytes 0 w (F.Open s) = subst (λ z. IsFed number j bytes 0 w z) is known in
    let some : 0 < 0 = opened.0 in absurd (omega (arith, some))
