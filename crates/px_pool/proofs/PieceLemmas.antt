-- A message that is read piece by piece, after its length and after a frame that was sent.
use Rattle.std.proofs.Common.{◌≡◌, inl, inr, refl, sym, ap, subst, ◌∙◌, arith, ℕ, ◌+◌, ◌-◌, ◌<◌, ◌≤◌, List, [], ◌++◌, length, true, false, append-nil, length-take-le}
use Rattle.std.specs.Prelude.{Option, take, nat_eq, Result, Ok, Err, OnOk, OnErr}
use Rattle.std.specs.Int.{w32, to_be_bytes}
use Rattle.std.proofs.lemmas.Bool.{ne_eqb}
use Rattle.std.proofs.lemmas.List.{length-append}
use Rattle.px_callgraph.specs.JobTree.{JobTree}
use Rattle.px_frames.specs.Frames.{frame_of, most_bytes}
use Rattle.px_io.specs.declared.sink.Failed.{Failed}
use Rattle.px_io.specs.Faults.{HasCause, RoseOnce}
use Rattle.px_parts.specs.declared.part.Part.{Part}
use Rattle.px_parts.specs.Places.{Start}
use Rattle.px_parts.specs.Taking.{Waiting, waits}
use Rattle.px_parts.specs.Following.{HasGiven}
use Rattle.px_parts.proofs.Following.{parts_follow}
use Rattle.px_pieces.specs.declared.desk.Lost.{Lost}
use Rattle.px_pieces.specs.declared.desk.Lost.TheVariants.{Send, Read, Closed, Frame, Ticket, Kinds, Refused, Large, NoMemory}
use Rattle.px_pieces.specs.Pieces.{AreOf, table_from}
use Rattle.px_pool.specs.declared.answers.Answer.{Answer}
use Rattle.px_pool.specs.declared.gathering.Standing.TheVariants.{Unbegun}
use Rattle.px_pool.specs.declared.feeding.Fed.{Fed}
use Rattle.px_pool.specs.Talks.{Talk, Passes, nothing, sends, SendsPart}
use Rattle.px_pool.specs.Outcomes.{request_of, gave, GivesTable, CountsFaults}
use Rattle.px_pool.specs.Reading.{Gives, Unanswered, StopsIn, IsRead, GivesMessage, IsReplied}
use Rattle.px_pool.specs.Gathering.{IsStanding, IsOutcome, IsFed}
use Rattle.px_pool.proofs.LinkTalks.{passes_nothing}
use Rattle.px_pool.proofs.TalkLemmas.{gives_on, gives_no_more, sent_then}
use Rattle.px_pool.proofs.ExchangeLemmas.{HasCauseOf, unanswered, faulty, fault_counts}
use Rattle.px_pool.proofs.ReplyLemmas.{part_is, message_failed, after_request}

-- ---- while the pieces come

-- So many bytes of a message came, and this is what they give.
pub record IsComing (number : ℕ) (j : JobTree) (a b : Option Talk) (n came : ℕ) (w : Waiting) (fed : Fed) : Type 0 where
  pub bytes : List ℕ
  pub many : length bytes ≡ came
  pub within : came ≤ n
  pub given : Gives a b bytes false
  pub known : IsFed number j bytes (n - came) w fed

-- none came yet
pub coming_begins : (number : ℕ) (j : JobTree) (a : Option Talk) (n : ℕ) (r w : Waiting) (fed : Fed) → r ≡ waits Start [] n →
    ((bytes : List ℕ) (left : ℕ) (parts : List Part) → HasGiven bytes left parts r → IsStanding number j parts Unbegun → 0 ≤ left → IsFed number j (bytes ++ []) (left - 0) w fed) → IsComing number j a a n 0 w fed
coming_begins number j a n r w fed is feeds = record {
  bytes = [];
  many = refl;
  within = omega arith;
  given = passes_nothing a;
  known = feeds [] n [] (subst (λ z. HasGiven [] n [] z) (sym is) (parts_follow.begins n)) refl (omega arith);
}

module _ (number : ℕ) (j : JobTree) (a b c : Option Talk) (n came : ℕ) (w v : Waiting) (fed : Fed) (h : IsComing number j a b n came w fed) where
  -- a piece more
  pub piece_more : (count next : ℕ) (into piece : List ℕ) (after : Fed) → (count ≡ 0 → ⊥) → count ≤ n - came → count ≤ length into → next ≡ came + count → piece ≡ take count into →
      Gives b c (take count into) (nat_eq count 0) →
      ((bytes : List ℕ) (left : ℕ) → IsFed number j bytes left w fed → length piece ≤ left → IsFed number j (bytes ++ piece) (left - length piece) v after) → IsComing number j a c n next v after
  piece_more count next into piece after some few room is piece_is given feeds =
      let many : length piece ≡ count = ap length piece_is ∙ length-take-le count into room in
      let open_still : Gives b c piece false = subst (λ e. Gives b c piece e) (ne_eqb count 0 some) (subst (λ l. Gives b c l (nat_eq count 0)) (sym piece_is) given) in
      let left : (n - came) - length piece ≡ n - next = omega (arith, many, is) in
      record {
        bytes = h.bytes ++ piece;
        many = omega (arith, length-append h.bytes piece, h.many, many, is);
        within = omega (arith, few, is, h.within);
        given = gives_on a b c h.bytes piece false h.given open_still;
        known = subst (λ k. IsFed number j (h.bytes ++ piece) k v after) left (feeds h.bytes (n - came) h.known (omega (arith, many, few)));
      }

  -- a call failed
  pub failed : came < n → Passes b c nothing → IsRead number j a c n (Err Read)
  failed room none = inl (h.bytes, omega (arith, h.many, room), gives_no_more a b c h.bytes h.given none)

  -- it ended
  pub closed : (count k : ℕ) (into : List ℕ) → count ≡ 0 → came < n → k ≡ 4 + came → Gives b c (take count into) (nat_eq count 0) → IsRead number j a c n (Err (Closed k))
  closed count k into none room is given =
      let at_end : Gives b c (take 0 into) true = subst (λ z. Gives b c (take z into) (nat_eq z 0)) none given in
      inl (h.bytes, omega (arith, h.many, room), subst (λ l. Gives a c l true) (append-nil h.bytes) (gives_on a b c h.bytes [] true h.given at_end), omega (arith, is, h.many))

  -- all came
  pub whole : (r : Result Answer Lost) → n ≤ came → ((bytes : List ℕ) → IsFed number j bytes 0 w fed → IsOutcome number j bytes r) → IsRead number j a b n r
  whole r all tells =
      let none : n - came ≡ 0 = omega (arith, all) in
      let many : length h.bytes ≡ n = omega (arith, h.many, h.within, all) in
      by_result r (tells h.bytes (subst (λ k. IsFed number j h.bytes k w fed) none h.known)) many where
        by_result : (r : Result Answer Lost) → IsOutcome number j h.bytes r → length h.bytes ≡ n → IsRead number j a b n r
        by_result (Ok x) outcome many = (h.bytes, many, h.given, outcome)
        by_result (Err why) outcome many = inr (h.bytes, many, h.given, outcome)

  -- where all came nothing failed
  pub whole_counts : (before now : ℕ) (r : Result Answer Lost) → now ≡ before → n ≤ came → ((bytes : List ℕ) → IsFed number j bytes 0 w fed → IsOutcome number j bytes r) → CountsFaults before now r
  whole_counts before now r same all tells =
      let none : n - came ≡ 0 = omega (arith, all) in
      by_result r (tells h.bytes (subst (λ k. IsFed number j h.bytes k w fed) none h.known)) where
        by_result : (r : Result Answer Lost) → IsOutcome number j h.bytes r → CountsFaults before now r
        by_result (Ok x) outcome = same
        by_result (Err why) outcome = fault_counts {T = Answer} number j h.bytes before now (Err why) why refl same outcome

-- ---- calls that fail

-- what is true of an error is true where it isn't Ok
pub on_error : {T E : Type 0} (r : Result T E) (P : Type 0) → ((x : T) → r ≡ Ok x → ⊥) → OnErr r P → P
on_error (Ok x) P other h = absurd (other x refl)
on_error (Err e) P other h = h

-- what is kept is so whatever the answer
pub kept_on : (r : Result Answer Lost) (P Q : Type 0) → (P → Q) → P → OnOk r Q
kept_on (Ok x) P Q keeps h = keeps h
kept_on (Err why) P Q keeps h = tt

pub error_counts : (before between now : ℕ) (r : Result ℕ Failed) → ((x : ℕ) → r ≡ Ok x → ⊥) → between ≡ before → HasCause between now r → CountsFaults {T = Answer} before now (Err Read)
error_counts before between now (Ok x) other same cause = absurd (other x refl)
error_counts before between now (Err e) other same cause = (subst (λ n. n ≤ now) same cause.never_falls, subst (λ n. RoseOnce n now) same cause.failed)

-- ---- after the length

module _ (number : ℕ) (j : JobTree) (a b c : Option Talk) (n : ℕ) (short : n ≤ most_bytes) (length_given : Gives a b (to_be_bytes w32 n) false) where
  stops_unanswered : (why : Lost) → StopsIn b c n why → Unanswered a c [] why
  stops_unanswered Read fewer = message_failed a b c n n short refl length_given fewer
  stops_unanswered (Closed k) (bytes, few, given, is) = (
    gave [] (to_be_bytes w32 n ++ bytes) true,
    gives_on a b c (to_be_bytes w32 n) bytes true length_given given,
    (to_be_bytes w32 n ++ bytes, refl, part_is n bytes short few, omega (arith, is)),
  )
  stops_unanswered Send h = absurd h
  stops_unanswered Frame h = absurd h
  stops_unanswered (Ticket asked given) h = absurd h
  stops_unanswered Kinds h = absurd h
  stops_unanswered (Refused entry step) h = absurd h
  stops_unanswered Large h = absurd h
  stops_unanswered NoMemory h = absurd h

  message_given : (m : List ℕ) → length m ≡ n → Gives b c m false → GivesMessage a c [] m
  message_given m many given = (
    omega (arith, many, short),
    subst (λ k. Passes a c (gave [] (to_be_bytes w32 k ++ m) false)) (sym many) (gives_on a b c (to_be_bytes w32 n) m false length_given given),
  )

  pub replied : (r : Result Answer Lost) → IsRead number j b c n r → IsReplied number j a c [] r
  replied (Ok x) (m, many, given, outcome) = (m, message_given m many given, outcome)
  replied (Err why) (inl stops) = inl (stops_unanswered why stops)
  replied (Err why) (inr (m, many, given, fault)) = inr (m, message_given m many given, fault)

-- ---- after a frame that was sent

pub replied_after : (number : ℕ) (j : JobTree) (a b c : Option Talk) (frame : List ℕ) (r : Result Answer Lost) → Passes a b (sends frame) → IsReplied number j b c [] r → IsReplied number j a c frame r
replied_after number j a b c frame (Ok x) sent (m, (short, given), outcome) = (m, (short, sent_then a b c frame (frame_of m) false sent given), outcome)
replied_after number j a b c frame (Err why) sent (inl un) = inl (after_request a b c frame why sent un)
replied_after number j a b c frame (Err why) sent (inr (m, (short, given), fault)) = inr (m, (short, sent_then a b c frame (frame_of m) false sent given), fault)

pub not_sent : (number : ℕ) (j : JobTree) (a b : Option Talk) (frame : List ℕ) → SendsPart a b frame → IsReplied number j a b frame (Err Send)
not_sent number j a b frame (n, few, passes) = inl (sends (take n frame), passes, (n, few, refl))

-- ---- an answer

-- the message of which it is
pub record HasMessage (number : ℕ) (j : JobTree) (a b : Option Talk) (frame : List ℕ) (x : Answer) : Type 0 where
  pub message : List ℕ
  pub short : length message ≤ most_bytes
  pub given : Passes a b (gave frame (frame_of message) false)
  pub jobs : AreOf j x.entries
  pub table : GivesTable number j message (table_from x.entries x.drops)

pub message_of : (number : ℕ) (j : JobTree) (a b : Option Talk) (frame : List ℕ) (x : Answer) → IsReplied number j a b frame (Ok x) → HasMessage number j a b frame x
message_of number j a b frame x (m, (short, given), (jobs, table)) = record { message = m; short = short; given = given; jobs = jobs; table = table }

pub no_answer : (number : ℕ) (j : JobTree) (a b : Option Talk) (frame : List ℕ) (why : Lost) → frame ≡ frame_of (request_of number j) → length (request_of number j) ≤ most_bytes → IsReplied number j a b frame (Err why) → HasCauseOf number j a b why
no_answer number j a b frame why is short (inl un) = unanswered number j a b frame why is short un
no_answer number j a b frame why is short (inr (m, (short', given), fault)) = faulty number j a b frame m is short short' given why fault
