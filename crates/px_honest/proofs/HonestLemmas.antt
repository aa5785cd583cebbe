-- A worker in place, and what its link gives.
use Rattle.std.proofs.Common.{◌≡◌, refl, sym, subst, ◌∙◌, ap, arith, true, false, ℕ, ◌+◌, ◌≤◌, min, List, [], ◌++◌, length}
use Rattle.std.specs.Prelude.{take, drop, Bool, ◌||◌, Option, Some, None, Err}
use Rattle.std.proofs.lemmas.List.{append_assoc, append-nil, length-append, length-take, take-append-drop, take-append-le}
use Rattle.std.proofs.Math.Seq.{take-add, take-append_seam}
use Rattle.px_symexec.specs.Tables.{IsTable}
use Rattle.px_worker.specs.declared.course.Course.{Course}
use Rattle.px_worker.specs.declared.faults.ServeFault.{ServeFault}
use Rattle.px_worker.specs.Served.{IsBegun}
use Rattle.px_worker.specs.Answers.{AreAnswered}
use Rattle.px_worker.specs.Courses.{IsOpen, IsOn, OnAfter, StopsAfter}
use Rattle.px_worker.specs.Laws.{RepliesAreAnalyses}
use Rattle.px_worker.proofs.CourseLemmas.{has_begun}
use Rattle.px_worker.proofs.ServeLemmas.{served_begun}
use Rattle.px_pool.specs.Talks.{Talk, sends, followed_by, SendsPart}
use Rattle.px_pool.specs.Words.{IsWordKept}
use Rattle.px_honest.specs.HonestLinks.{at_most, IsKept, GoesOn}

-- ---- the worker

-- with more bytes sent
begun_more : (known : ℕ) (kinds sent bytes written : List ℕ) → IsBegun known kinds sent written → IsBegun known kinds (sent ++ bytes) written
begun_more known kinds sent bytes written p = record {
  before = p.before;
  rest = p.rest ++ bytes;
  split = ap (λ l. l ++ bytes) p.split ∙ append_assoc p.before p.rest bytes;
  later = p.later;
  answered = p.answered;
}

on_begun : (known : ℕ) (kinds sent written : List ℕ) (c : Course) → IsOn known kinds sent written c → IsBegun known kinds sent written
on_begun known kinds sent written c on = has_begun known kinds sent on.before on.held written on.split on.answered

-- by bytes that it answers
pub goes_on : (known : ℕ) (kinds sent bytes old new : List ℕ) (a b : Course) → OnAfter known kinds a b bytes (Some old) (Some new) → IsOpen b.feeder → IsOn known kinds sent old a →
    GoesOn known kinds sent bytes old new b false
goes_on known kinds sent bytes old new a b after opened on =
    let grown = after sent old on in
    let there : IsOn known kinds (sent ++ bytes) new b = subst (λ l. IsOn known kinds (sent ++ bytes) l b) (sym grown.1) grown.2 in
    record {
      more = grown.0;
      grew = grown.1;
      begun = on_begun known kinds (sent ++ bytes) new b there;
      on = λ e. (there, opened);
    }

-- by bytes at which it stops
pub stops_at : (known : ℕ) (kinds sent bytes old new : List ℕ) (a b : Course) (fault : ServeFault) → StopsAfter known kinds a bytes (Some old) (Some new) fault → IsOn known kinds sent old a →
    GoesOn known kinds sent bytes old new b true
stops_at known kinds sent bytes old new a b fault after on =
    let grown = after sent old on in
    record {
      more = grown.0;
      grew = grown.1;
      begun = subst (λ l. IsBegun known kinds (sent ++ bytes) l) (sym grown.1) (served_begun known kinds (sent ++ bytes) [] (old ++ grown.0) (Err fault) (grown.2 []));
      on = λ e. absurd cc;
    }

-- by bytes that it doesn't look at
pub stops_before : (known : ℕ) (kinds sent bytes old : List ℕ) (a b : Course) → IsOn known kinds sent old a → GoesOn known kinds sent bytes old old b true
stops_before known kinds sent bytes old a b on = record {
  more = [];
  grew = sym (append-nil old);
  begun = begun_more known kinds sent bytes old (on_begun known kinds sent old a on);
  on = λ e. absurd cc;
}

pub kept_new : (known : ℕ) (kinds : List ℕ) (c : Course) (d : Option ℕ) → IsOn known kinds [] [] c → IsOpen c.feeder → IsKept known kinds [] [] c false 0 d
kept_new known kinds c d on opened = record { begun = on_begun known kinds [] [] c on; on = λ e. (on, opened); within = omega arith }

-- ---- how much it gives

at_most_few : (d : Option ℕ) (n : ℕ) → at_most d n ≤ n
at_most_few None n = omega arith
at_most_few (Some most) n = omega arith

at_most_more : (d : Option ℕ) (given m n : ℕ) → m ≤ n → given ≤ at_most d m → given ≤ at_most d n
at_most_more None given m n few within = omega arith
at_most_more (Some most) given m n few within = omega arith

pub within_all : (d : Option ℕ) (given n : ℕ) → given ≤ at_most d n → given ≤ n
within_all d given n within = let few : at_most d n ≤ n = at_most_few d n in omega arith

length_given : (written : List ℕ) (given : ℕ) → given ≤ length written → length (take given written) ≡ given
length_given written given few = let is : length (take given written) ≡ min given (length written) = length-take given written in omega arith

-- ---- a send

-- what passed, as the link tells it
abbrev pub talk_of : List ℕ → List ℕ → ℕ → Bool → Talk
talk_of sent written given ended = record { sent = sent; given = take given written; ended = ended }

or_false : (b : Bool) → b ≡ (b || false)
or_false true = refl
or_false false = refl

pub sent_talk : (sent bytes old new more : List ℕ) (given : ℕ) (ended : Bool) → given ≤ length old → new ≡ old ++ more →
    talk_of (sent ++ bytes) new given ended ≡ followed_by (talk_of sent old given ended) (sends bytes)
sent_talk sent bytes old new more given ended few grew =
    let same : take given new ≡ take given old ++ [] = ap (λ l. take given l) grew ∙ take-append-le given old more few ∙ sym (append-nil (take given old)) in
    ap (λ (g : List ℕ). record { sent = sent ++ bytes; given = g; ended = ended }) same
    ∙ ap (λ (b : Bool). record { sent = sent ++ bytes; given = take given old ++ []; ended = b }) (or_false ended)

-- nothing was sent
unsent_talk : (t : Talk) (bytes : List ℕ) → SendsPart (Some t) (Some t) bytes
unsent_talk t bytes = (
  0,
  omega arith,
  ap (λ (l : List ℕ). record { sent = l; given = t.given; ended = t.ended }) (sym (append-nil t.sent))
      ∙ ap (λ (l : List ℕ). record { sent = t.sent ++ []; given = l; ended = t.ended }) (sym (append-nil t.given))
      ∙ ap (λ (b : Bool). record { sent = t.sent ++ []; given = t.given ++ []; ended = b }) (or_false t.ended),
)

pub part_of_none : (old new : Talk) (bytes : List ℕ) → new ≡ old → SendsPart (Some old) (Some new) bytes
part_of_none old new bytes is = subst (λ t. SendsPart (Some old) (Some t) bytes) (sym is) (unsent_talk old bytes)

pub kept_sent : (known : ℕ) (kinds sent bytes old new : List ℕ) (a b : Course) (before stopped : Bool) (given : ℕ) (d : Option ℕ) → IsKept known kinds sent old a before given d →
    GoesOn known kinds sent bytes old new b stopped → IsKept known kinds (sent ++ bytes) new b stopped given d
kept_sent known kinds sent bytes old new a b before stopped given d k g = record {
  begun = g.begun;
  on = g.on;
  within =
      let all : length new ≡ length old + length g.more = ap length g.grew ∙ length-append old g.more in
      let few : length old ≤ length new = omega arith in at_most_more d given (length old) (length new) few k.within;
}

pub kept_stopped : (known : ℕ) (kinds sent bytes written : List ℕ) (c : Course) (stopped : Bool) (given : ℕ) (d : Option ℕ) → stopped ≡ true → IsKept known kinds sent written c stopped given d →
    IsKept known kinds (sent ++ bytes) written c stopped given d
kept_stopped known kinds sent bytes written c stopped given d is k = record {
  begun = begun_more known kinds sent bytes written k.begun;
  on = λ e. absurd cc;
  within = k.within;
}

-- ---- a receive

-- the first bytes of a slice, of which so many were put there
pub front_is : (piece rest all : List ℕ) (count : ℕ) → piece ≡ take count all → length piece ≡ count → take count (piece ++ rest) ≡ take count all
front_is piece rest all count is size = ap (λ n. take n (piece ++ rest)) (sym size) ∙ take-append_seam piece rest ∙ is

pub given_talk : (sent written piece : List ℕ) (given count : ℕ) (ended now : Bool) → piece ≡ take count (drop given written) →
    talk_of sent written (given + count) (ended || now) ≡ followed_by (talk_of sent written given ended) (record { sent = []; given = piece; ended = now })
given_talk sent written piece given count ended now is =
    ap (λ (l : List ℕ). record { sent = l; given = take (given + count) written; ended = ended || now }) (sym (append-nil sent))
    ∙ ap (λ (l : List ℕ). record { sent = sent ++ []; given = l; ended = ended || now }) (take-add given count written ∙ ap (λ l. take given written ++ l) (sym is))

pub kept_given : (known : ℕ) (kinds sent written : List ℕ) (c : Course) (stopped : Bool) (given count : ℕ) (d : Option ℕ) → given + count ≤ at_most d (length written) →
    IsKept known kinds sent written c stopped given d → IsKept known kinds sent written c stopped (given + count) d
kept_given known kinds sent written c stopped given count d few k = record { begun = k.begun; on = k.on; within = few }

-- the worker's replies are its word, however many of the bytes were given
pub word_kept : RepliesAreAnalyses → (known : ℕ) (kinds sent written : List ℕ) (given : ℕ) (ended : Bool) → IsBegun known kinds sent written → IsWordKept IsTable (Some (talk_of sent written given ended))
word_kept law known kinds sent written given ended begun = λ n asked answer v j t ds (asks, more, are_asked, at_asked) (gave, left, are_given, at_given) is_asked is_reply.
    (law known kinds sent (take given written) (drop given written) asks gave more left n asked answer v j t ds
    (subst (λ l. IsBegun known kinds sent l) (sym (take-append-drop given written)) begun) are_asked are_given at_asked at_given
    is_asked is_reply).table

-- what was given is a beginning of what is owed
pub begun_given : (known : ℕ) (kinds sent written : List ℕ) (given : ℕ) → IsBegun known kinds sent written → IsBegun known kinds sent (take given written)
begun_given known kinds sent written given p = record {
  before = p.before;
  rest = p.rest;
  split = p.split;
  later = drop given written ++ p.later;
  answered =
      let same : take given written ++ (drop given written ++ p.later) ≡ written ++ p.later =
      sym (append_assoc (take given written) (drop given written) p.later) ∙ ap (λ l. l ++ p.later) (take-append-drop given written) in
      subst (λ l. AreAnswered known kinds p.before l) (sym same) p.answered;
}
