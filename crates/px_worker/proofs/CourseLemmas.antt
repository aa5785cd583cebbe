-- How a worker comes on in its input.
use Rattle.std.proofs.Common.{◌≡◌, refl, sym, subst, ◌∙◌, ap, arith, inl, inr, true, false, ◌≢◌, ℕ, suc, zero, ◌+◌, ◌-◌, ◌^◌, ◌<◌, ◌≤◌, min, List, [], ◌∷◌, ◌++◌, length}
use Rattle.std.specs.Prelude.{flat_map, take, drop, Option, Result, Ok, Err, IsErrOf, Vec}
use Rattle.std.specs.declared.alloc.Global.{Global}
use Rattle.std.specs.Io.KnownBytes.{Appends}
use Rattle.std.specs.List.{AllByRecursion}
use Rattle.std.proofs.Math.Nat.{min-eq_left, min-eq_right, zero-min}
use Rattle.std.proofs.lemmas.Bool.{cases_lt, lt-ltb}
use Rattle.std.proofs.lemmas.Grind.{flat_map-append}
use Rattle.std.proofs.Math.Seq.{take-length}
use Rattle.std.proofs.lemmas.List.{append_assoc, append-nil, length-append, length-drop, take-append-drop, take_rest}
use Rattle.px_io.specs.Faults.{HasCauseOf}
use Rattle.px_io.proofs.TellingLemmas.{Appends-trans, Appends-nil, take-add-take}
use Rattle.px_callgraph.specs.JobTree.{JobTree}
use Rattle.px_frames.specs.Frames.{frame_of, most_bytes, IsPart, IsTooLong}
use Rattle.px_frames.specs.Feeding.{Feeding, holds, refuses, IsFedOn, IsFed}
use Rattle.px_frames.specs.declared.faults.FeedFault.{FeedFault}
use Rattle.px_frames.specs.declared.faults.FeedFault.TheVariants.{TooLong}
use Rattle.px_frames.specs.declared.feeder.Fed.{Fed}
use Rattle.px_frames.specs.declared.feeder.Fed.TheVariants.{Whole, Held}
use Rattle.px_wire.specs.Laws.{OneSpelling}
use Rattle.px_worker.specs.declared.faults.ServeFault.{ServeFault}
use Rattle.px_worker.specs.declared.faults.ServeFault.TheVariants.{Read, Write, Bad, Kinds, NoMemory}
use Rattle.px_worker.specs.declared.course.Course.{Course}
use Rattle.px_worker.specs.Answers.{AsksIn, IsRequest, IsOwed, AreAnswered}
use Rattle.px_worker.specs.Stops.{AreRequests, IsBad, place_after}
use Rattle.px_worker.specs.Served.{IsBegun, IsServed}
use Rattle.px_worker.specs.Courses.{IsOpen, IsOn, IsStopped, GrowsSo, OnAfter, StopsAfter, Speaks}
use Rattle.px_worker.proofs.FirstFrames.{no_frame, part_or_whole, long_or_whole}
use Rattle.px_worker.proofs.AnswerLemmas.{Exchange, asked_of, AreOwed, is_request}
use Rattle.px_worker.proofs.StopLemmas.{bad_owes, others_owe}
use Rattle.px_terms.proofs.Recursion.{all_both}
use Rattle.px_frames.proofs.CutLemmas.{too_long_after, one_first, frame_size}

-- ---- places

min_sum : (a b m : ℕ) → min (min a m + b) m ≡ min (a + b) m
min_sum a b m = elim (cases_lt a m) [
  | inl less ↦
      let below : a ≤ m = omega arith in
      ap (λ n. min (n + b) m) (min-eq_left below)
  | inr more ↦
      let over : m ≤ m + b = omega arith in
      let far : m ≤ a + b = omega arith in
      let first : min (min a m + b) m ≡ min (m + b) m = ap (λ n. min (n + b) m) (min-eq_right more) in
      let second : min (m + b) m ≡ m = min-eq_right over in
      let third : min (a + b) m ≡ m = min-eq_right far in first ∙ second ∙ sym third
]

-- the place after one frame more
pub place_more : (before message : List ℕ) (place size : ℕ) → place ≡ place_after before → size ≡ 4 + length message →
    min (place + size) (2 ^ 64 - 1) ≡ place_after (before ++ frame_of message)
place_more before message place size is sized =
    ap (λ n. min (n + size) (2 ^ 64 - 1)) is
    ∙ min_sum (length before) size (2 ^ 64 - 1)
    ∙ ap (λ n. min n (2 ^ 64 - 1)) (ap (λ n. length before + n) (sized ∙ sym (frame_size message)) ∙ sym (length-append before (frame_of message)))

-- ---- what is answered

pub none_answered : (known : ℕ) (kinds : List ℕ) → AreAnswered known kinds [] []
none_answered known kinds = record { exchanges = []; owed = tt; asked = refl; answered = refl }

pub one_more : (known : ℕ) (kinds before written message answer : List ℕ) → AreAnswered known kinds before written → IsOwed known kinds message answer →
    AreAnswered known kinds (before ++ frame_of message) (written ++ frame_of answer)
one_more known kinds before written message answer p owed = record {
  exchanges = p.exchanges ++ (message, answer) ∷ [];
  owed = all_both (λ (x : Exchange). IsOwed known kinds x.0 x.1) p.exchanges ((message, answer) ∷ []) p.owed (owed, tt);
  asked = ap (λ l. l ++ frame_of message) p.asked ∙ more (λ (x : Exchange). frame_of x.0);
  answered = ap (λ l. l ++ frame_of answer) p.answered ∙ more (λ (x : Exchange). frame_of x.1);
}
  where
    more : (f : Exchange → List ℕ) → flat_map f p.exchanges ++ f (message, answer) ≡ flat_map f (p.exchanges ++ (message, answer) ∷ [])
    more f = ap (λ l. flat_map f p.exchanges ++ l) (sym (append-nil (f (message, answer)))) ∙ sym (flat_map-append f p.exchanges ((message, answer) ∷ []))

requests_from : (known : ℕ) (kinds : List ℕ) (xs : List Exchange) → AreOwed known kinds xs → (ms : List (List ℕ)) × AllByRecursion (λ m. IsRequest known kinds m) ms × (asked_of xs ≡ flat_map frame_of ms)
requests_from known kinds [] p = ([], tt, refl)
requests_from known kinds (x ∷ xs) p =
    let others = requests_from known kinds xs p.1 in (x.0 ∷ others.0, (is_request known kinds x.0 x.1 p.0, others.1), ap (λ l. frame_of x.0 ++ l) others.2)

pub are_requests : (known : ℕ) (kinds before written : List ℕ) → AreAnswered known kinds before written → AreRequests known kinds before
are_requests known kinds before written p =
    let found = requests_from known kinds p.exchanges p.owed in record { messages = found.0; requests = found.1; bytes_are = p.asked ∙ found.2 }

-- ---- how it stops

-- with what is owed for the whole requests in front written
pub has_begun : (known : ℕ) (kinds read before rest written : List ℕ) → read ≡ before ++ rest → AreAnswered known kinds before written → IsBegun known kinds read written
has_begun known kinds read before rest written is p = record {
  before = before;
  rest = rest;
  split = is;
  later = [];
  answered = subst (λ l. AreAnswered known kinds before l) (sym (append-nil written)) p;
}

-- at bad bytes, with these left
pub bad_so : (known : ℕ) (kinds read before rest written left : List ℕ) (place : ℕ) → read ≡ before ++ rest → AreAnswered known kinds before written → place ≡ place_after before →
    IsBad known rest → IsBad known (rest ++ left) → IsServed known kinds read left written (Err (Bad place))
bad_so known kinds read before rest written left place is p at bad still = (
  record {
    before = before;
    rest = rest ++ left;
    split = ap (λ l. l ++ left) is ∙ append_assoc before rest left;
    requests = are_requests known kinds before written p;
    why = still;
    place_is = at;
  },
  record { before = before; rest = rest; split = is; answered = p; nothing_more = bad_owes known kinds rest bad },
)

-- bytes that stop it stop it whatever follows
stops_bad : (known : ℕ) (kinds read before rest written : List ℕ) (place : ℕ) → read ≡ before ++ rest → AreAnswered known kinds before written → place ≡ place_after before →
    IsBad known rest → ((left : List ℕ) → IsBad known (rest ++ left)) → IsStopped known kinds read written (Bad place)
stops_bad known kinds read before rest written place is p at bad always = λ left. bad_so known kinds read before rest written left place is p at bad (always left)

stops_others : OneSpelling → (known : ℕ) (kinds read before message more written : List ℕ) (place : ℕ) → read ≡ before ++ (frame_of message ++ more) →
    AreAnswered known kinds before written → place ≡ place_after before → length message ≤ most_bytes → ((j : JobTree) × AsksIn known message j × (j.kinds ≢ kinds)) →
    IsStopped known kinds read written (Kinds place)
stops_others one known kinds read before message more written place is p at short (j, asks, others) = λ left. (
  record {
    before = before;
    rest = frame_of message ++ (more ++ left);
    split = ap (λ l. l ++ left) is ∙ append_assoc before (frame_of message ++ more) left ∙ ap (λ l. before ++ l) (append_assoc (frame_of message) more left);
    requests = are_requests known kinds before written p;
    why = record { message = message; more = more ++ left; short = short; begins = refl; job = j; asks = asks; others = others };
    place_is = at;
  },
  record {
    before = before;
    rest = frame_of message ++ more;
    split = is;
    answered = p;
    nothing_more = others_owe one known kinds (frame_of message ++ more) (record { message = message; more = more; short = short; begins = refl; job = j; asks = asks; others = others });
  },
)

-- ---- bad bytes

pub bad_message : (known : ℕ) (message more : List ℕ) → length message ≤ most_bytes → ((j : JobTree) → ¬ AsksIn known message j) → IsBad known (frame_of message ++ more)
bad_message known message more short none = record {
  some = λ e. no_frame message more (sym e);
  no_request = λ m k short' is j asks. none j (subst (λ l. AsksIn known l j) (sym (one_first (frame_of message ++ more) message m more k short short' refl is).0) asks);
}

bad_long : (known : ℕ) (bytes : List ℕ) (n : ℕ) → IsTooLong bytes n → IsBad known bytes
bad_long known bytes n long = record {
  some = λ e. let none : length bytes ≡ 0 = ap length e in let four : 4 ≤ length bytes = long.0.0 in omega arith;
  no_request = λ m k short is j asks. long_or_whole bytes m k n long short is;
}

pub bad_part : (known : ℕ) (bytes : List ℕ) → IsPart bytes → 0 < length bytes → IsBad known bytes
bad_part known bytes part some = record {
  some = λ e. let none : length bytes ≡ 0 = ap length e in omega arith;
  no_request = λ m k short is j asks. part_or_whole bytes m k part short is;
}

-- ---- one piece

-- some bytes of a frame are always taken
pub takes_some : (f f' : Feeding) (piece : List ℕ) (message : Vec ℕ Global) (taken : ℕ) → IsOpen f → IsFed f piece (Ok (Whole message taken)) f' → 0 < taken
takes_some (holds bytes) f' piece message zero part (few, short, is, after) =
    absurd (part_or_whole bytes message.items [] part short (sym (append-nil bytes) ∙ is ∙ sym (append-nil (frame_of message.items))))
takes_some (holds bytes) f' piece message (suc n) part fed = omega arith
takes_some (refuses n) f' piece message taken part fed = absurd part

-- and no more than the piece has
pub takes_within : (f f' : Feeding) (piece : List ℕ) (message : Vec ℕ Global) (taken : ℕ) → IsOpen f → IsFed f piece (Ok (Whole message taken)) f' → taken ≤ length piece
takes_within (holds bytes) f' piece message taken part (within, short, is, after) = within
takes_within (refuses n) f' piece message taken part fed = absurd part

all_read : (read before held piece frame : List ℕ) (k : ℕ) → read ≡ before ++ held → held ++ take k piece ≡ frame → read ++ piece ≡ before ++ (frame ++ drop k piece)
all_read read before held piece frame k is whole =
    ap (λ l. l ++ piece) is
    ∙ append_assoc before held piece
    ∙ ap (λ l. before ++ (held ++ l)) (sym (take-append-drop k piece))
    ∙ ap (λ l. before ++ l) (sym (append_assoc held (take k piece) (drop k piece)) ∙ ap (λ l. l ++ drop k piece) whole)

some_read : (read before held piece frame : List ℕ) (k : ℕ) → read ≡ before ++ held → held ++ take k piece ≡ frame → read ++ take k piece ≡ (before ++ frame) ++ []
some_read read before held piece frame k is whole =
    ap (λ l. l ++ take k piece) is ∙ append_assoc before held (take k piece) ∙ ap (λ l. before ++ l) whole ∙ sym (append-nil (before ++ frame))

-- the bytes that a course holds are those that its feeder is fed on
fed_on : (known : ℕ) (kinds read written : List ℕ) (c : Course) (piece : List ℕ) (answer : Result Fed FeedFault) (f' : Feeding) (on : IsOn known kinds read written c) →
    IsFed c.feeder piece answer f' → IsFedOn on.held piece answer f'
fed_on known kinds read written c piece answer f' on fed = subst (λ f. IsFed f piece answer f') on.holds_it fed

pub on_whole : (known : ℕ) (kinds : List ℕ) (c c' : Course) (f' : Feeding) (piece : List ℕ) (message : Vec ℕ Global) (taken size : ℕ) (old new : Option (List ℕ)) →
    IsFed c.feeder piece (Ok (Whole message taken)) f' → Speaks known kinds message.items c.place old new (Ok tt) →
    c'.feeder ≡ f' → c'.place ≡ min (c.place + size) (2 ^ 64 - 1) → size ≡ 4 + length message.items → c'.begun ≡ false → OnAfter known kinds c c' (take taken piece) old new
on_whole known kinds c c' f' piece message taken size old new fed (answer, owed, appends) feeder place sized begun = λ read written on.
    let whole = fed_on known kinds read written c piece (Ok (Whole message taken)) f' on fed in (
      frame_of answer,
      appends,
      record {
        before = on.before ++ frame_of message.items;
        held = [];
        split = some_read read on.before on.held piece (frame_of message.items) taken on.split whole.2;
        answered = one_more known kinds on.before written message.items answer on.answered owed;
        holds_it = feeder ∙ whole.3;
        place_is = place ∙ place_more on.before message.items c.place size on.place_is sized;
        begun_is = begun;
      },
    )

pub on_held : (known : ℕ) (kinds : List ℕ) (c c' : Course) (f' : Feeding) (piece : List ℕ) (old : Option (List ℕ)) →
    IsFed c.feeder piece (Ok Held) f' → 0 < length piece → c'.feeder ≡ f' → c'.place ≡ c.place → c'.begun ≡ true → OnAfter known kinds c c' piece old old
on_held known kinds c c' f' piece old fed some feeder place begun = λ read written on.
    let part = fed_on known kinds read written c piece (Ok Held) f' on fed in (
      [],
      Appends-nil old,
      record {
        before = on.before;
        held = on.held ++ piece;
        split = ap (λ l. l ++ piece) on.split ∙ append_assoc on.before on.held piece;
        answered = subst (λ l. AreAnswered known kinds on.before l) (sym (append-nil written)) on.answered;
        holds_it = feeder ∙ part.1;
        place_is = place ∙ on.place_is;
        begun_is = begun ∙ sym (lt-ltb 0 (length (on.held ++ piece)) (subst (λ n. 0 < n) (sym (length-append on.held piece)) (omega arith)));
      },
    )

-- nothing more is written
unwritten : (known : ℕ) (kinds read written : List ℕ) (old : Option (List ℕ)) (fault : ServeFault) → IsStopped known kinds read written fault → GrowsSo old old (λ more. IsStopped known kinds read (written ++ more) fault)
unwritten known kinds read written old fault stopped = ([], Appends-nil old, subst (λ l. IsStopped known kinds read l fault) (sym (append-nil written)) stopped)

pub stops_long : (known : ℕ) (kinds : List ℕ) (c : Course) (f' : Feeding) (piece : List ℕ) (old : Option (List ℕ)) (n : ℕ) →
    IsFed c.feeder piece (Err (TooLong n)) f' → StopsAfter known kinds c piece old old (Bad c.place)
stops_long known kinds c f' piece old n fed = λ read written on.
    let long = (fed_on known kinds read written c piece (Err (TooLong n)) f' on fed).0 in
    unwritten known kinds (read ++ piece) written old (Bad c.place)
    (stops_bad known kinds (read ++ piece) on.before (on.held ++ piece) written c.place (ap (λ l. l ++ piece) on.split ∙ append_assoc on.before on.held piece) on.answered on.place_is
    (bad_long known (on.held ++ piece) n long) (λ left. bad_long known ((on.held ++ piece) ++ left) n (too_long_after (on.held ++ piece) left n long)))

pub stops_memory : (known : ℕ) (kinds : List ℕ) (c : Course) (piece : List ℕ) (old : Option (List ℕ)) → StopsAfter known kinds c piece old old NoMemory
stops_memory known kinds c piece old = λ read written on.
    unwritten known kinds (read ++ piece) written old NoMemory
    (λ left. has_begun known kinds (read ++ piece) on.before (on.held ++ piece) written (ap (λ l. l ++ piece) on.split ∙ append_assoc on.before on.held piece) on.answered)

-- the same where bytes were written of which nothing is known, and they are none
silent : (known : ℕ) (kinds read written : List ℕ) (old new : Option (List ℕ)) (fault : ServeFault) → Appends old new [] → IsStopped known kinds read written fault →
    GrowsSo old new (λ more. IsStopped known kinds read (written ++ more) fault)
silent known kinds read written old new fault none stopped = ([], none, subst (λ l. IsStopped known kinds read l fault) (sym (append-nil written)) stopped)

pub stops_whole : OneSpelling → (known : ℕ) (kinds : List ℕ) (c : Course) (f' : Feeding) (piece : List ℕ) (message : Vec ℕ Global) (taken : ℕ) (old new : Option (List ℕ)) (fault : ServeFault) →
    IsFed c.feeder piece (Ok (Whole message taken)) f' → Speaks known kinds message.items c.place old new (Err fault) → StopsAfter known kinds c piece old new fault
stops_whole one known kinds c f' piece message taken old new Read fed speaks = absurd speaks
stops_whole one known kinds c f' piece message taken old new Write fed (answer, owed, (n, few, appends)) = λ read written on.
    let whole = fed_on known kinds read written c piece (Ok (Whole message taken)) f' on fed in (
      take n (frame_of answer),
      appends,
      λ left. record {
        before = on.before ++ frame_of message.items;
        rest = drop taken piece;
        split = all_read read on.before on.held piece (frame_of message.items) taken on.split whole.2 ∙ sym (append_assoc on.before (frame_of message.items) (drop taken piece));
        later = drop n (frame_of answer);
        answered = subst (λ l. AreAnswered known kinds (on.before ++ frame_of message.items) l)
            (ap (λ l. written ++ l) (sym (take-append-drop n (frame_of answer))) ∙ sym (append_assoc written (take n (frame_of answer)) (drop n (frame_of answer))))
            (one_more known kinds on.before written message.items answer on.answered owed);
      },
    )
stops_whole one known kinds c f' piece message taken old new (Bad n) fed (at, none, no_request) = λ read written on.
    let whole = fed_on known kinds read written c piece (Ok (Whole message taken)) f' on fed in
    silent known kinds (read ++ piece) written old new (Bad n) none
    (stops_bad known kinds (read ++ piece) on.before (frame_of message.items ++ drop taken piece) written n
    (all_read read on.before on.held piece (frame_of message.items) taken on.split whole.2) on.answered (at ∙ on.place_is)
    (bad_message known message.items (drop taken piece) whole.1 no_request)
    (λ left. subst (IsBad known) (sym (append_assoc (frame_of message.items) (drop taken piece) left)) (bad_message known message.items (drop taken piece ++ left) whole.1 no_request)))
stops_whole one known kinds c f' piece message taken old new (Kinds n) fed (at, none, others) = λ read written on.
    let whole = fed_on known kinds read written c piece (Ok (Whole message taken)) f' on fed in
    silent known kinds (read ++ piece) written old new (Kinds n) none
    (stops_others one known kinds (read ++ piece) on.before message.items (drop taken piece) written n
    (all_read read on.before on.held piece (frame_of message.items) taken on.split whole.2) on.answered (at ∙ on.place_is) whole.1 others)
stops_whole one known kinds c f' piece message taken old new NoMemory fed none = λ read written on.
    silent known kinds (read ++ piece) written old new NoMemory none
    (λ left. has_begun known kinds (read ++ piece) on.before (on.held ++ piece) written (ap (λ l. l ++ piece) on.split ∙ append_assoc on.before on.held piece) on.answered)

-- ---- the start

pub start_on : (known : ℕ) (kinds : List ℕ) (f : Feeding) → f ≡ holds [] → IsOn known kinds [] [] (record { feeder = f; place = 0; begun = false })
start_on known kinds f feeder = record {
  before = [];
  held = [];
  split = refl;
  answered = none_answered known kinds;
  holds_it = feeder;
  place_is = sym (zero-min (2 ^ 64 - 1));
  begun_is = refl;
}

pub open_start : (f : Feeding) → f ≡ holds [] → IsOpen f
open_start f is = subst IsOpen (sym is) (inl (omega arith))

-- after a whole message nothing is held
pub open_whole : (f f' : Feeding) (piece : List ℕ) (message : Vec ℕ Global) (taken : ℕ) → IsOpen f → IsFed f piece (Ok (Whole message taken)) f' → IsOpen f'
open_whole (holds bytes) f' piece message taken part (within, short, is, after) = open_start f' after
open_whole (refuses n) f' piece message taken part fed = absurd part

-- ---- pieces one after another

pub on_none : (known : ℕ) (kinds : List ℕ) (c : Course) (old : Option (List ℕ)) → OnAfter known kinds c c [] old old
on_none known kinds c old = λ read written on.
    ([], Appends-nil old, subst (λ l. IsOn known kinds l (written ++ []) c) (sym (append-nil read)) (subst (λ l. IsOn known kinds read l c) (sym (append-nil written)) on))

pub on_more : (known : ℕ) (kinds : List ℕ) (a b c : Course) (xs ys zs : List ℕ) (old mid new : Option (List ℕ)) →
    OnAfter known kinds a b xs old mid → OnAfter known kinds b c ys mid new → zs ≡ xs ++ ys → OnAfter known kinds a c zs old new
on_more known kinds a b c xs ys zs old mid new first second is = λ read written on.
    let one = first read written on in
    let two = second (read ++ xs) (written ++ one.0) one.2 in (
      one.0 ++ two.0,
      Appends-trans old mid new one.0 two.0 (one.0 ++ two.0) one.1 two.1 refl,
      subst (λ l. IsOn known kinds l (written ++ (one.0 ++ two.0)) c) (append_assoc read xs ys ∙ ap (λ l. read ++ l) (sym is))
          (subst (λ l. IsOn known kinds ((read ++ xs) ++ ys) l c) (append_assoc written one.0 two.0) two.2),
    )

pub on_stop : (known : ℕ) (kinds : List ℕ) (a b : Course) (xs ys zs : List ℕ) (old mid new : Option (List ℕ)) (fault : ServeFault) →
    OnAfter known kinds a b xs old mid → StopsAfter known kinds b ys mid new fault → zs ≡ xs ++ ys → StopsAfter known kinds a zs old new fault
on_stop known kinds a b xs ys zs old mid new fault first second is = λ read written on.
    let one = first read written on in
    let two = second (read ++ xs) (written ++ one.0) one.2 in (
      one.0 ++ two.0,
      Appends-trans old mid new one.0 two.0 (one.0 ++ two.0) one.1 two.1 refl,
      subst (λ l. IsStopped known kinds l (written ++ (one.0 ++ two.0)) fault) (append_assoc read xs ys ∙ ap (λ l. read ++ l) (sym is))
          (subst (λ l. IsStopped known kinds ((read ++ xs) ++ ys) l fault) (append_assoc written one.0 two.0) two.2),
    )

-- ---- a piece from a place on

pub next_piece : (known : ℕ) (kinds kinds' : List ℕ) (a b c : Course) (piece : List ℕ) (from count : ℕ) (old mid new : Option (List ℕ)) → kinds' ≡ kinds → count ≤ length piece - from →
    OnAfter known kinds a b (take from piece) old mid → OnAfter known kinds' b c (take count (take (length piece - from) (drop from piece))) mid new → OnAfter known kinds a c (take (from + count) piece) old new
next_piece known kinds kinds' a b c piece from count old mid new same few first second =
    on_more known kinds a b c (take from piece) (take count (take (length piece - from) (drop from piece))) (take (from + count) piece) old mid new first
    (subst (λ k. OnAfter known k b c (take count (take (length piece - from) (drop from piece))) mid new) same second)
    (take-add-take piece from count (length piece - from) few)

pub stop_piece : (known : ℕ) (kinds kinds' : List ℕ) (a b : Course) (piece : List ℕ) (from : ℕ) (old mid new : Option (List ℕ)) (fault : ServeFault) → kinds' ≡ kinds →
    OnAfter known kinds a b (take from piece) old mid → StopsAfter known kinds' b (take (length piece - from) (drop from piece)) mid new fault → StopsAfter known kinds a piece old new fault
stop_piece known kinds kinds' a b piece from old mid new fault same first second =
    on_stop known kinds a b (take from piece) (take (length piece - from) (drop from piece)) piece old mid new fault first
    (subst (λ k. StopsAfter known k b (take (length piece - from) (drop from piece)) mid new fault) same second)
    (sym (ap (λ l. take from piece ++ l) (take_rest piece from) ∙ take-append-drop from piece))

pub last_piece : (known : ℕ) (kinds : List ℕ) (a b : Course) (piece : List ℕ) (from : ℕ) (old new : Option (List ℕ)) → length piece ≤ from → from ≤ length piece →
    OnAfter known kinds a b (take from piece) old new → OnAfter known kinds a b piece old new
last_piece known kinds a b piece from old new all within on =
    let same : from ≡ length piece = omega arith in
    subst (λ l. OnAfter known kinds a b l old new) (ap (λ n. take n piece) same ∙ take-length piece) on

-- how many bytes of the rest of a piece were taken
pub few_of : (piece : List ℕ) (from count : ℕ) → count ≤ length (take (length piece - from) (drop from piece)) → count ≤ length piece - from
few_of piece from count few = subst (λ n. count ≤ n) (length-drop from piece) (subst (λ l. count ≤ length l) (take_rest piece from) few)

pub within_of : (piece : List ℕ) (from count : ℕ) → from ≤ length piece → count ≤ length piece - from → from + count ≤ length piece
within_of piece from count within few = omega arith

-- ---- errors and counts

pub same_error : {T E : Type 0} (r : Result T E) (a b : E) → r ≡ Err a → r ≡ Err b → a ≡ b
same_error r a b p q = cc

-- where a call has answered, the count is as it was
pub unrisen : {T E : Type 0} (x : T) (e : E) (a b : ℕ) → HasCauseOf e a b (Ok x) → b ≡ a
unrisen x e a b cause = elim (cases_lt a b) [
  | inl less ↦ let clash : IsErrOf (Ok x) e = cause.only less in absurd cc
  | inr more ↦ let least : a ≤ b = cause.never_falls in omega arith
]
