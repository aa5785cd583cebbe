-- How a worker reads its input piece by piece, and ends.
use Rattle.std.proofs.Common.{◌≡◌, refl, sym, subst, ◌∙◌, ap, arith, true, false, ℕ, ◌<◌, ◌≤◌, List, [], ◌++◌, length}
use Rattle.std.specs.Prelude.{Option, Some, None, IfSome, Result, Ok, Err, ⊤}
use Rattle.std.specs.Io.KnownBytes.{Appends, Consumes, Keeps, IsAtEnd}
use Rattle.std.proofs.lemmas.Bool.{ltb-true, ltb-false}
use Rattle.std.proofs.lemmas.List.{append_assoc, append-nil, nil_from_length}
use Rattle.px_io.proofs.TellingLemmas.{Appends-trans, Appends-nil}
use Rattle.px_frames.specs.Frames.{IsPart}
use Rattle.px_worker.specs.declared.faults.ServeFault.{ServeFault}
use Rattle.px_worker.specs.declared.faults.ServeFault.TheVariants.{Read, Write, Bad, Kinds, NoMemory}
use Rattle.px_worker.specs.declared.course.Course.{Course}
use Rattle.px_worker.specs.Stops.{AreRequests, IsBad}
use Rattle.px_worker.specs.Served.{IsBegun, IsServed, Serves}
use Rattle.px_worker.specs.Laws.{AnswersBegin}
use Rattle.px_worker.specs.Courses.{IsOpen, IsOn, OnAfter, StopsAfter, Stands}
use Rattle.px_worker.proofs.StopLemmas.{nothing_owes}
use Rattle.px_worker.proofs.CourseLemmas.{has_begun, are_requests, bad_so, bad_part}

-- ---- what is told of reads

pub Consumes-trans : (a b c : Option (List ℕ)) (xs ys zs : List ℕ) → Consumes a b xs → Consumes b c ys → zs ≡ xs ++ ys → Consumes a c zs
Consumes-trans None b c xs ys zs p q e = tt
Consumes-trans (Some a) None c xs ys zs p q e = absurd p
Consumes-trans (Some a) (Some b) None xs ys zs p q e = absurd q
Consumes-trans (Some a) (Some b) (Some c) xs ys zs p q e = p ∙ ap (λ z. xs ++ z) q ∙ sym (append_assoc xs ys c) ∙ ap (λ z. z ++ c) (sym e)

pub Consumes-nil : (a : Option (List ℕ)) → Consumes a a []
Consumes-nil None = tt
Consumes-nil (Some xs) = refl

Consumes-kept : (a b : Option (List ℕ)) → Keeps a b → Consumes a b []
Consumes-kept None b k = tt
Consumes-kept (Some a) None k = absurd k
Consumes-kept (Some a) (Some b) k = sym k

-- what is told to be left
left_of : (a : Option (List ℕ)) → (left : List ℕ) × IfSome a (λ bytes. bytes ≡ left)
left_of None = ([], tt)
left_of (Some xs) = (xs, refl)

none_left : (a : Option (List ℕ)) → IsAtEnd a → IfSome a (λ bytes. bytes ≡ [])
none_left None end = tt
none_left (Some xs) end = end

-- ---- the end of the input

pub end_whole : (known : ℕ) (kinds read written : List ℕ) (c : Course) → c.begun ≡ false → IsOn known kinds read written c → IsServed known kinds read [] written (Ok tt)
end_whole known kinds read written c begun on =
    let none : on.held ≡ [] = nil_from_length on.held (let few : length on.held ≤ 0 = ltb-false 0 (length on.held) (sym on.begun_is ∙ begun) in omega arith) in
    let all : on.before ≡ read = sym (on.split ∙ ap (λ l. on.before ++ l) none ∙ append-nil on.before) in (
      refl,
      subst (λ l. AreRequests known kinds l) all (are_requests known kinds on.before written on.answered),
      record { before = on.before; rest = []; split = sym all ∙ sym (append-nil on.before); answered = on.answered; nothing_more = nothing_owes known kinds },
    )

pub end_within : (known : ℕ) (kinds read written : List ℕ) (c : Course) → c.begun ≡ true → IsOpen c.feeder → IsOn known kinds read written c → IsServed known kinds read [] written (Err (Bad c.place))
end_within known kinds read written c begun opened on =
    let part : IsPart on.held = subst IsOpen on.holds_it opened in
    let some : 0 < length on.held = ltb-true 0 (length on.held) (sym on.begun_is ∙ begun) in
    let bad : IsBad known on.held = bad_part known on.held part some in
    bad_so known kinds read on.before on.held written [] c.place on.split on.answered on.place_is bad (subst (IsBad known) (sym (append-nil on.held)) bad)

-- ---- the whole run

-- however it ended, what was written is a beginning of what is owed
pub served_begun : (known : ℕ) (kinds read left written : List ℕ) (r : Result ⊤ ServeFault) → IsServed known kinds read left written r → IsBegun known kinds read written
served_begun known kinds read left written (Ok _) (none, whole, is) = has_begun known kinds read is.before is.rest written is.split is.answered
served_begun known kinds read left written (Err Read) begun = begun
served_begun known kinds read left written (Err Write) begun = begun
served_begun known kinds read left written (Err (Bad n)) (at, is) = has_begun known kinds read is.before is.rest written is.split is.answered
served_begun known kinds read left written (Err (Kinds n)) (at, is) = has_begun known kinds read is.before is.rest written is.split is.answered
served_begun known kinds read left written (Err NoMemory) begun = begun

serves_so : AnswersBegin → (known : ℕ) (kinds read left written : List ℕ) (source source' sink sink' : Option (List ℕ)) (r : Result ⊤ ServeFault) →
    Consumes source source' read → IfSome source' (λ bytes. bytes ≡ left) → Appends sink sink' written → IsServed known kinds read left written r → Serves known kinds source source' sink sink' r
serves_so law known kinds read left written source source' sink sink' r took left_is wrote served = record {
  read = read;
  left = left;
  written = written;
  took = took;
  left_is = left_is;
  wrote = wrote;
  served = served;
  begins = λ answer is. law known kinds read written answer (served_begun known kinds read left written r served) is;
}

pub stand_start : (known : ℕ) (kinds : List ℕ) (source sink : Option (List ℕ)) (c : Course) → IsOn known kinds [] [] c → IsOpen c.feeder → Stands known kinds source source sink sink c
stand_start known kinds source sink c on opened = record {
  read = [];
  written = [];
  took = Consumes-nil source;
  wrote = Appends-nil sink;
  on = on;
  part = opened;
}

pub stand_next : (known : ℕ) (kinds bytes : List ℕ) (s0 s1 s2 k0 k1 k2 : Option (List ℕ)) (a b : Course) → Stands known kinds s0 s1 k0 k1 a → Consumes s1 s2 bytes → OnAfter known kinds a b bytes k1 k2 → IsOpen b.feeder →
    Stands known kinds s0 s2 k0 k2 b
stand_next known kinds bytes s0 s1 s2 k0 k1 k2 a b st took after opened =
    let grown = after st.read st.written st.on in
    record {
      read = st.read ++ bytes;
      written = st.written ++ grown.0;
      took = Consumes-trans s0 s1 s2 st.read bytes (st.read ++ bytes) st.took took refl;
      wrote = Appends-trans k0 k1 k2 st.written grown.0 (st.written ++ grown.0) st.wrote grown.1 refl;
      on = grown.2;
      part = opened;
    }

pub serves_stop : AnswersBegin → (known : ℕ) (kinds bytes : List ℕ) (s0 s1 s2 k0 k1 k2 : Option (List ℕ)) (a : Course) (fault : ServeFault) → Stands known kinds s0 s1 k0 k1 a → Consumes s1 s2 bytes →
    StopsAfter known kinds a bytes k1 k2 fault → Serves known kinds s0 s2 k0 k2 (Err fault)
serves_stop law known kinds bytes s0 s1 s2 k0 k1 k2 a fault st took after =
    let grown = after st.read st.written st.on in
    let left = left_of s2 in
    serves_so law known kinds (st.read ++ bytes) left.0 (st.written ++ grown.0) s0 s2 k0 k2 (Err fault)
    (Consumes-trans s0 s1 s2 st.read bytes (st.read ++ bytes) st.took took refl) left.1
    (Appends-trans k0 k1 k2 st.written grown.0 (st.written ++ grown.0) st.wrote grown.1 refl) (grown.2 left.0)

pub serves_unread : AnswersBegin → (known : ℕ) (kinds : List ℕ) (s0 s1 s2 k0 k1 : Option (List ℕ)) (a : Course) → Stands known kinds s0 s1 k0 k1 a → Keeps s1 s2 → Serves known kinds s0 s2 k0 k1 (Err Read)
serves_unread law known kinds s0 s1 s2 k0 k1 a st kept =
    let left = left_of s2 in
    serves_so law known kinds st.read left.0 st.written s0 s2 k0 k1 (Err Read)
    (Consumes-trans s0 s1 s2 st.read [] st.read st.took (Consumes-kept s1 s2 kept) (sym (append-nil st.read))) left.1 st.wrote
    (has_begun known kinds st.read st.on.before st.on.held st.written st.on.split st.on.answered)

pub serves_end : AnswersBegin → (known : ℕ) (kinds bytes : List ℕ) (s0 s1 s2 k0 k1 : Option (List ℕ)) (a : Course) (r : Result ⊤ ServeFault) → Stands known kinds s0 s1 k0 k1 a → Consumes s1 s2 bytes → bytes ≡ [] → IsAtEnd s2 →
    ((known : ℕ) (kinds read written : List ℕ) → IsOn known kinds read written a → IsServed known kinds read [] written r) → Serves known kinds s0 s2 k0 k1 r
serves_end law known kinds bytes s0 s1 s2 k0 k1 a r st took none end ended =
    serves_so law known kinds st.read [] st.written s0 s2 k0 k1 r
    (Consumes-trans s0 s1 s2 st.read bytes st.read st.took took (sym (append-nil st.read) ∙ ap (λ l. st.read ++ l) (sym none))) (none_left s2 end) st.wrote
    (ended known kinds st.read st.written st.on)
