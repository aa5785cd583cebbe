-- Bytes that are received into a slice, one part after another.
use Rattle.std.proofs.Common.{◌≡◌, sym, ap, subst, ◌∙◌, arith, ℕ, ◌+◌, ◌-◌, ◌<◌, ◌≤◌, List, ◌++◌, length, Bool, true, false, length-take-le}
use Rattle.std.specs.Prelude.{Option, take, drop, slice_range, nat_eq, nat_lt, Result, Ok, Err, OnErr}
use Rattle.std.proofs.lemmas.Bool.{lt-ltb, le-ltb, ne_eqb}
use Rattle.std.proofs.Math.Seq.{take-add}
use Rattle.px_io.specs.declared.sink.Failed.{Failed}
use Rattle.px_io.specs.Faults.{HasCause, RoseOnce}
use Rattle.px_pool.specs.Talks.{Talk, Passes, nothing}
use Rattle.px_pool.specs.Reading.{Gives, GivesFewer}
use Rattle.px_pool.proofs.TalkLemmas.{gives_on, gives_no_more}

-- the first bytes of a slice, and those up to another place
take_split : (a n : ℕ) (old new : List ℕ) → take a new ≡ take a old → take a old ++ slice_range new a (a + n) ≡ take (a + n) new
take_split a n old new front =
    let same : (a + n) - a ≡ n = omega arith in
    ap (λ l. l ++ slice_range new a (a + n)) (sym front) ∙ ap (λ m. take a new ++ take m (drop a new)) same ∙ sym (take-add a n new)

-- what was received after the first bytes is given after them
pub joined : (t0 t1 t2 : Option Talk) (have n : ℕ) (old new : List ℕ) (e : Bool) → take have new ≡ take have old →
    Gives t0 t1 (take have old) false → Gives t1 t2 (slice_range new have (have + n)) e → Gives t0 t2 (take (have + n) new) e
joined t0 t1 t2 have n old new e front p q = subst (λ z. Gives t0 t2 z e) (take_split have n old new front) (gives_on t0 t1 t2 (take have old) (slice_range new have (have + n)) e p q)

-- some more bytes
pub next : (t0 t1 t2 : Option Talk) (have n m : ℕ) (old new : List ℕ) → take have new ≡ take have old → (n ≡ 0 → ⊥) → m ≡ have + n →
    Gives t0 t1 (take have old) false → Gives t1 t2 (slice_range new have (have + n)) (nat_eq n 0) → Gives t0 t2 (take m new) false
next t0 t1 t2 have n m old new front some is p q =
    subst (λ z. Gives t0 t2 (take z new) false) (sym is)
    (joined t0 t1 t2 have n old new false front p (subst (λ z. Gives t1 t2 (slice_range new have (have + n)) z) (ne_eqb n 0 some) q))

-- no more bytes, though there is room
pub at_end : (t0 t1 t2 : Option Talk) (have n : ℕ) (old new : List ℕ) → take have new ≡ take have old → n ≡ 0 → have < length new →
    Gives t0 t1 (take have old) false → Gives t1 t2 (slice_range new have (have + n)) (nat_eq n 0) → Gives t0 t2 (take have new) (nat_lt have (length new))
at_end t0 t1 t2 have n old new front none room p q =
    let same : have + n ≡ have = omega (arith, none) in
    subst (λ z. Gives t0 t2 (take have new) z) (sym (lt-ltb have (length new) room))
    (subst (λ z. Gives t0 t2 (take z new) true) same
    (joined t0 t1 t2 have n old new true front p (subst (λ z. Gives t1 t2 (slice_range new have (have + n)) (nat_eq z 0)) none q)))

-- no more room
pub when_full : (t0 t1 : Option Talk) (have : ℕ) (bytes : List ℕ) → length bytes ≤ have → Gives t0 t1 (take have bytes) false → Gives t0 t1 (take have bytes) (nat_lt have (length bytes))
when_full t0 t1 have bytes full p = subst (λ z. Gives t0 t1 (take have bytes) z) (sym (le-ltb have (length bytes) full)) p

-- ---- where reading stops

-- a call failed, and gave nothing
pub fewer : {T : Type 0} (r : Result T Failed) (e : Failed) (t0 t1 t2 : Option Talk) (have n : ℕ) (old : List ℕ) → r ≡ Err e → have < length old → length old ≡ n →
    Gives t0 t1 (take have old) false → Passes t1 t2 nothing → OnErr r (GivesFewer t0 t2 n)
fewer r e t0 t1 t2 have n old is room all p q =
    let within : have ≤ length old = omega arith in
    let many : length (take have old) ≡ have = length-take-le have old within in
    let few : length (take have old) < n = omega (arith, room, all, many) in
    subst (λ z. OnErr z (GivesFewer t0 t2 n)) (sym is) (take have old, few, gives_no_more t0 t1 t2 (take have old) p q)

-- ---- counts

pub as_before : (a c n : ℕ) → c ≡ a → HasCause {T = ℕ} {E = Failed} a c (Ok n)
as_before a c n same = record { never_falls = omega (arith, same); failed = tt; unfailed = same }

pub failed_after : (a b c : ℕ) (r : Result ℕ Failed) (e f : Failed) → r ≡ Err e → b ≡ a → HasCause {T = ℕ} {E = Failed} b c (Err f) → HasCause a c r
failed_after a b c r e f is same h =
    subst (λ z. HasCause a c z) (sym is) (record { never_falls = subst (λ n. n ≤ c) same h.never_falls; failed = subst (λ n. RoseOnce n c) same h.failed; unfailed = tt })
