-- Bytes are passed over in one way.
use Rattle.std.proofs.Common.{◌≡◌, ◌≢◌, ℕ, zero, suc, ◌+◌, ◌*◌, ◌-◌, ◌<◌, ◌≤◌, List, [], ◌∷◌, ◌++◌, length, slice_index_or, Option, Some, None, IfSome, Bor, Bool, true, false, refl, sym, ap, subst, ◌∙◌, append_assoc, arith}
use Rattle.std.specs.Prelude.{take, drop, nat_lt, ◌==◌, if◌then◌else◌}
use Rattle.std.proofs.lemmas.Bool.{lt-ltb, le-ltb, ltb-false, ne_eqb}
use Rattle.std.proofs.lemmas.Option.{none-some, same_Some}
use Rattle.std.proofs.lemmas.List.{length-append, length-drop, drop-drop, take_all, take-append-drop, take-append-le, drop-append-le}
use Rattle.std.proofs.Math.Seq.{drop-append_seam}
use Rattle.px_parts.specs.declared.form.Spelled.{Spelled}
use Rattle.px_parts.specs.declared.form.Form.{Form}
use Rattle.px_parts.specs.declared.form.Form.TheVariants.{Byte, Word, MaybeWord, Value, Content}
use Rattle.px_parts.specs.declared.form.Due.{Due}
use Rattle.px_parts.specs.Forms.{polynomial_in, size, due, due_only_at, follow_by, follow, next_of, next, Passes, stands, moves}

-- ---- one step

-- this is due, and those bytes are left
abbrev pub leaves : List Due → List ℕ → Option (List Due × List ℕ)
leaves dues bytes = Some (dues, bytes)

pub no_more : (d : Due) (dues : List Due) (bytes : List ℕ) → d.count ≡ 0 → next (d ∷ dues) bytes ≡ leaves dues bytes
no_more d dues bytes none = ap (λ n. next_of d.form n dues bytes) none

pub passes_no_more : (d : Due) (dues : List Due) (bytes : List ℕ) → d.count ≡ 0 → Passes (d ∷ dues) bytes dues bytes
passes_no_more d dues bytes none = moves (no_more d dues bytes none) stands

-- what is told where there are enough bytes
abbrev told : Form → ℕ → List Due → List ℕ → Option (List Due × List ℕ)
told f n dues bytes = leaves (follow f (take (size f) bytes) ∷ due f n ∷ dues) (drop (size f) bytes)

one_told : (f : Form) (n : ℕ) (dues : List Due) (bytes : List ℕ) → size f ≤ length bytes → next_of f (suc n) dues bytes ≡ told f n dues bytes
one_told f n dues bytes some = ap (λ b. if b then None else told f n dues bytes) (le-ltb (length bytes) (size f) some)

one_short : (f : Form) (n : ℕ) (dues : List Due) (bytes : List ℕ) → length bytes < size f → next_of f (suc n) dues bytes ≡ None
one_short f n dues bytes short = ap (λ b. if b then None else told f n dues bytes) (lt-ltb (length bytes) (size f) short)

pub told_at : (f : Form) (n : ℕ) (dues : List Due) (bytes front rest : List ℕ) → size f ≤ length bytes → front ≡ take (size f) bytes → rest ≡ drop (size f) bytes →
    next_of f (suc n) dues bytes ≡ leaves (follow f front ∷ due f n ∷ dues) rest
told_at f n dues bytes front rest there is_front is_rest =
    one_told f n dues bytes there ∙ ap (λ l. leaves (follow f l ∷ due f n ∷ dues) (drop (size f) bytes)) (sym is_front) ∙ ap (λ l. leaves (follow f front ∷ due f n ∷ dues) l) (sym is_rest)

pub next_told : (f : Form) (n : ℕ) (dues : List Due) (bytes front rest : List ℕ) → n ≢ 0 → size f ≤ length bytes → front ≡ take (size f) bytes → rest ≡ drop (size f) bytes →
    next_of f n dues bytes ≡ leaves (follow f front ∷ due f (n - 1) ∷ dues) rest
next_told f zero dues bytes front rest some there is_front is_rest = absurd (some refl)
next_told f (suc n) dues bytes front rest some there is_front is_rest =
    let less : suc n - 1 ≡ n = omega arith in
    told_at f n dues bytes front rest there is_front is_rest ∙ ap (λ k. leaves (follow f front ∷ due f k ∷ dues) rest) (sym less)

pub passes_one : (f : Form) (n : ℕ) (dues : List Due) (bytes front rest : List ℕ) → size f ≤ length bytes → front ≡ take (size f) bytes → rest ≡ drop (size f) bytes →
    Passes (due f (suc n) ∷ dues) bytes (follow f front ∷ due f n ∷ dues) rest
passes_one f n dues bytes front rest there is_front is_rest = moves (told_at f n dues bytes front rest there is_front is_rest) stands

pub next_short : (f : Form) (n : ℕ) (dues : List Due) (bytes : List ℕ) → n ≢ 0 → length bytes < size f → next_of f n dues bytes ≡ None
next_short f zero dues bytes some short = absurd (some refl)
next_short f (suc n) dues bytes some short = one_short f n dues bytes short

-- ---- what one step leaves

both_told : (a c : List Due) (b d : List ℕ) → leaves a b ≡ leaves c d → (a ≡ c) × (b ≡ d)
both_told a c b d same =
    let first : List Due × List ℕ = (a, b) in
    let second : List Due × List ℕ = (c, d) in
    let one : first ≡ second = same_Some first second same in
    (ap (λ z. z.0) one, ap (λ z. z.1) one)

there : (f : Form) (n : ℕ) (dues others : List Due) (bytes rest : List ℕ) → next_of f (suc n) dues bytes ≡ leaves others rest → size f ≤ length bytes
there f n dues others bytes rest is = from_test (nat_lt (length bytes) (size f)) refl where
  from_test : (b : Bool) → nat_lt (length bytes) (size f) ≡ b → size f ≤ length bytes
  from_test true short = absurd (none-some _ (sym (ap (λ b. if b then None else told f n dues bytes) short) ∙ is))
  from_test false long = ltb-false (length bytes) (size f) long

one_more : (f : Form) (n : ℕ) (dues others : List Due) (bytes rest more : List ℕ) → next_of f n dues bytes ≡ leaves others rest → next_of f n dues (bytes ++ more) ≡ leaves others (rest ++ more)
one_more f zero dues others bytes rest more is =
    let b = both_told dues others bytes rest is in ap (λ l. leaves l (bytes ++ more)) b.0 ∙ ap (λ l. leaves others (l ++ more)) b.1
one_more f (suc n) dues others bytes rest more is =
    let some = there f n dues others bytes rest is in
    let b = both_told (follow f (take (size f) bytes) ∷ due f n ∷ dues) others (drop (size f) bytes) rest (sym (one_told f n dues bytes some) ∙ is) in
    let long : size f ≤ length (bytes ++ more) = omega (arith, length-append bytes more) in
    one_told f n dues (bytes ++ more) long
    ∙ ap (λ l. leaves (follow f l ∷ due f n ∷ dues) (drop (size f) (bytes ++ more))) (take-append-le (size f) bytes more some)
    ∙ ap (λ l. leaves (follow f (take (size f) bytes) ∷ due f n ∷ dues) l) (drop-append-le (size f) bytes more some)
    ∙ ap (λ l. leaves l (drop (size f) bytes ++ more)) b.0 ∙ ap (λ l. leaves others (l ++ more)) b.1

next_more : (dues others : List Due) (bytes rest more : List ℕ) → next dues bytes ≡ leaves others rest → next dues (bytes ++ more) ≡ leaves others (rest ++ more)
next_more [] others bytes rest more is = absurd (none-some _ is)
next_more (d ∷ dues) others bytes rest more is = one_more d.form d.count dues others bytes rest more is

one_front : (f : Form) (n : ℕ) (dues others : List Due) (bytes rest : List ℕ) → next_of f n dues bytes ≡ leaves others rest → (front : List ℕ) × (bytes ≡ front ++ rest)
one_front f zero dues others bytes rest is = ([], (both_told dues others bytes rest is).1)
one_front f (suc n) dues others bytes rest is =
    let some = there f n dues others bytes rest is in
    let b = both_told (follow f (take (size f) bytes) ∷ due f n ∷ dues) others (drop (size f) bytes) rest (sym (one_told f n dues bytes some) ∙ is) in
    (take (size f) bytes, sym (take-append-drop (size f) bytes) ∙ ap (λ l. take (size f) bytes ++ l) b.1)

next_front : (dues others : List Due) (bytes rest : List ℕ) → next dues bytes ≡ leaves others rest → (front : List ℕ) × (bytes ≡ front ++ rest)
next_front [] others bytes rest is = absurd (none-some _ is)
next_front (d ∷ dues) others bytes rest is = one_front d.form d.count dues others bytes rest is

-- ---- one after another

pub passes_more : (a c : List Due) (b d more : List ℕ) → Passes a b c d → Passes a (b ++ more) c (d ++ more)
passes_more a _ b _ more stands = stands
passes_more a c b d more (moves {more = m} {after = after} is next) = moves (next_more a m b after more is) (passes_more m c after d more next)

pub passes_front : (a c : List Due) (b d : List ℕ) → Passes a b c d → (front : List ℕ) × (b ≡ front ++ d)
passes_front a _ b _ stands = ([], refl)
passes_front a c b d (moves {more = m} {after = after} is next) =
    let first = next_front a m b after is in
    let e = passes_front m c after d next in
    (first.0 ++ e.0, first.1 ∙ ap (λ l. first.0 ++ l) e.1 ∙ sym (append_assoc first.0 e.0 d))

pub passes_then : (a c e : List Due) (b d r : List ℕ) → Passes a b c d → Passes c d e r → Passes a b e r
passes_then a _ e b _ r stands second = second
passes_then a c e b d r (moves {more = m} {after = after} is next) second = moves is (passes_then m c e after d r next second)

pub passes_same : (a c e : List Due) (b d : List ℕ) → Passes a b c d → e ≡ c → Passes a b e d
passes_same a c e b d first is = subst (λ l. Passes a b l d) (sym is) first

pub passes_none : (a : List Due) (b : List ℕ) → Passes a b a b
passes_none a b = stands

-- so many that stand alone, and all their bytes
pub passes_all : (f : Form) (n : ℕ) (dues : List Due) (bytes : List ℕ) → ((front : List ℕ) → (follow f front).count ≡ 0) → size f * n ≤ length bytes →
    Passes (due f n ∷ dues) bytes dues (drop (size f * n) bytes)
passes_all f zero dues bytes alone enough =
    let same : size f * zero ≡ 0 = omega arith in
    subst (λ k. Passes (due f zero ∷ dues) bytes dues (drop k bytes)) (sym same) (passes_no_more (due f zero) dues bytes refl)
passes_all f (suc n) dues bytes alone enough =
    let front = take (size f) bytes in
    let after = drop (size f) bytes in
    let each : size f * suc n ≡ size f + size f * n = omega arith in
    let many : length after ≡ length bytes - size f = length-drop (size f) bytes in
    let others : Passes (due f n ∷ dues) after dues (drop (size f * n) after) = passes_all f n dues after alone (omega (arith, each, many, enough)) in
    let behind : drop (size f * n) after ≡ drop (size f * suc n) bytes = drop-drop (size f * n) (size f) bytes ∙ ap (λ k. drop k bytes) (sym each) in
    passes_then (due f (suc n) ∷ dues) (follow f front ∷ due f n ∷ dues) dues bytes after (drop (size f * suc n) bytes)
    (passes_one f n dues bytes front after (omega (arith, each, enough)) refl refl)
    (moves (no_more (follow f front) (due f n ∷ dues) after (alone front)) (subst (λ l. Passes (due f n ∷ dues) after dues l) behind others))

-- ---- in the code, where the first is taken out and put back

pub passes_popped : (all popped : List Due) (d : Due) (bytes : List ℕ) → all ≡ d ∷ popped → d.count ≡ 0 → Passes all bytes popped bytes
passes_popped all popped d bytes is none = subst (λ l. Passes l bytes popped bytes) (sym is) (passes_no_more d popped bytes none)

pub passes_step : (all popped new : List Due) (d : Due) (bytes rest : List ℕ) → all ≡ d ∷ popped → next (d ∷ popped) bytes ≡ leaves new rest → Passes all bytes new rest
passes_step all popped new d bytes rest is told = subst (λ l. Passes l bytes new rest) (sym is) (moves told stands)

pub passes_put : (all popped new : List Due) (d : Due) (left : ℕ) (bytes rest : List ℕ) → all ≡ d ∷ popped → new ≡ due d.form left ∷ popped →
    ((dues : List Due) → Passes (due d.form d.count ∷ dues) bytes (due d.form left ∷ dues) rest) → Passes all bytes new rest
passes_put all popped new d left bytes rest is put passes = subst (λ l. Passes l bytes new rest) (sym is) (subst (λ l. Passes (d ∷ popped) bytes l rest) (sym put) (passes popped))

-- ---- several at once

pub passes_less : (f : Form) (count left : ℕ) (dues : List Due) (bytes rest after : List ℕ) → 0 < left → Passes (due f count ∷ dues) bytes (due f left ∷ dues) rest →
    ((n : ℕ) → Passes (due f (suc n) ∷ dues) rest (due f n ∷ dues) after) → Passes (due f count ∷ dues) bytes (due f (left - 1) ∷ dues) after
passes_less f count zero dues bytes rest after some first next = absurd (omega (arith, some))
passes_less f count (suc n) dues bytes rest after some first next =
    let less : suc n - 1 ≡ n = omega arith in
    subst (λ k. Passes (due f count ∷ dues) bytes (due f k ∷ dues) after) (sym less) (passes_then (due f count ∷ dues) (due f (suc n) ∷ dues) (due f n ∷ dues) bytes rest after first (next n))

pub passes_front_of : (f : Form) (bytes front after rest : List ℕ) (d : Due) → size f ≤ length bytes → front ≡ take (size f) bytes → after ≡ drop (size f) bytes → d ≡ follow f front →
    ((dues : List Due) → Passes (d ∷ dues) after dues rest) → (n : ℕ) (dues : List Due) → Passes (due f (suc n) ∷ dues) bytes (due f n ∷ dues) rest
passes_front_of f bytes front after rest d there is_front is_after is next n dues =
    passes_then (due f (suc n) ∷ dues) (follow f front ∷ due f n ∷ dues) (due f n ∷ dues) bytes after rest (passes_one f n dues bytes front after there is_front is_after)
    (subst (λ z. Passes (z ∷ due f n ∷ dues) after (due f n ∷ dues) rest) is (next (due f n ∷ dues)))

pub passes_single : (d : Due) (bytes rest : List ℕ) → d.count ≡ 1 → ((n : ℕ) (dues : List Due) → Passes (due d.form (suc n) ∷ dues) bytes (due d.form n ∷ dues) rest) →
    (dues : List Due) → Passes (d ∷ dues) bytes dues rest
passes_single d bytes rest one next dues =
    subst (λ k. Passes (due d.form k ∷ dues) bytes dues rest) (sym one)
    (passes_then (due d.form 1 ∷ dues) (due d.form 0 ∷ dues) dues bytes rest rest (next 0 dues) (passes_no_more (due d.form 0) dues rest refl))

pub passes_front_one : (f : Form) (bytes front after rest : List ℕ) (d : Due) → size f ≤ length bytes → front ≡ take (size f) bytes → after ≡ drop (size f) bytes → d ≡ follow f front → d.count ≡ 1 →
    ((n : ℕ) (dues : List Due) → Passes (due d.form (suc n) ∷ dues) after (due d.form n ∷ dues) rest) → (n : ℕ) (dues : List Due) → Passes (due f (suc n) ∷ dues) bytes (due f n ∷ dues) rest
passes_front_one f bytes front after rest d there is_front is_after is one next =
    passes_front_of f bytes front after rest d there is_front is_after is (passes_single d after rest one next)

pub passes_word : (bytes after : List ℕ) → 4 ≤ length bytes → after ≡ drop 4 bytes → (n : ℕ) (dues : List Due) → Passes (due Word (suc n) ∷ dues) bytes (due Word n ∷ dues) after
passes_word bytes after there is =
    passes_front_of Word bytes (take 4 bytes) after after (follow Word (take 4 bytes)) there refl is refl (λ ds. passes_no_more (follow Word (take 4 bytes)) ds after refl)

pub passes_alone : (d : Due) (bytes rest : List ℕ) (all : ℕ) → ((front : List ℕ) → (follow d.form front).count ≡ 0) → all ≡ size d.form * d.count → all ≤ length bytes → rest ≡ drop all bytes →
    (dues : List Due) → Passes (d ∷ dues) bytes dues rest
passes_alone d bytes rest all alone many there is dues =
    subst (λ l. Passes (d ∷ dues) bytes dues l) (ap (λ n. drop n bytes) (sym many) ∙ sym is) (passes_all d.form d.count dues bytes alone (subst (λ n. n ≤ length bytes) many there))

-- ---- a byte that says what follows it

-- one of a form is passed over, and these bytes are left
abbrev PassesOne : Form → List ℕ → List ℕ → Type 0
PassesOne f bytes rest = (n : ℕ) (dues : List Due) → Passes (due f (suc n) ∷ dues) bytes (due f n ∷ dues) rest

-- the first byte, and those behind it
abbrev first : List ℕ → ℕ
first bytes = slice_index_or bytes 0 0

abbrev others_of : List ℕ → List ℕ
others_of bytes = take (length bytes - 1) (drop 1 bytes)

first_and_others : (bytes : List ℕ) → 1 ≤ length bytes → bytes ≡ first bytes ∷ others_of bytes
first_and_others [] some = absurd (omega (arith, some))
first_and_others (b ∷ bytes) some =
    let all : length bytes ≤ suc (length bytes) - 1 = omega arith in
    ap (λ l. b ∷ l) (sym (take_all (suc (length bytes) - 1) bytes all))

-- nothing follows it
pub passes_lone_byte : (f : Form) (bytes : List ℕ) → 1 ≤ length bytes → size f ≡ 1 → (follow f (first bytes ∷ [])).count ≡ 0 → PassesOne f bytes (others_of bytes)
passes_lone_byte f bytes some one none =
    let is = first_and_others bytes some in
    let front : List ℕ = first bytes ∷ [] in
    passes_front_of f bytes front (others_of bytes) (others_of bytes) (follow f front) (rw one some) (rw one (ap (λ l. take 1 l) (sym is))) (rw one (ap (λ l. drop 1 l) (sym is))) refl
    (λ ds. passes_no_more (follow f front) ds (others_of bytes) none)

-- one of a form follows it
byte_and_one : (f g : Form) (bytes rest : List ℕ) → 1 ≤ length bytes → size f ≡ 1 → follow f (first bytes ∷ []) ≡ due g 1 → PassesOne g (others_of bytes) rest → PassesOne f bytes rest
byte_and_one f g bytes rest some one follows next =
    let is = first_and_others bytes some in
    passes_front_one f bytes (first bytes ∷ []) (others_of bytes) rest (due g 1) (rw one some) (rw one (ap (λ l. take 1 l) (sym is))) (rw one (ap (λ l. drop 1 l) (sym is))) (sym follows) refl next

pub passes_byte_and_one : (f g : Form) (bytes : List ℕ) (behind : Option (Bor (List ℕ))) → 1 ≤ length bytes → size f ≡ 1 → follow f (first bytes ∷ []) ≡ due g 1 →
    IfSome behind (λ rest. PassesOne g (others_of bytes) rest.now) → IfSome behind (λ rest. PassesOne f bytes rest.now)
passes_byte_and_one f g bytes None some one follows next = tt
passes_byte_and_one f g bytes (Some rest) some one follows next = byte_and_one f g bytes rest.now some one follows next

pub only_at_another : (tag wanted : ℕ) (f : Form) → tag ≢ wanted → (due_only_at tag wanted f).count ≡ 0
only_at_another tag wanted f other = ap (λ b. (if b then due f 1 else due Byte 0).count) (ne_eqb tag wanted other)

pub value_alone : (tag : ℕ) → tag ≢ 0 → tag ≢ 2 → (follow_by Value tag).count ≡ 0
value_alone tag a b = ap (λ t. (if t then due Word 1 else due_only_at tag 2 Word).count) (ne_eqb tag 0 a) ∙ only_at_another tag 2 Word b

pub content_alone : (s : Spelled) (tag : ℕ) → tag ≢ 1 → tag ≢ 2 → tag ≢ 3 → (follow_by (Content s) tag).count ≡ 0
content_alone s tag a b c =
    ap (λ t. (if t then due (polynomial_in s) 1 else (if tag == 2 then due MaybeWord 1 else due_only_at tag 3 Word)).count) (ne_eqb tag 1 a)
    ∙ ap (λ t. (if t then due MaybeWord 1 else due_only_at tag 3 Word).count) (ne_eqb tag 2 b) ∙ only_at_another tag 3 Word c

-- ---- to the end

meets : (a c u : List Due) (b d v : List ℕ) → Passes a b c d → next c d ≡ None → Passes a b u v → Passes u v c d
meets a c _ b d _ first last stands = first
meets a _ u b _ v stands last (moves {more = m} {after = after} is second) = absurd (none-some _ (sym last ∙ is))
meets a c u b d v (moves {more = m} {after = after} is first) last (moves {more = m'} {after = after'} is' second) =
    let o = both_told m m' after after' (sym is ∙ is') in
    meets m c u after d v first last (subst (λ l. Passes l after u v) (sym o.0) (subst (λ l. Passes m' l u v) (sym o.1) second))

nothing_due : (u : List Due) (d v : List ℕ) → Passes [] d u v → (u ≡ []) × (d ≡ v)
nothing_due _ d _ stands = (refl, refl)
nothing_due u d v (moves {more = m} {after = after} is next) = absurd (none-some _ is)

-- where all is passed over, nothing else is come to
pub one_end : (a u : List Due) (b d v : List ℕ) → Passes a b [] d → Passes a b u v → next u v ≡ None → (u ≡ []) × (d ≡ v)
one_end a u b d v first second last = nothing_due u d v (meets a u [] b v d second last first)

-- what is left are the last bytes
pub is_rest : (a c : List Due) (b d : List ℕ) → Passes a b c d → (length d ≤ length b) × (d ≡ drop (length b - length d) b)
is_rest a c b d passes =
    let f = passes_front a c b d passes in
    let all : length b ≡ length f.0 + length d = ap length f.1 ∙ length-append f.0 d in
    let many : length b - length d ≡ length f.0 = omega (arith, all) in
    (omega (arith, all), sym (drop-append_seam f.0 d) ∙ ap (λ l. drop (length f.0) l) (sym f.1) ∙ ap (λ n. drop n b) (sym many))
