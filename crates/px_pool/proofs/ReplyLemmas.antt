-- One frame that is read, or the part of one, after a frame that was sent.
use Rattle.std.proofs.Common.{◌≡◌, refl, sym, ap, subst, ◌∙◌, arith, inr, ℕ, zero, suc, ◌<◌, ◌≤◌, List, [], ◌++◌, length, true, false, take_all, le_refl}
use Rattle.std.specs.Prelude.{Option, take, nat_lt, Result, Ok, Err, IsErrOf}
use Rattle.std.specs.Int.{w32, to_be_bytes}
use Rattle.std.proofs.lemmas.Bool.{le-ltb}
use Rattle.std.proofs.lemmas.Nat.{from_be_bytes-to_be_bytes_4}
use Rattle.px_frames.specs.Frames.{most_bytes, IsPart}
use Rattle.px_pieces.specs.declared.desk.Lost.{Lost}
use Rattle.px_pieces.specs.declared.desk.Lost.TheVariants.{Send, Read, Closed, Frame, Ticket, Kinds, Refused, Large, NoMemory}
use Rattle.px_pool.specs.Talks.{Talk, Passes, sends}
use Rattle.px_pool.specs.Outcomes.{gave}
use Rattle.px_pool.specs.Reading.{Gives, GivesFewer, Unanswered}
use Rattle.px_pool.proofs.TalkLemmas.{gives_on, sent_then}

-- ---- a length

-- all four bytes were given
pub length_given : (a b : Option Talk) (bytes : List ℕ) (n : ℕ) → length bytes ≡ 4 → 4 ≤ n → n ≤ length bytes → Gives a b (take n bytes) (nat_lt n (length bytes)) → Gives a b bytes false
length_given a b bytes n four all within given =
    let full : length bytes ≤ n = omega (arith, four) in
    subst (λ e. Gives a b bytes e) (le-ltb n (length bytes) full) (subst (λ l. Gives a b l (nat_lt n (length bytes))) (take_all n bytes full) given)

-- ---- a message after its length

-- a length and fewer bytes than it names are a part of a frame
pub part_is : (n : ℕ) (bytes : List ℕ) → n ≤ most_bytes → length bytes < n → IsPart (to_be_bytes w32 n ++ bytes)
part_is n bytes short few = inr (n, (omega arith, from_be_bytes-to_be_bytes_4 n (omega arith)), short, omega arith)

pub message_failed : (a b c : Option Talk) (n m : ℕ) → n ≤ most_bytes → m ≡ n → Gives a b (to_be_bytes w32 n) false → GivesFewer b c m → Unanswered a c [] Read
message_failed a b c n m short all p (bytes, few, q) = (
  gave [] (to_be_bytes w32 n ++ bytes) false,
  gives_on a b c (to_be_bytes w32 n) bytes false p q,
  (to_be_bytes w32 n ++ bytes, refl, part_is n bytes short (subst (λ k. length bytes < k) all few)),
)

-- ---- after a frame that was sent

nothing_taken : (n : ℕ) → take {A = ℕ} n [] ≡ []
nothing_taken zero = refl
nothing_taken (suc n) = refl

pub after_request : (a b c : Option Talk) (frame : List ℕ) (why : Lost) → Passes a b (sends frame) → Unanswered b c [] why → Unanswered a c frame why
after_request a b c frame Send p (x, q, (n, few, is)) =
    let none : x ≡ sends [] = is ∙ ap sends (nothing_taken n) in
    let all : take (length frame) frame ≡ frame = take_all (length frame) frame (le_refl _) in (
      sends (take (length frame) frame),
      subst (λ l. Passes a c (sends l)) (sym all) (sent_then a b c frame [] false p (subst (λ y. Passes b c y) none q)),
      (length frame, le_refl _, refl),
    )
after_request a b c frame Read p (x, q, (bytes, is, part)) = (gave frame bytes false, sent_then a b c frame bytes false p (subst (λ y. Passes b c y) is q), (bytes, refl, part))
after_request a b c frame (Closed n) p (x, q, (bytes, is, part, many)) = (gave frame bytes true, sent_then a b c frame bytes true p (subst (λ y. Passes b c y) is q), (bytes, refl, part, many))
after_request a b c frame Frame p (x, q, (bytes, is, four, long)) = (gave frame bytes false, sent_then a b c frame bytes false p (subst (λ y. Passes b c y) is q), (bytes, refl, four, long))
after_request a b c frame NoMemory p (x, q, (bytes, is, four)) = (gave frame bytes false, sent_then a b c frame bytes false p (subst (λ y. Passes b c y) is q), (bytes, refl, four))
after_request a b c frame (Ticket asked given) p (x, q, h) = absurd h
after_request a b c frame Kinds p (x, q, h) = absurd h
after_request a b c frame (Refused entry step) p (x, q, h) = absurd h
after_request a b c frame Large p (x, q, h) = absurd h

-- ---- errors and counts

-- what is true of an error is true of each error that it is
pub of_lost : {T : Type 0} (e : Lost) (P : Lost → Type 0) → P e → (why : Lost) → IsErrOf {T = T} {E = Lost} (Err e) why → P why
of_lost {T} e P p why is = subst P (ap error_in is) p
  where
    error_in : Result T Lost → Lost
    error_in (Ok x) = e
    error_in (Err f) = f

pub of_err : {T : Type 0} (r : Result T Lost) (e : Lost) (P : Lost → Type 0) → r ≡ Err e → P e → (why : Lost) → IsErrOf r why → P why
of_err {T} r e P is p why h = of_lost {T = T} e P p why (sym is ∙ h)
