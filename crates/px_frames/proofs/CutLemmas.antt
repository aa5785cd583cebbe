-- The messages in bytes are the same however these are cut.
use Rattle.std.proofs.Common.{◌≡◌, refl, sym, subst, ◌∙◌, ap, arith, ℕ, ◌+◌, ◌≤◌, inl, inr, List, [], ◌∷◌, ◌++◌, length}
use Rattle.std.specs.Prelude.{take, drop}
use Rattle.std.specs.Int.{w32, from_be_bytes}
use Rattle.std.proofs.lemmas.List.{take-append-drop, take-append-le, append_assoc, append-nil, length-append}
use Rattle.std.proofs.Math.Seq.{take-append_seam, drop-append_seam}
use Rattle.std.proofs.lemmas.Nat.{from_be_bytes-to_be_bytes_4}
use Rattle.px_frames.specs.Frames.{frame_of, most_bytes, Names, IsPart, IsTooLong}
use Rattle.px_frames.specs.Feeding.{Feeding, holds, refuses}
use Rattle.px_frames.specs.Cutting.{Feeds, none, whole, held, refused, joined, IsRest, AreFrames}

-- ---- what is fed

-- what a feeder holds is no whole frame
abbrev pub Starts : Feeding → Type 0
Starts (holds bytes) = IsPart bytes
Starts (refuses n) = ℕ

-- after what a feeder holds, bytes give these messages, and leave that
abbrev pub Meets : Feeding → List ℕ → List (List ℕ) → Feeding → Type 0
Meets (holds part) bytes messages left = AreFrames (part ++ bytes) messages left
Meets (refuses n) bytes messages left = (messages ≡ []) × (left ≡ refuses n)

pub too_long_after : (bytes more : List ℕ) (n : ℕ) → IsTooLong bytes n → IsTooLong (bytes ++ more) n
too_long_after bytes more n ((four, names), long) =
    ((subst (λ m. 4 ≤ m) (sym (length-append bytes more)) (omega arith), ap (λ l. from_be_bytes w32 l) (take-append-le 4 bytes more four) ∙ names), long)

refused_more : (part piece more : List ℕ) (n : ℕ) (messages : List (List ℕ)) (left : Feeding) →
    IsTooLong (part ++ piece) n → messages ≡ [] → left ≡ refuses n → AreFrames (part ++ (piece ++ more)) messages left
refused_more part piece more n messages left long no_more is =
    subst (λ ms. AreFrames (part ++ (piece ++ more)) ms left) (sym no_more)
    (subst (λ f. IsRest (part ++ (piece ++ more)) f) (sym is)
    (subst (λ l. IsTooLong l n) (append_assoc part piece more) (too_long_after (part ++ piece) more n long)))

whole_first : (part piece more : List ℕ) (message : List ℕ) (taken : ℕ) → part ++ take taken piece ≡ frame_of message →
    part ++ (piece ++ more) ≡ frame_of message ++ (drop taken piece ++ more)
whole_first part piece more message taken is =
    ap (λ l. part ++ (l ++ more)) (sym (take-append-drop taken piece))
    ∙ ap (λ l. part ++ l) (append_assoc (take taken piece) (drop taken piece) more)
    ∙ sym (append_assoc part (take taken piece) (drop taken piece ++ more))
    ∙ ap (λ l. l ++ (drop taken piece ++ more)) is

pub feeds_meet : (f : Feeding) (pieces messages : List (List ℕ)) (left : Feeding) → Starts f → Feeds f pieces messages left → Meets f (joined pieces) messages left
feeds_meet (holds part) _ _ _ start none = (subst IsPart refl start, append-nil part)
feeds_meet (refuses n) _ _ _ start none = (refl, refl)
feeds_meet (holds part) (piece ∷ pieces) (_ ∷ messages) left start (whole {g = g} message taken (bound, short, frame, empty) rest) = (
  short,
  drop taken piece ++ joined pieces,
  whole_first part piece (joined pieces) message.items taken frame,
  subst (λ f. Meets f (drop taken piece ++ joined pieces) messages left) empty
      (feeds_meet g (drop taken piece ∷ pieces) messages left (subst Starts (sym empty) (inl (omega arith))) rest),
)
feeds_meet (refuses n) (piece ∷ pieces) (_ ∷ messages) left start (whole message taken (clash, same) rest) = absurd cc
feeds_meet (holds part) (piece ∷ pieces) messages left start (held {g = g} (more, is) rest) =
    subst (λ l. AreFrames l messages left) (append_assoc part piece (joined pieces))
    (subst (λ f. Meets f (joined pieces) messages left) is (feeds_meet g pieces messages left (subst Starts (sym is) more) rest))
feeds_meet (refuses n) (piece ∷ pieces) messages left start (held (clash, same) rest) = absurd cc
feeds_meet (holds part) (piece ∷ pieces) messages left start (refused {g = g} n (long, is) rest) =
    let met : (messages ≡ []) × (left ≡ refuses n) = subst (λ f. Meets f (joined pieces) messages left) is (feeds_meet g pieces messages left (subst Starts (sym is) n) rest) in
    refused_more part piece (joined pieces) n messages left long met.0 met.1
feeds_meet (refuses n) (piece ∷ pieces) messages left start (refused {g = g} m (same, is) rest) =
    subst (λ f. Meets f (joined pieces) messages left) is (feeds_meet g pieces messages left (subst Starts (sym is) n) rest)

-- ---- one cutting

-- a frame and what stands after it name the length of its message
pub frame_names : (message rest : List ℕ) → length message ≤ most_bytes → Names (frame_of message ++ rest) (length message)
frame_names message rest short = (omega arith, from_be_bytes-to_be_bytes_4 (length message) (omega arith))

pub same_names : (bytes : List ℕ) (m n : ℕ) → Names bytes m → Names bytes n → m ≡ n
same_names bytes m n (_, p) (_, q) = sym p ∙ q

pub split_at : (a b c d : List ℕ) → length a ≡ length b → a ++ c ≡ b ++ d → (a ≡ b) × (c ≡ d)
split_at a b c d same is = (
  sym (take-append_seam a c) ∙ ap (λ l. take (length a) l) is ∙ ap (λ n. take n (b ++ d)) same ∙ take-append_seam b d,
  sym (drop-append_seam a c) ∙ ap (λ l. drop (length a) l) is ∙ ap (λ n. drop n (b ++ d)) same ∙ drop-append_seam b d,
)

pub frame_size : (message : List ℕ) → length (frame_of message) ≡ 4 + length message
frame_size message = omega arith

pub frame_length : (message rest : List ℕ) → length (frame_of message ++ rest) ≡ 4 + (length message + length rest)
frame_length message rest = let behind : length (message ++ rest) ≡ length message + length rest = length-append message rest in omega arith

both : (m n : List ℕ) (ms ns : List (List ℕ)) → m ≡ n → ms ≡ ns → m ∷ ms ≡ n ∷ ns
both m n ms ns is are = ap (λ l. l ∷ ms) is ∙ ap (λ l. n ∷ l) are

-- bytes that begin with a whole frame aren't a rest
frame_or_rest : (bytes message rest : List ℕ) (left : Feeding) → length message ≤ most_bytes → bytes ≡ frame_of message ++ rest → IsRest bytes left → ⊥
frame_or_rest bytes message rest (holds part) short is (inl few, same) =
    let all : length bytes ≡ 4 + (length message + length rest) = ap length is ∙ frame_length message rest in
    let part_all : length bytes ≡ length part = ap length same in omega arith
frame_or_rest bytes message rest (holds part) short is (inr (n, names, small, few), same) =
    let all : length bytes ≡ 4 + (length message + length rest) = ap length is ∙ frame_length message rest in
    let part_all : length bytes ≡ length part = ap length same in
    let named : n ≡ length message = same_names bytes n (length message) (subst (λ l. Names l n) (sym same) names) (subst (λ l. Names l (length message)) (sym is) (frame_names message rest short)) in omega arith
frame_or_rest bytes message rest (refuses n) short is (names, long) =
    let named : n ≡ length message = same_names bytes n (length message) names (subst (λ l. Names l (length message)) (sym is) (frame_names message rest short)) in omega arith

part_or_too_long : (bytes part : List ℕ) (n : ℕ) → IsPart part → bytes ≡ part → IsTooLong bytes n → ⊥
part_or_too_long bytes part n (inl few) same ((four, names), long) = let part_all : length bytes ≡ length part = ap length same in omega arith
part_or_too_long bytes part n (inr (m, names, small, few)) same (named, long) =
    let is : m ≡ n = same_names bytes m n (subst (λ l. Names l m) (sym same) names) named in omega arith

one_rest : (bytes : List ℕ) (f g : Feeding) → IsRest bytes f → IsRest bytes g → f ≡ g
one_rest bytes (holds p) (holds q) (_, is_p) (_, is_q) = ap holds (sym is_p ∙ is_q)
one_rest bytes (holds p) (refuses n) (part, is) long = absurd (part_or_too_long bytes p n part is long)
one_rest bytes (refuses n) (holds p) long (part, is) = absurd (part_or_too_long bytes p n part is long)
one_rest bytes (refuses m) (refuses n) (names, _) (names', _) = ap refuses (same_names bytes m n names names')

pub one_first : (bytes m n r s : List ℕ) → length m ≤ most_bytes → length n ≤ most_bytes → bytes ≡ frame_of m ++ r → bytes ≡ frame_of n ++ s → (m ≡ n) × (r ≡ s)
one_first bytes m n r s short short' is is' =
    let same : length m ≡ length n = same_names bytes (length m) (length n) (subst (λ l. Names l (length m)) (sym is) (frame_names m r short)) (subst (λ l. Names l (length n)) (sym is') (frame_names n s short')) in
    let frames : frame_of m ++ r ≡ frame_of n ++ s = sym is ∙ is' in
    let messages : m ++ r ≡ n ++ s = ap (λ l. drop 4 l) frames in
    split_at m n r s same messages

pub one_cutting : (bytes : List ℕ) (ms ns : List (List ℕ)) (f g : Feeding) → AreFrames bytes ms f → AreFrames bytes ns g → (ms ≡ ns) × (f ≡ g)
one_cutting bytes [] [] f g a b = (refl, one_rest bytes f g a b)
one_cutting bytes [] (n ∷ ns) f g a (short, rest, is, _) = absurd (frame_or_rest bytes n rest f short is a)
one_cutting bytes (m ∷ ms) [] f g (short, rest, is, _) b = absurd (frame_or_rest bytes m rest g short is b)
one_cutting bytes (m ∷ ms) (n ∷ ns) f g (short, r, is, a) (short', s, is', b) =
    let first : (m ≡ n) × (r ≡ s) = one_first bytes m n r s short short' is is' in
    let others : (ms ≡ ns) × (f ≡ g) = one_cutting s ms ns f g (subst (λ l. AreFrames l ms f) first.1 a) b in
    (both m n ms ns first.0 others.0, others.1)
