-- Counting the whole frames that bytes begin with.
use Rattle.std.proofs.Common.{◌≡◌, refl, sym, subst, ◌∙◌, ap, arith, ℕ, zero, suc, ◌+◌, ◌≤◌, ◌<◌, inl, inr, List, [], ◌∷◌, ◌++◌, length, get_or, length-take}
use Rattle.std.specs.Prelude.{take, drop}
use Rattle.std.specs.Int.{w32, to_be_bytes, from_be_bytes}
use Rattle.std.proofs.lemmas.List.{take-append-drop, append_assoc, length-append}
use Rattle.std.proofs.Math.Seq.{drop-append_seam}
use Rattle.std.proofs.lemmas.Nat.{be_bytes_4, from_be_bytes-to_be_bytes_4}
use Rattle.px_frames.specs.Frames.{frame_of, most_bytes, named_length}
use Rattle.px_frames.specs.Feeding.{Feeding, holds, refuses}
use Rattle.px_frames.specs.Cutting.{IsRest, AreFrames}
use Rattle.px_pool.specs.Starts.{HasFrames}
use Rattle.px_pool.specs.LinkLaws.{FramesAreCounted}
use Rattle.px_pool.specs.Counting.{IsFirstFrame, IsAfterFrame, HasNoFrame}
use Rattle.px_frames.proofs.CutLemmas.{one_cutting, frame_length}

-- ---- one frame

pub no_length : (bytes : List ℕ) → length bytes < 4 → HasNoFrame bytes
no_length bytes few = (holds bytes, (inl few, refl))

pub too_long : (bytes : List ℕ) (n : ℕ) → 4 ≤ length bytes → n ≡ named_length bytes → most_bytes < n → HasNoFrame bytes
too_long bytes n four named long = (refuses n, ((four, sym named), long))

pub too_few : (bytes : List ℕ) (n : ℕ) → 4 ≤ length bytes → n ≡ named_length bytes → n ≤ most_bytes → length bytes < 4 + n → HasNoFrame bytes
too_few bytes n four named small few = (holds bytes, (inr (n, (four, sym named), small, few), refl))

fits_front : (n : ℕ) (bytes : List ℕ) → ((i : ℕ) → get_or bytes i 0 < 256) → (i : ℕ) → get_or (take n bytes) i 0 < 256
fits_front zero bytes fits i = omega arith
fits_front (suc n) [] fits i = omega arith
fits_front (suc n) (x ∷ xs) fits zero = fits 0
fits_front (suc n) (x ∷ xs) fits (suc i) = fits_front n xs (λ j. fits (suc j)) i

pub first_frame : (bytes whole behind message rest : List ℕ) (n : ℕ) → whole ≡ take 4 bytes → behind ≡ drop 4 bytes → length whole ≡ 4 → ((i : ℕ) → get_or bytes i 0 < 256) →
    n ≡ from_be_bytes w32 whole → n ≤ most_bytes → n ≤ length behind → message ≡ take n behind → rest ≡ drop n behind → IsFirstFrame bytes message rest
first_frame bytes whole behind message rest n is is' four fits named small enough front is'' =
    let size : length (take n behind) ≡ n = grind (arith, length-take) in
    let joined : take n behind ++ rest ≡ behind = ap (λ l. take n behind ++ l) is'' ∙ take-append-drop n behind in
    let header : to_be_bytes w32 (length (take n behind)) ≡ whole = ap (to_be_bytes w32) size ∙ be_bytes_4 whole n four (subst (λ l. (i : ℕ) → get_or l i 0 < 256) (sym is) (fits_front 4 bytes fits)) named in
    let all : frame_of (take n behind) ++ rest ≡ bytes =
    append_assoc (to_be_bytes w32 (length (take n behind))) (take n behind) rest
    ∙ ap (λ l. to_be_bytes w32 (length (take n behind)) ++ l) joined
    ∙ ap (λ l. l ++ behind) header
    ∙ ap (λ l. l ++ behind) is
    ∙ ap (λ l. take 4 bytes ++ l) is'
    ∙ take-append-drop 4 bytes in
    subst (λ m. IsFirstFrame bytes m rest) (sym front) (subst (λ k. k ≤ most_bytes) (sym size) small, sym all)

pub shorter_after : (bytes message rest : List ℕ) → IsFirstFrame bytes message rest → length rest + 4 ≤ length bytes
shorter_after bytes message rest (short, is) =
    let all : length bytes ≡ 4 + (length message + length rest) = ap length is ∙ frame_length message rest in omega arith

-- ---- all of them

pub none_first : (bytes : List ℕ) → HasNoFrame bytes → HasFrames bytes 0
none_first bytes (left, rest) = ([], left, rest, refl)

pub one_first : (bytes rest : List ℕ) (n : ℕ) → IsAfterFrame bytes rest → HasFrames rest n → HasFrames bytes (n + 1)
one_first bytes rest n (message, short, is) (messages, left, frames, many) =
    (message ∷ messages, left, (short, rest, is, frames), (let count : length (message ∷ messages) ≡ length messages + 1 = omega arith in count ∙ ap (λ k. k + 1) many))

-- what is counted so far, and what stands after
pub one_counted : (bytes rest behind : List ℕ) (count : ℕ) → ((n : ℕ) → HasFrames rest n → HasFrames bytes (count + n)) → IsAfterFrame rest behind →
    (n : ℕ) → HasFrames behind n → HasFrames bytes (count + 1 + n)
one_counted bytes rest behind count so_far is n frames =
    let same : count + (n + 1) ≡ count + 1 + n = omega arith in subst (λ k. HasFrames bytes k) same (so_far (n + 1) (one_first rest behind n is frames))

pub all_counted : (bytes rest : List ℕ) (count : ℕ) → ((n : ℕ) → HasFrames rest n → HasFrames bytes (count + n)) → HasNoFrame rest → HasFrames bytes count
all_counted bytes rest count so_far none =
    let same : count + 0 ≡ count = omega arith in subst (λ k. HasFrames bytes k) same (so_far 0 (none_first rest none))

-- ---- one number of them

-- the length that bytes name which begin with a frame
named_first : (message rest bytes : List ℕ) (n : ℕ) → length message ≤ most_bytes → frame_of message ++ rest ≡ bytes → named_length bytes ≡ n → length message ≡ n
named_first message rest bytes n short is named = sym (from_be_bytes-to_be_bytes_4 (length message) (omega arith)) ∙ ap named_length is ∙ named

-- such bytes begin with no rest
pub no_rest : (message rest : List ℕ) (left : Feeding) → length message ≤ most_bytes → IsRest (frame_of message ++ rest) left → ⊥
no_rest message rest (holds part) short (inl few, same) = let size : length (frame_of message ++ rest) ≡ length part = ap length same in omega arith
no_rest message rest (holds part) short (inr (n, (four, named), small, few), same) =
    let size : length (frame_of message ++ rest) ≡ length part = ap length same in
    let behind : length (message ++ rest) ≡ length message + length rest = length-append message rest in
    let is : length message ≡ n = named_first message rest part n short same named in omega arith
no_rest message rest (refuses n) short ((four, named), long) =
    let is : length message ≡ n = named_first message rest (frame_of message ++ rest) n short refl named in omega arith

-- and what stands after the frame is told by them
same_after : (m n r s : List ℕ) → length m ≤ most_bytes → length n ≤ most_bytes → frame_of m ++ r ≡ frame_of n ++ s → r ≡ s
same_after m n r s short short' is =
    let same : length m ≡ length n = named_first m r (frame_of n ++ s) (length n) short is (from_be_bytes-to_be_bytes_4 (length n) (omega arith)) in
    let sizes : length (frame_of m) ≡ length (frame_of n) = omega arith in
    sym (drop-append_seam (frame_of m) r) ∙ ap (λ l. drop (length (frame_of m)) l) is ∙ ap (λ k. drop k (frame_of n ++ s)) sizes ∙ drop-append_seam (frame_of n) s

more_after : (bytes more message rest : List ℕ) → bytes ≡ frame_of message ++ rest → bytes ++ more ≡ frame_of message ++ (rest ++ more)
more_after bytes more message rest is = ap (λ l. l ++ more) is ∙ append_assoc (frame_of message) rest more

no_fewer : (bytes more : List ℕ) (ms ns : List (List ℕ)) (f g : Feeding) → AreFrames bytes ms f → AreFrames (bytes ++ more) ns g → length ms ≤ length ns
no_fewer bytes more [] ns f g a b = omega arith
no_fewer bytes more (m ∷ ms) [] f g (short, r, is, _) b = absurd (no_rest m (r ++ more) g short (subst (λ l. IsRest l g) (more_after bytes more m r is) b))
no_fewer bytes more (m ∷ ms) (n ∷ ns) f g (short, r, is, a) (short', s, is', b) =
    let same : s ≡ r ++ more = same_after n m s (r ++ more) short' short (sym is' ∙ more_after bytes more m r is) in
    let others : length ms ≤ length ns = no_fewer r more ms ns f g a (subst (λ l. AreFrames l ns g) same b) in omega arith

pub more_frames : (bytes more : List ℕ) (m n : ℕ) → HasFrames bytes m → HasFrames (bytes ++ more) n → m ≤ n
more_frames bytes more m n (ms, f, a, is) (ns, g, b, is') = let few : length ms ≤ length ns = no_fewer bytes more ms ns f g a b in omega arith

pub one_number : (bytes : List ℕ) (m n : ℕ) → HasFrames bytes m → HasFrames bytes n → m ≡ n
one_number bytes m n (ms, f, a, is) (ns, g, b, is') = sym is ∙ ap length ((one_cutting bytes ms ns f g a b).0) ∙ is'

pub frames_are_counted : FramesAreCounted
frames_are_counted = record { none = ([], holds [], (inl (omega arith), refl), refl); one_number = one_number; more_bytes = more_frames }
