-- The first frame of bytes, and what stands after it, are determined.
use Rattle.std.proofs.Common.{◌≡◌, sym, subst, ◌∙◌, ap, arith, ℕ, ◌+◌, ◌≤◌, inl, inr, List, [], ◌++◌, length}
use Rattle.px_frames.specs.Frames.{frame_of, most_bytes, Names, IsPart, IsTooLong}
use Rattle.px_frames.proofs.CutLemmas.{frame_names, same_names, frame_length}

-- nothing is no frame
pub no_frame : (message rest : List ℕ) → [] ≡ frame_of message ++ rest → ⊥
no_frame message rest is = let none : 0 ≡ 4 + (length message + length rest) = ap length is ∙ frame_length message rest in omega arith

-- a part of a frame doesn't begin with a whole one
pub part_or_whole : (bytes message rest : List ℕ) → IsPart bytes → length message ≤ most_bytes → bytes ≡ frame_of message ++ rest → ⊥
part_or_whole bytes message rest (inl few) short is =
    let all : length bytes ≡ 4 + (length message + length rest) = ap length is ∙ frame_length message rest in omega arith
part_or_whole bytes message rest (inr (n, names, small, few)) short is =
    let all : length bytes ≡ 4 + (length message + length rest) = ap length is ∙ frame_length message rest in
    let named : n ≡ length message = same_names bytes n (length message) names (subst (λ l. Names l (length message)) (sym is) (frame_names message rest short)) in omega arith

-- and neither do bytes that name too great a length
pub long_or_whole : (bytes message rest : List ℕ) (n : ℕ) → IsTooLong bytes n → length message ≤ most_bytes → bytes ≡ frame_of message ++ rest → ⊥
long_or_whole bytes message rest n (names, long) short is =
    let named : n ≡ length message = same_names bytes n (length message) names (subst (λ l. Names l (length message)) (sym is) (frame_names message rest short)) in omega arith
