-- A piece whose first bytes were taken already.
use Rattle.std.proofs.Common.{◌≡◌, sym, subst, ◌∙◌, ap, arith, ℕ, ◌+◌, ◌-◌, ◌≤◌, ◌<◌, List, [], ◌++◌, length, Ok}
use Rattle.std.specs.Prelude.{take, drop, get_or}
use Rattle.std.specs.Int.{w32, to_be_bytes, from_be_bytes}
use Rattle.std.proofs.lemmas.List.{take-append-drop, append_assoc, length-drop, append-nil}
use Rattle.std.proofs.Math.Seq.{take-add, take-length}
use Rattle.std.proofs.Math.Nat.{add_comm}
use Rattle.std.proofs.lemmas.Nat.{be_bytes_4}
use Rattle.px_frames.specs.declared.feeder.Fed.{Fed}
use Rattle.px_frames.specs.declared.feeder.Fed.TheVariants.{Whole, Held}
use Rattle.px_frames.specs.Frames.{IsPart}
use Rattle.px_frames.specs.Feeding.{Feeding, holds, IsFedOn}
use Rattle.px_frames.specs.Stages.{fed_after}

-- the bytes of a header, and then some of what stands after the first k of a piece
all_taken : (bytes piece header : List ℕ) (k taken : ℕ) → bytes ++ take k piece ≡ header →
    bytes ++ take (taken + k) piece ≡ header ++ take taken (drop k piece)
all_taken bytes piece header k taken is =
    ap (λ n. bytes ++ take n piece) (add_comm taken k)
    ∙ ap (λ l. bytes ++ l) (take-add k taken piece)
    ∙ sym (append_assoc bytes (take k piece) (take taken (drop k piece)))
    ∙ ap (λ l. l ++ take taken (drop k piece)) is

all_of : (bytes piece header : List ℕ) (k : ℕ) → bytes ++ take k piece ≡ header → header ++ drop k piece ≡ bytes ++ piece
all_of bytes piece header k is =
    ap (λ l. l ++ drop k piece) (sym is)
    ∙ append_assoc bytes (take k piece) (drop k piece)
    ∙ ap (λ l. bytes ++ l) (take-append-drop k piece)

bound : (piece : List ℕ) (k taken : ℕ) → k ≤ length piece → taken ≤ length (drop k piece) → taken + k ≤ length piece
bound piece k taken few some = let some' : taken ≤ length piece - k = subst (λ n. taken ≤ n) (length-drop k piece) some in omega arith

fed_is : (bytes piece header : List ℕ) (k : ℕ) (fed : Fed) (after : Feeding) → k ≤ length piece → bytes ++ take k piece ≡ header →
    IsFedOn header (drop k piece) (Ok fed) after → IsFedOn bytes piece (Ok (fed_after fed k)) after
fed_is bytes piece header k (Whole message taken) after few is (some, short, frame, empty) =
    (bound piece k taken few some, short, all_taken bytes piece header k taken is ∙ frame, empty)
fed_is bytes piece header k Held after few is (part, left) =
    (subst IsPart (all_of bytes piece header k is) part, left ∙ ap holds (all_of bytes piece header k is))

-- what the bytes after the first k give is what all give
pub fed_after_is_fed : (bytes piece header rest : List ℕ) (k : ℕ) (fed : Fed) (after : Feeding) →
    IsFedOn header rest (Ok fed) after → rest ≡ drop k piece → k ≤ length piece → bytes ++ take k piece ≡ header →
    IsFedOn bytes piece (Ok (fed_after fed k)) after
fed_after_is_fed bytes piece header rest k fed after given behind few is =
    fed_is bytes piece header k fed after few is (subst (λ l. IsFedOn header l (Ok fed) after) behind given)

-- four bytes are the length that they name
pub length_bytes : (whole part : List ℕ) (all n : ℕ) → all ≡ 4 → length whole ≡ 4 → ((i : ℕ) → get_or whole i 0 < 256) → n ≡ from_be_bytes w32 whole → part ≡ [] →
    take all whole ≡ to_be_bytes w32 n ++ part
length_bytes whole part all n whole_length four fits is none =
    ap (λ m. take m whole) (whole_length ∙ sym four) ∙ take-length whole ∙ sym (be_bytes_4 whole n four fits is) ∙ sym (append-nil (to_be_bytes w32 n)) ∙ ap (λ l. to_be_bytes w32 n ++ l) (sym none)
