-- Bytes that are told piece by piece.
use Rattle.std.proofs.Common.{◌≡◌, ℕ, ◌+◌, ◌≤◌, List, [], ◌∷◌, ◌++◌, take, drop, length, refl, sym, ap, ◌∙◌, subst, append_assoc, append-nil}
use Rattle.std.specs.Prelude.{Option, Some, None, Result}
use Rattle.std.specs.Io.KnownBytes.{Appends}
use Rattle.px_io.specs.declared.sink.Failed.{Failed}
use Rattle.px_io.specs.Pieces.{WritesPieces, most_offered}
use Rattle.std.proofs.Math.Seq.{take-add}
use Rattle.std.proofs.lemmas.List.{take-take}

pub Appends-trans : (a b c : Option (List ℕ)) (xs ys zs : List ℕ) → Appends a b xs → Appends b c ys → zs ≡ xs ++ ys → Appends a c zs
Appends-trans None b c xs ys zs p q e = p
Appends-trans (Some a) None c xs ys zs p q e = absurd p
Appends-trans (Some a) (Some b) None xs ys zs p q e = q
Appends-trans (Some a) (Some b) (Some c) xs ys zs p q e = q ∙ ap (λ z. z ++ ys) p ∙ append_assoc a xs ys ∙ ap (λ z. a ++ z) (sym e)

pub Appends-nil : (a : Option (List ℕ)) → Appends a a []
Appends-nil None = tt
Appends-nil (Some xs) = sym (append-nil xs)

-- a piece of a piece, after what came before it
pub take-add-take : (xs : List ℕ) (i n m : ℕ) → n ≤ m → take (i + n) xs ≡ take i xs ++ take n (take m (drop i xs))
take-add-take xs i n m h = take-add i n xs ∙ ap (λ z. take i xs ++ z) (sym (take-take _ _ _ h))

-- one piece more
pub piece_more : {S : Type 0} (takes : S → List ℕ → Result ℕ Failed → S → Type 0) (s t u : S) (pieces : List (List ℕ)) (piece : List ℕ) (r : Result ℕ Failed) →
    WritesPieces takes s pieces t → length piece ≤ most_offered → takes t piece r u → WritesPieces takes s (pieces ++ piece ∷ []) u
piece_more takes s t u [] piece r h short last = (short, (u, r, subst (λ z. takes z piece r u) h last, refl))
piece_more takes s t u (p ∷ pieces) piece r h short last = (h.0, (h.1.0, h.1.1, h.1.2, piece_more takes h.1.0 t u pieces piece r h.1.3 short last))
