-- What holds of a list with one element more.
use Rattle.std.proofs.Common.{◌≡◌, ◌-◌, List, [], ◌∷◌, ◌++◌, length, get_or, take, ap, ◌∙◌, arith}
use Rattle.std.specs.Prelude.{All, Some, slice_get}
use Rattle.std.proofs.lemmas.List.{length-append}
use Rattle.std.proofs.lemmas.List.Elements.{All-nil, All-cons, All-head, All-tail}
use Rattle.std.proofs.lemmas.Option.{slice_get-get_or}
use Rattle.std.proofs.Math.Seq.{take-append_seam, get_or-append_seam}

pub split_last : {X : Type 0} (P : X → Type 0) (xs : List X) (x : X) → All P (xs ++ x ∷ []) → All P xs × P x
split_last P [] x h = (All-nil P, All-head P x [] h)
split_last P (y ∷ xs) x h =
    let (a, b) = split_last P xs x (All-tail P y (xs ++ x ∷ []) h) in
    (All-cons P y xs (All-head P y (xs ++ x ∷ []) h) a, b)

last_place : {X : Type 0} (xs : List X) (x : X) → length (xs ++ x ∷ []) - 1 ≡ length xs
last_place xs x = let e = length-append xs (x ∷ []) in omega arith

pub get_last : {X : Type 0} (xs : List X) (x : X) → slice_get (xs ++ x ∷ []) (length (xs ++ x ∷ []) - 1) ≡ Some x
get_last xs x =
    let e = length-append xs (x ∷ []) in
    slice_get-get_or (xs ++ x ∷ []) (length (xs ++ x ∷ []) - 1) x (omega arith)
    ∙ ap (λ i. Some (get_or (xs ++ x ∷ []) i x)) (last_place xs x) ∙ ap Some (get_or-append_seam xs x [] x)

pub take_but_last : {X : Type 0} (xs : List X) (x : X) → take (length (xs ++ x ∷ []) - 1) (xs ++ x ∷ []) ≡ xs
take_but_last xs x = ap (λ i. take i (xs ++ x ∷ [])) (last_place xs x) ∙ take-append_seam xs (x ∷ [])
