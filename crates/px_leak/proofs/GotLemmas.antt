-- Variables and spots that are put together.
use Rattle.std.proofs.Common.{◌≡◌, ◌⊎◌, inl, inr, ℕ, ◌≤◌, List, [], ◌∷◌, ◌++◌, drop, length, refl, sym, ap, ◌∙◌, append-nil}
use Rattle.std.proofs.lemmas.List.{drop_all}
use Rattle.px_leak.specs.declared.got.Spot.{Spot}
use Rattle.px_leak.specs.declared.got.GotBlock.{GotBlock}
use Rattle.px_leak.specs.Losses.{together}

no_spots : (xs : List ℕ) → together xs [] ≡ []
no_spots [] = refl
no_spots (x ∷ xs) = refl

-- where one of the lists is used up, nothing is left to put together
pub together_end : (made : List ℕ) (spots : List Spot) (i : ℕ) (blocks all : List GotBlock) → (length made ≤ i) ⊎ (length spots ≤ i) → blocks ++ together (drop i made) (drop i spots) ≡ all → blocks ≡ all
together_end made spots i blocks all (inl l) whole = sym (append-nil blocks) ∙ ap (λ xs. blocks ++ together xs (drop i spots)) (sym (drop_all i made l)) ∙ whole
together_end made spots i blocks all (inr l) whole =
    sym (append-nil blocks) ∙ ap (λ (bs : List GotBlock). blocks ++ bs) (sym (no_spots (drop i made))) ∙ ap (λ ss. blocks ++ together (drop i made) ss) (sym (drop_all i spots l)) ∙ whole
