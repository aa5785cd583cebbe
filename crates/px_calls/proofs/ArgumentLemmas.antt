-- Arguments that fit.
use Rattle.std.proofs.Common.{◌≡◌, ℕ, ◌+◌, ◌<◌, ◌≤◌, Bool, true, false, ◌&&◌, List, [], ◌∷◌, map, take, drop, drop-cons, length, get_or, refl, ap, sym, ◌∙◌}
use Rattle.std.proofs.Math.ListN.{drop_of_length-le}
use Rattle.px_terms.specs.declared.variables.VarInfo.{VarInfo}
use Rattle.px_terms.specs.declared.conjuncts.Content.{Content}
use Rattle.px_terms.specs.declared.conjuncts.Content.TheVariants.{Unwritten}
use Rattle.px_entry.specs.Contents.{fit_each, is_written_of}
use Rattle.px_calls.specs.Arguments.{fits_infos}
use Rattle.px_calls.proofs.CalleeLemmas.{from_place}

pub infos_fit : (vars infos : List VarInfo) (cs : List Content) → fits_infos vars infos cs ≡ fit_each (is_written_of vars) (map (λ (i : VarInfo). i.value) (take (length cs) infos)) cs
infos_fit vars infos [] = refl
infos_fit vars [] (c ∷ cs) = refl
infos_fit vars (i ∷ infos) (c ∷ cs) = ap (λ z. is_written_of vars i.value c && z) (infos_fit vars infos cs)

-- an argument and those after it
next : (vars infos : List VarInfo) (cs : List Content) (k : ℕ) (i : VarInfo) (c : Content) → k < length infos → i ≡ get_or infos k i → k < length cs → c ≡ get_or cs k c →
    fits_infos vars (drop k infos) (drop k cs) ≡ (is_written_of vars i.value c && fits_infos vars (drop (k + 1) infos) (drop (k + 1) cs))
next vars infos cs k i c l e m f = ap (λ z. fits_infos vars z (drop k cs)) (from_place infos k i l e) ∙ ap (λ z. fits_infos vars (i ∷ drop (k + 1) infos) z) (from_place cs k c m f)

pub fits_more : (vars infos : List VarInfo) (cs : List Content) (k : ℕ) (i : VarInfo) (c : Content) (b : Bool) → k < length infos → i ≡ get_or infos k i → k < length cs → c ≡ get_or cs k c →
    true ≡ is_written_of vars i.value c → fits_infos vars (drop k infos) (drop k cs) ≡ b → fits_infos vars (drop (k + 1) infos) (drop (k + 1) cs) ≡ b
fits_more vars infos cs k i c b l e m f t h = ap (λ z. z && fits_infos vars (drop (k + 1) infos) (drop (k + 1) cs)) t ∙ sym (next vars infos cs k i c l e m f) ∙ h

pub fits_not : (vars infos : List VarInfo) (cs : List Content) (k : ℕ) (i : VarInfo) (c : Content) (b : Bool) → k < length infos → i ≡ get_or infos k i → k < length cs → c ≡ get_or cs k c →
    false ≡ is_written_of vars i.value c → fits_infos vars (drop k infos) (drop k cs) ≡ b → false ≡ b
fits_not vars infos cs k i c b l e m f t h = ap (λ z. z && fits_infos vars (drop (k + 1) infos) (drop (k + 1) cs)) t ∙ sym (next vars infos cs k i c l e m f) ∙ h

pub too_few : (vars infos : List VarInfo) (cs : List Content) (k : ℕ) (b : Bool) → length infos ≤ k → k < length cs →
    fits_infos vars (drop k infos) (drop k cs) ≡ b → false ≡ b
too_few vars infos cs k b l m h = sym (ap (λ z. fits_infos vars z (drop k cs)) (drop_of_length-le infos l) ∙ ap (λ z. fits_infos vars [] z) (drop-cons cs k Unwritten m)) ∙ h

pub all_fit : (vars infos : List VarInfo) (cs : List Content) (k : ℕ) (b : Bool) → length cs ≤ k → fits_infos vars (drop k infos) (drop k cs) ≡ b → true ≡ b
all_fit vars infos cs k b l h = sym (ap (λ z. fits_infos vars (drop k infos) z) (drop_of_length-le cs l)) ∙ h
