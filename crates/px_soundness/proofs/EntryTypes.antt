-- Inputs of a regular entry are words, and what was made is a pointer.
use Rattle.std.proofs.Common.{◌≡◌, ℕ, zero, suc, ◌+◌, ◌<◌, Bool, true, not, nat_eq, ◌||◌, Some, List, [], ◌∷◌, map, slice_get, refl, sym, ap, ◌∙◌, subst, arith}
use Rattle.std.specs.List.{count_by}
use Rattle.std.proofs.lemmas.Bool.{and_parts, eqb-true}
use Rattle.std.proofs.lemmas.Option.{same_Some}
use Rattle.px_terms.specs.declared.types.TypeId.{TypeId}
use Rattle.px_terms.specs.declared.types.BlockType.{BlockType}
use Rattle.px_terms.specs.declared.types.ValueType.{ValueType}
use Rattle.px_terms.specs.declared.types.ValueType.TheVariants.{Int, Pointer}
use Rattle.px_terms.specs.declared.variables.VarInfo.{VarInfo}
use Rattle.px_terms.specs.declared.variables.Sort.{Sort}
use Rattle.px_terms.specs.declared.variables.Sort.TheVariants as sort
use Rattle.px_entry.specs.declared.atoms.Atom.{Atom}
use Rattle.px_entry.specs.declared.entries.Entry.{Entry}
use Rattle.px_entry.specs.Sorts.{is_input_sort, is_made_sort, is_int_type, is_made, same_type, has_type}
use Rattle.px_entry.specs.Constraint.{made_atoms}
use Rattle.px_entry.specs.Regular.{are_inputs_words, stands_once, points_to_block, is_regular}
use Rattle.px_entry.proofs.Lists.{Each, each_from}
use Rattle.px_soundness.proofs.WellFormed.{times, made_places}
use Rattle.px_soundness.proofs.AtomHeaps.{absent}
use Rattle.px_soundness.proofs.Truths.{variable_is}
use Rattle.px_soundness.proofs.Complete.{times_is}
use Rattle.px_soundness.proofs.FitsThrough.{same_is}
use Rattle.px_soundness.proofs.EntryParts.{Parts, parts, each_filter}
use Rattle.px_soundness.proofs.CallStands.{IsNewType}
use Rattle.px_soundness.proofs.CallReady.{each_times}
use Rattle.px_soundness.proofs.CallSteps.{each_once_is}

input_word : (vars : List VarInfo) → are_inputs_words vars ≡ true → (y : ℕ) (i : VarInfo) → slice_get vars y ≡ Some i → i.sort ≡ sort.Input → is_int_type i.value ≡ true
input_word [] w y i e s = absent e
input_word (k ∷ vars) w zero i e s =
    let b = (and_parts (not (is_input_sort k.sort) || is_int_type k.value) (are_inputs_words vars) w).0 in
    let b' : (not (is_input_sort i.sort) || is_int_type i.value) ≡ true = subst (λ (z : VarInfo). (not (is_input_sort z.sort) || is_int_type z.value) ≡ true) (same_Some _ _ e) b in
    subst (λ z. (not (is_input_sort z) || is_int_type i.value) ≡ true) s b'
input_word (k ∷ vars) w (suc y) i e s = input_word vars (and_parts (not (is_input_sort k.sort) || is_int_type k.value) (are_inputs_words vars) w).1 y i e s

word_type : (t : ValueType) → is_int_type t ≡ true → t ≡ Int
word_type Int e = refl
word_type (Pointer b) e = cc

places_point : (vars : List VarInfo) (atoms : List Atom) → Each (λ (a : Atom). points_to_block vars a ≡ true) atoms → Each (λ y. (b : TypeId) × (has_type vars (Pointer b) y ≡ true)) (map (λ (a : Atom). a.place.0) atoms)
places_point vars [] h = tt
places_point vars (a ∷ atoms) h = ((a.block, h.0), places_point vars atoms h.1)

each_first : (test : Atom → Bool) (P : Atom → Type 0) (xs : List Atom) → Each (λ a. P a × (test a ≡ true)) xs → Each P xs
each_first test P [] h = tt
each_first test P (a ∷ xs) h = (h.0.0, each_first test P xs h.1)

pub new_types : (types : List BlockType) (n : ℕ) (x : Entry) → is_regular types n x ≡ true → (y : ℕ) (i : VarInfo) → slice_get x.vars y ≡ Some i → IsNewType i.sort i.value
new_types types n x e y i at = by i.sort refl
  where
    of : Parts types x
    of = parts types n x e

    points : Each (λ (a : Atom). points_to_block x.vars a ≡ true) (made_atoms x.vars x.post)
    points =
        each_first (λ a. is_made x.vars a.place.0) (λ (a : Atom). points_to_block x.vars a ≡ true) (made_atoms x.vars x.post)
        (each_filter (λ a. is_made x.vars a.place.0) (λ (a : Atom). points_to_block x.vars a ≡ true) x.post
        (each_from (points_to_block x.vars) (λ (a : Atom). points_to_block x.vars a ≡ true) (λ a h. h) x.post of.points))

    there : i.sort ≡ sort.Made → 0 < times y (made_places x.vars x.post)
    there is =
        let zero_plus : 0 + y ≡ y = omega arith in
        let one : times y (made_places x.vars x.post) ≡ 1 = times_is y (made_places x.vars x.post) ∙ eqb-true (count_by (nat_eq y) (made_places x.vars x.post)) 1 (subst (λ z. stands_once (made_places x.vars x.post) z ≡ true) zero_plus (each_once_is (λ i. is_made_sort i.sort) (made_places x.vars x.post) 0 x.vars of.once y i at (ap is_made_sort is))) in
        omega (arith, one)

    pointer : i.sort ≡ sort.Made → (b : TypeId) × (i.value ≡ Pointer b)
    pointer is =
        let (b, has) = each_times (λ y. (b : TypeId) × (has_type x.vars (Pointer b) y ≡ true)) (made_places x.vars x.post) y (places_point x.vars (made_atoms x.vars x.post) points) (there is) in
        let (k, at_k, same) = variable_is x.vars (λ (k : VarInfo). same_type k.value (Pointer b)) y has in
        (b, ap (λ (z : VarInfo). z.value) (same_Some _ _ (sym at ∙ at_k)) ∙ same_is k.value (Pointer b) same)

    by : (s : Sort) → i.sort ≡ s → IsNewType i.sort i.value
    by sort.Given is = subst (λ s. IsNewType s i.value) (sym is) tt
    by sort.Cell is = subst (λ s. IsNewType s i.value) (sym is) tt
    by sort.Input is = subst (λ s. IsNewType s i.value) (sym is) (word_type i.value (input_word x.vars of.inputs y i at is))
    by sort.Made is = subst (λ s. IsNewType s i.value) (sym is) (pointer is)
