-- The members of a struct or union, found by its number.
use Rattle.std.proofs.Common.{◌≡◌, ℕ, ◌-◌, ◌<◌, List, [], ◌∷◌, length, get_or, map, Option, Some, None, Bool, refl, ap, sym, ◌∙◌, arith}
use Rattle.std.specs.Prelude.{slice_index, nat_eq}
use Rattle.std.proofs.lemmas.Bool.{eq-eqb, ne_eqb}
use Rattle.std.proofs.lemmas.List.{get_or-map, length-map}
use Rattle.px_chains.specs.Ends.{IsEndOfKey}
use Rattle.px_real_scopes.specs.declared.meaning.Definition.{Definition}
use Rattle.px_real_scopes.specs.Scopes.{NamedTree, DefinitionTree}
use Rattle.px_real_scopes.specs.Lookups.{first_said, says_members}
use Rattle.px_real_scopes.specs.Views.{member_view, definition_view, definitions_view}
use Rattle.px_real_scopes.specs.Keys.{numbers_of, IsLast}
use Rattle.px_real_scopes.proofs.NearestLemmas.{Says, found, not_found}

abbrev has_number : ℕ → DefinitionTree → Bool
has_number n d = nat_eq d.number n

abbrev its_members : DefinitionTree → Option (List NamedTree)
its_members d = Some d.members

says_numbers : (n : ℕ) → Says (has_number n) (says_members n) its_members
says_numbers n = record { here = λ d ds h. rw h refl; not_here = λ d h. rw h refl }

module _ (xs : List Definition) (n e : ℕ) (is_end : IsEndOfKey (numbers_of xs) n (length (numbers_of xs)) e) where
  number_at : (d : Definition) (i : ℕ) → i < length xs → slice_index (numbers_of xs) i ≡ (get_or xs i d).number
  number_at d i lt = get_or-map (λ (x : Definition). x.number) xs i d 0 lt

  is_last : IsLast (λ x. has_number n (definition_view x)) xs e
  is_last =
      let count : length (numbers_of xs) ≡ length xs = length-map xs (λ (x : Definition). x.number) in
      let w = is_end.within in record {
        within = omega arith;
        here = λ d p. eq-eqb (get_or xs (e - 1) d).number n (sym (number_at d (e - 1) (omega arith)) ∙ is_end.here p);
        none_behind = λ d i a b. ne_eqb (get_or xs i d).number n (λ h. is_end.none_after i a (omega arith) (number_at d i b ∙ h));
      }

  pub members_found : (x : Definition) → 0 < e → x ≡ get_or xs (e - 1) x → first_said (says_members n) (definitions_view xs) ≡ Some (map member_view x.members.items)
  members_found x p is = found definition_view (has_number n) (says_members n) its_members (says_numbers n) xs x e is_last p ∙ ap (λ z. its_members (definition_view z)) (sym is)

pub no_members : (xs : List Definition) (n e : ℕ) → IsEndOfKey (numbers_of xs) n (length (numbers_of xs)) e → e ≡ 0 → first_said (says_members n) (definitions_view xs) ≡ None
no_members [] n e is_end z = refl
no_members (x ∷ xs) n e is_end z = not_found definition_view (has_number n) (says_members n) its_members (says_numbers n) (x ∷ xs) x e (is_last (x ∷ xs) n e is_end) z
