-- Names that are added, one after the other.
use Rattle.std.proofs.Common.{◌≡◌, ℕ, ◌+◌, ◌<◌, List, [], ◌∷◌, ◌++◌, length, drop, get_or, map, Some, None, Err, refl, ap, sym, ◌∙◌}
use Rattle.std.proofs.lemmas.List.{drop_more}
use Rattle.px_real_declarations.specs.DeclarationTree.{SpecifierTree, DeclarationTree}
use Rattle.px_real_declaring.specs.declared.tree.Specifier.{Specifier}
use Rattle.px_real_declaring.specs.declared.tree.Declaration.{Declaration}
use Rattle.px_real_declaring.specs.declared.reading.DeclarationFault.{DeclarationFault}
use Rattle.px_real_declaring.specs.declared.reading.DeclarationFault.TheVariants as D
use Rattle.px_real_names.specs.Enumerated.{Words, both, of_each, of_member, of_members, Adds}
use Rattle.px_real_names.proofs.EnumeratedExact.{both_assoc}

-- where there are none, there are none with others
never_some : (old : List (List ℕ)) (x : Words) → both (Some old) x ≡ None → x ≡ None
never_some old (Some xs) h = absurd cc
never_some old None h = refl

-- these were added, and others are left
pub adds_next : (now next old : List (List ℕ)) (one rest all : Words) → both (Some now) one ≡ Some next → both (Some now) (both one rest) ≡ both (Some old) all → both (Some next) rest ≡ both (Some old) all
adds_next now next old one rest all h so_far = ap (λ z. both z rest) (sym h) ∙ both_assoc (Some now) one rest ∙ so_far

-- none of these was
pub adds_err : (now next old after : List (List ℕ)) (e : DeclarationFault) (one rest all : Words) → Adds now next (Err e) one → both (Some now) (both one rest) ≡ both (Some old) all → Adds old after (Err e) all
adds_err now next old after D.NoMemory one rest all h so_far = tt
adds_err now next old after (D.NotADeclaration at) one rest all h so_far = never_some old all (sym so_far ∙ ap (λ z. both (Some now) (both z rest)) h)
adds_err now next old after (D.Deep at) one rest all h so_far = never_some old all (sym so_far ∙ ap (λ z. both (Some now) (both z rest)) h)

-- all were added
pub adds_all : (now old : List (List ℕ)) (all : Words) → both (Some now) (Some []) ≡ both (Some old) all → both (Some old) all ≡ Some (now ++ [])
adds_all now old all so_far = sym so_far

-- ---- what is left

pub each_left : (one : SpecifierTree → Words) (f : Specifier → SpecifierTree) (xs : List Specifier) (i : ℕ) (x : Specifier) → i < length xs → x ≡ get_or xs i x →
    of_each one (map f (drop i xs)) ≡ both (one (f x)) (of_each one (map f (drop (i + 1) xs)))
each_left one f xs i x lt e = ap (λ z. of_each one (map f z)) (drop_more xs i x lt ∙ ap (λ z. z ∷ drop (i + 1) xs) (sym e))

pub members_left : (one : SpecifierTree → Words) (f : Declaration → DeclarationTree) (xs : List Declaration) (i : ℕ) (x : Declaration) → i < length xs → x ≡ get_or xs i x →
    of_members one (map f (drop i xs)) ≡ both (of_member one (f x)) (of_members one (map f (drop (i + 1) xs)))
members_left one f xs i x lt e = ap (λ z. of_members one (map f z)) (drop_more xs i x lt ∙ ap (λ z. z ∷ drop (i + 1) xs) (sym e))
