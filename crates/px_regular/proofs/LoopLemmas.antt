-- What loops over blocks and variables say where they go on and where they end.
use Rattle.std.proofs.Common.{◌≡◌, ◌∙◌, ℕ, zero, suc, ◌-◌, ◌<◌, ◌≤◌, List, [], ◌∷◌, length, drop, Bool, true, ◌&&◌, leb, refl, ap, sym, arith}
use Rattle.std.proofs.Math.ListN.{drop_of_length-le}
use Rattle.std.proofs.lemmas.Bool.{le-leb, lt-leb, leb-true}
use Rattle.std.specs.Cmp.{both_ways}
use Rattle.px_terms.specs.declared.types.ValueType.{ValueType}
use Rattle.px_terms.specs.declared.variables.VarInfo.{VarInfo}
use Rattle.px_terms.specs.declared.conjuncts.Content.{Content}
use Rattle.px_entry.specs.declared.atoms.Atom.{Atom}
use Rattle.px_entry.specs.Sorts.{is_given_sort}
use Rattle.px_entry.specs.Contents.{fit_each}
use Rattle.px_entry.specs.Constraint.{found_atoms}
use Rattle.px_entry.specs.Regular.{are_given, same_blocks}

less_one : (n p : ℕ) → leb (suc n) (suc p) ≡ leb n p
less_one n p =
    both_ways (leb (suc n) (suc p)) (leb n p) (λ e. le-leb n p (let h = leb-true (suc n) (suc p) e in omega (arith, h)))
    (λ e. le-leb (suc n) (suc p) (let h = leb-true n p e in omega (arith, h)))

-- ---- contents

no_content : (fits : ValueType → Content → Bool) (ts : List ValueType) (p : ℕ) → leb (length ts) p ≡ fit_each fits (drop p ts) []
no_content fits [] zero = refl
no_content fits [] (suc p) = le-leb 0 (suc p) (omega arith)
no_content fits (t ∷ ts) zero = lt-leb (suc (length ts)) 0 (omega arith)
no_content fits (t ∷ ts) (suc p) = less_one (length ts) p ∙ no_content fits ts p

-- after the last content no cell is left
pub fit_ends : (fits : ValueType → Content → Bool) (ts : List ValueType) (cs : List Content) (p i : ℕ) → length cs ≤ i →
    fit_each fits (drop p ts) (drop i cs) ≡ fit_each fits ts cs → leb (length ts) p ≡ fit_each fits ts cs
fit_ends fits ts cs p i l h = no_content fits ts p ∙ ap (fit_each fits (drop p ts)) (sym (drop_of_length-le cs l)) ∙ h

-- ---- blocks

no_block : (xs : List Atom) (p : ℕ) → leb (length xs) p ≡ same_blocks (drop p xs) []
no_block [] zero = refl
no_block [] (suc p) = le-leb 0 (suc p) (omega arith)
no_block (x ∷ xs) zero = lt-leb (suc (length xs)) 0 (omega arith)
no_block (x ∷ xs) (suc p) = less_one (length xs) p ∙ no_block xs p

-- after the last block that is left none that was found is left over
pub same_ends : (vars : List VarInfo) (xs ys : List Atom) (p i : ℕ) → length ys ≤ i →
    same_blocks (drop p xs) (found_atoms vars (drop i ys)) ≡ same_blocks xs (found_atoms vars ys) → leb (length xs) p ≡ same_blocks xs (found_atoms vars ys)
same_ends vars xs ys p i l h = no_block xs p ∙ ap (λ z. same_blocks (drop p xs) (found_atoms vars z)) (sym (drop_of_length-le ys l)) ∙ h

-- ---- variables

-- after a given one, one less is given
pub given_next : (n : ℕ) (i : VarInfo) (rest others : List VarInfo) (b : Bool) → 0 < n → rest ≡ i ∷ others → is_given_sort i.sort ≡ true →
    are_given n rest ≡ b → are_given (n - 1) others ≡ b
given_next zero i rest others b l e g h = absurd (omega arith)
given_next (suc n) i rest others b l e g h =
    ap (λ z. are_given z others) (let d : suc n - 1 ≡ n = omega arith in d)
    ∙ sym (ap (λ t. t && are_given n others) g)
    ∙ ap (are_given (suc n)) (sym e)
    ∙ h
