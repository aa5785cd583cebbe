-- The cases of the atoms from a number on.
use Rattle.std.proofs.Common.{◌≡◌, ℕ, suc, ◌+◌, ◌<◌, List, ◌∷◌, ◌++◌, drop, length, get_or, Bool, true, false, refl, ap, sym, ◌∙◌, arith, append_assoc}
use Rattle.std.proofs.Math.Seq.{drop-cons}
use Rattle.px_entry.specs.declared.atoms.Atom.{Atom}
use Rattle.px_entry.specs.declared.atoms.Case.{Case}
use Rattle.px_entry.specs.Cases.{numbers_of, atom_cases}
use Rattle.px_match.specs.Matching.{case_if}

-- those of the atoms from the i-th on
abbrev pub cases_from : (ℕ → Atom → Bool) → ℕ → List Atom → List Case
cases_from test i xs = atom_cases (numbers_of test i (drop i xs))

first : (b : Bool) (i : ℕ) (ns : List ℕ) → atom_cases (elim b [ true ↦ i ∷ ns | false ↦ ns ]) ≡ case_if b i ++ atom_cases ns
first true i ns = refl
first false i ns = refl

-- the i-th, and those after it
pub case_next : (test : ℕ → Atom → Bool) (i : ℕ) (xs : List Atom) (d : Atom) → i < length xs →
    cases_from test i xs ≡ case_if (test i (get_or xs i d)) i ++ cases_from test (i + 1) xs
case_next test i xs d l =
    ap (λ z. atom_cases (numbers_of test i z)) (drop-cons xs i d l)
    ∙ first (test i (get_or xs i d)) i (numbers_of test (suc i) (drop (suc i) xs))
    ∙ ap (λ n. case_if (test i (get_or xs i d)) i ++ atom_cases (numbers_of test n (drop n xs))) (let e : suc i ≡ i + 1 = omega arith in e)

pub kept : (test : ℕ → Atom → Bool) (i : ℕ) (xs : List Atom) (d : Atom) (b : Bool) (found all : List Case) → i < length xs → b ≡ test i (get_or xs i d) →
    found ++ cases_from test i xs ≡ all → (found ++ case_if b i) ++ cases_from test (i + 1) xs ≡ all
kept test i xs d b found all l e h =
    append_assoc found (case_if b i) (cases_from test (i + 1) xs)
    ∙ ap (λ c. found ++ (case_if c i ++ cases_from test (i + 1) xs)) e
    ∙ ap (λ z. found ++ z) (sym (case_next test i xs d l))
    ∙ h
