-- Conjuncts that are too long to be kept.
use Rattle.std.proofs.Common.{◌≡◌, ℕ, Bool, true, false, ◌||◌, ◌&&◌, not, nat_eq, List, [], ◌∷◌, ◌++◌, Option, Some, None, option_map, refl, ap, ◌∙◌}
use Rattle.std.specs.List.{list_any}
use Rattle.std.proofs.Math.Bool.{or-false}
use Rattle.px_terms.specs.Terms.{Term}
use Rattle.px_terms.specs.Polynomials.{Polynomial}
use Rattle.px_terms.specs.declared.variables.VarInfo.{VarInfo}
use Rattle.px_terms.specs.declared.conjuncts.Conj.{Conj}
use Rattle.px_terms.specs.declared.conjuncts.Conj.TheVariants.{Equal, Unequal, Less, AtMost, SamePlace, OtherPlace, Written, Unwritten, Quotient}
use Rattle.px_entry.specs.Sorts.{is_long, is_long_conjunct}
use Rattle.px_entry.specs.Equality.{same_conjunct}
use Rattle.px_entry.specs.Decided.{word_of, compared, is_less, is_at_most, decided, is_true, stands_in, assume}
use Rattle.px_entry.proofs.TestLemmas.{tests_decide}
use Rattle.px_callgraph.specs.Operations.{conjunct_terms}

-- a conjunct is too long where one of its polynomials is
pub long_terms : (c : Conj) → list_any is_long (conjunct_terms c) ≡ is_long_conjunct c
long_terms (Equal p) = or-false (is_long p)
long_terms (Unequal p) = or-false (is_long p)
long_terms (Less p q) = ap (λ z. is_long p || z) (or-false (is_long q))
long_terms (AtMost p q) = ap (λ z. is_long p || z) (or-false (is_long q))
long_terms (SamePlace a b) = refl
long_terms (OtherPlace a b) = refl
long_terms (Written x) = refl
long_terms (Unwritten x) = refl
long_terms (Quotient x p q) = ap (λ z. is_long p || z) (or-false (is_long q))

-- a polynomial that is too long isn't a word
no_word : (k : ℕ) (ms : List Term) → is_long (record { constant = k; monomials = ms }) ≡ true → word_of (record { constant = k; monomials = ms }) ≡ None
no_word k [] e = cc
no_word k (m ∷ ms) e = refl

long_word : (p : Polynomial) → is_long p ≡ true → word_of p ≡ None
long_word p e = no_word p.constant p.monomials e

none_compared : (test : ℕ → ℕ → Bool) (o : Option ℕ) → compared test o None ≡ None
none_compared test None = refl
none_compared test (Some a) = refl

either_word : (test : ℕ → ℕ → Bool) (p q : Polynomial) (b : Bool) → is_long p ≡ b → (b || is_long q) ≡ true → compared test (word_of p) (word_of q) ≡ None
either_word test p q true l e = ap (λ z. compared test z (word_of q)) (long_word p l)
either_word test p q false l e = ap (λ z. compared test (word_of p) z) (long_word q e) ∙ none_compared test (word_of p)

-- so the conjunct isn't decided
long_undecided : (vars : List VarInfo) (c : Conj) → is_long_conjunct c ≡ true → decided vars c ≡ None
long_undecided vars (Equal p) e = ap (option_map (λ a. nat_eq a 0)) (long_word p e)
long_undecided vars (Unequal p) e = ap (option_map (λ a. not (nat_eq a 0))) (long_word p e)
long_undecided vars (Less p q) e = either_word is_less p q (is_long p) refl e
long_undecided vars (AtMost p q) e = either_word is_at_most p q (is_long p) refl e
long_undecided vars (SamePlace a b) e = cc
long_undecided vars (OtherPlace a b) e = cc
long_undecided vars (Written x) e = refl
long_undecided vars (Unwritten x) e = refl
long_undecided vars (Quotient x p q) e = refl

none_stands : (pure : List Conj) (c : Conj) (b : Bool) → is_long_conjunct c ≡ b → b ≡ true → stands_in pure c ≡ false
none_stands pure c true l e = ap (λ z. not z && list_any (same_conjunct c) pure) l
none_stands pure c false l e = cc

-- and is added
pub long_assumed : (vars : List VarInfo) (pure : List Conj) (c : Conj) → is_long_conjunct c ≡ true → assume vars pure c ≡ pure ++ c ∷ []
long_assumed vars pure c e =
    ap (λ z. elim (is_true z || stands_in pure c) as (λ _. List Conj) [ true ↦ pure | false ↦ pure ++ c ∷ [] ]) (long_undecided vars c e)
    ∙ ap (λ z. elim z as (λ _. List Conj) [ true ↦ pure | false ↦ pure ++ c ∷ [] ]) (none_stands pure c (is_long_conjunct c) refl e)

-- one that isn't too long is no other that is
other_by : (b : Bool) (c d : Conj) → is_long_conjunct c ≡ false → is_long_conjunct d ≡ true → same_conjunct c d ≡ b → b ≡ false
other_by true c d e f h = let same : c ≡ d = (tests_decide.equality c d).0 h in cc
other_by false c d e f h = refl

pub other_one : (c d : Conj) → is_long_conjunct c ≡ false → is_long_conjunct d ≡ true → same_conjunct c d ≡ false
other_one c d e f = other_by (same_conjunct c d) c d e f refl
