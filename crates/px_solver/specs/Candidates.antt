-- The words that are tried for the representatives of a component.
use Rattle.std.specs.Prelude.{ℕ, ◌+◌, ◌-◌, ◌%◌, ◌^◌, ◌&&◌, Bool, false, List, [], ◌∷◌, ◌++◌, Option, Some, None, cond, nat_eq, length, fold, map, flat_map, take}
use Rattle.std.specs.List.{list_any}
use Rattle.px_terms.specs.Terms.{Term}
use Rattle.px_terms.specs.Words.{word_product, word_quotient}
use Rattle.px_terms.specs.Polynomials.{Polynomial}
use Rattle.px_terms.specs.Substitutions.{substitution_of}
use Rattle.px_terms.specs.Variables.{variables_of}
use Rattle.px_terms.specs.declared.variables.Var.{Var}
use Rattle.px_terms.specs.declared.conjuncts.Content.{Content}
use Rattle.px_terms.specs.declared.conjuncts.Content.TheVariants as content
use Rattle.px_terms.specs.declared.conjuncts.Conj.{Conj}
use Rattle.px_terms.specs.declared.conjuncts.Conj.TheVariants.{Equal, Unequal, Less, AtMost, SamePlace, OtherPlace, Written, Unwritten, Quotient}

-- ---- constants

-- a variable with the coefficient 1
abbrev pub is_single : List Term → Bool
is_single [] = false
is_single (t ∷ []) = nat_eq t.coefficient 1 && nat_eq (length t.vars) 1
is_single (t ∷ u ∷ us) = false

-- the polynomial is one variable alone
abbrev pub is_variable : Polynomial → Bool
is_variable p = nat_eq p.constant 0 && is_single p.monomials

-- the constant of a polynomial; one variable alone gives none
abbrev pub constant_of : Polynomial → List ℕ
constant_of p = cond (is_variable p) [] (p.constant ∷ [])

abbrev pub negated : ℕ → ℕ
negated c = (2 ^ 32 - c) % 2 ^ 32

-- the constants of a conjunct as stored, those of `Equal` and `Unequal` negated
abbrev pub constants_of : Conj → List ℕ
constants_of (Equal p) = map negated (constant_of p)
constants_of (Unequal p) = map negated (constant_of p)
constants_of (Less p q) = constant_of p ++ constant_of q
constants_of (AtMost p q) = constant_of p ++ constant_of q
constants_of (SamePlace a b) = []
constants_of (OtherPlace a b) = []
constants_of (Written x) = []
constants_of (Unwritten x) = []
constants_of (Quotient x p q) = constant_of p ++ constant_of q

-- ---- quotients, by the words of fixed variables

-- the word of a fixed variable, which comes in its place
abbrev pub fixed_content : ℕ → Option ℕ → List (Var × Content)
fixed_content x None = []
fixed_content x (Some c) = (record { 0 = x }, content.Word (record { constant = c; monomials = [] })) ∷ []

abbrev pub fixed_contents : (ℕ → Option ℕ) → List ℕ → List (Var × Content)
fixed_contents fixed xs = flat_map (λ x. fixed_content x (fixed x)) xs

-- the word of a constant
abbrev pub word_alone : ℕ → List Term → Option ℕ
word_alone c [] = Some c
word_alone c (t ∷ ts) = None

-- the polynomial with the words of fixed variables in their places
abbrev pub with_fixed : (ℕ → Option ℕ) → Polynomial → Polynomial
with_fixed fixed p = substitution_of (fixed_contents fixed (variables_of p)) p

-- its word, where that is a constant
abbrev pub fixed_word : (ℕ → Option ℕ) → Polynomial → Option ℕ
fixed_word fixed p = word_alone (with_fixed fixed p).constant (with_fixed fixed p).monomials

-- the quotient of two words, where there is one
abbrev pub quotient_word : Option ℕ → Option ℕ → List ℕ
quotient_word None n = []
quotient_word (Some m) None = []
quotient_word (Some m) (Some n) = cond (nat_eq n 0) [] (word_quotient m n ∷ [])

-- what has the quotient: the product of the quotient and the second
abbrev pub product_word : Option ℕ → Option ℕ → List ℕ
product_word None n = []
product_word (Some m) None = []
product_word (Some m) (Some n) = word_product m n ∷ []

-- what a quotient gives once fixed variables have their words
abbrev pub quotients_of : (ℕ → Option ℕ) → Conj → List ℕ
quotients_of fixed (Equal p) = []
quotients_of fixed (Unequal p) = []
quotients_of fixed (Less p q) = []
quotients_of fixed (AtMost p q) = []
quotients_of fixed (SamePlace a b) = []
quotients_of fixed (OtherPlace a b) = []
quotients_of fixed (Written x) = []
quotients_of fixed (Unwritten x) = []
quotients_of fixed (Quotient x p q) = quotient_word (fixed_word fixed p) (fixed_word fixed q) ++ product_word (fixed x.0) (fixed_word fixed q)

-- ---- values

-- a word with its neighbours
abbrev pub around : ℕ → List ℕ
around c = ((c + (2 ^ 32 - 1)) % 2 ^ 32) ∷ c ∷ ((c + 1) % 2 ^ 32) ∷ []

-- 0, 1, -1, and the least and the greatest word as signed numbers
abbrev pub end_words : List ℕ
end_words = 0 ∷ 1 ∷ (2 ^ 32 - 1) ∷ (2 ^ 31) ∷ (2 ^ 31 - 1) ∷ []

-- these, and the neighbourhood of each constant
abbrev pub constant_words : List Conj → List ℕ
constant_words conjuncts = end_words ++ flat_map around (flat_map constants_of conjuncts)

-- these, and what quotients give
abbrev pub words_of : (ℕ → Option ℕ) → List Conj → List ℕ
words_of fixed conjuncts = constant_words conjuncts ++ flat_map (quotients_of fixed) conjuncts

-- a number after others, where it isn't among them
abbrev pub put_new : List ℕ → ℕ → List ℕ
put_new seen x = cond (list_any (nat_eq x) seen) seen (seen ++ x ∷ [])

-- the different numbers of a list, in the order in which they come first
abbrev pub distinct : List ℕ → List ℕ
distinct xs = fold put_new [] xs

-- the first 24 different ones
abbrev pub candidates : (ℕ → Option ℕ) → List Conj → List ℕ
candidates fixed conjuncts = take 24 (distinct (words_of fixed conjuncts))
