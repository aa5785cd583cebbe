-- What operators and comparisons make of contents.
use Rattle.std.specs.Prelude.{pos, List, [], ◌∷◌, Option, Some, None}
use Rattle.px_terms.specs.Polynomials.{Polynomial, sum_of, difference_of, product_of}
use Rattle.px_terms.specs.declared.conjuncts.Place.{Place as PlaceOf}
use Rattle.px_terms.specs.declared.conjuncts.Content.{Content}
use Rattle.px_terms.specs.declared.conjuncts.Content.TheVariants.{Unwritten, Word, Place, Cell}
use Rattle.px_terms.specs.declared.conjuncts.Conj.{Conj}
use Rattle.px_terms.specs.declared.conjuncts.Conj.TheVariants as conjunct
use Rattle.px_core.specs.declared.command.Operator.{Operator}
use Rattle.px_core.specs.declared.command.Operator.TheVariants.{Copy, Neg, Add, Sub, Mul}
use Rattle.px_core.specs.declared.command.Comparison.{Comparison}
use Rattle.px_core.specs.declared.command.Comparison.TheVariants.{Equal, Unequal, Less, AtMost, SamePlace, OtherPlace}
use Rattle.px_callgraph.specs.States.{number}

-- of two words
abbrev pub of_words : {A : Type 0} → (Polynomial → Polynomial → A) → Content → Content → Option A
of_words f (Word p) (Word q) = Some (f p q)
of_words f (Word p) Unwritten = None
of_words f (Word p) (Place b) = None
of_words f (Word p) (Cell y) = None
of_words f Unwritten b = None
of_words f (Place a) b = None
of_words f (Cell x) b = None

-- of two places
abbrev pub of_places : {A : Type 0} → (PlaceOf → PlaceOf → A) → Content → Content → Option A
of_places f (Place a) (Place b) = Some (f a b)
of_places f (Place a) Unwritten = None
of_places f (Place a) (Word q) = None
of_places f (Place a) (Cell y) = None
of_places f Unwritten b = None
of_places f (Word p) b = None
of_places f (Cell x) b = None

-- what an operator makes, where the contents are of its kind; a copy is of any kind
abbrev pub operation : Operator → Content → Content → Option Content
operation Copy a b = Some a
operation Neg a b = of_words (λ p q. Word (difference_of p q)) (Word (number (pos 0))) a
operation Add a b = of_words (λ p q. Word (sum_of p q)) a b
operation Sub a b = of_words (λ p q. Word (difference_of p q)) a b
operation Mul a b = of_words (λ p q. Word (product_of p q)) a b

abbrev pub word_terms : Content → List Polynomial
word_terms Unwritten = []
word_terms (Word p) = p ∷ []
word_terms (Place a) = []
word_terms (Cell x) = []

-- the polynomials that an operator makes
abbrev pub made_terms : Operator → Content → List Polynomial
made_terms Copy c = []
made_terms Neg c = word_terms c
made_terms Add c = word_terms c
made_terms Sub c = word_terms c
made_terms Mul c = word_terms c

-- what is assumed where a comparison is true, if the contents are of its kind
abbrev pub condition : Comparison → Content → Content → Option Conj
condition Equal a b = of_words (λ p q. conjunct.Equal (difference_of p q)) a b
condition Unequal a b = of_words (λ p q. conjunct.Unequal (difference_of p q)) a b
condition Less a b = of_words conjunct.Less a b
condition AtMost a b = of_words conjunct.AtMost a b
condition SamePlace a b = of_places conjunct.SamePlace a b
condition OtherPlace a b = of_places conjunct.OtherPlace a b

-- what is assumed where it is false: its contrary
abbrev pub contrary : Comparison → Content → Content → Option Conj
contrary Equal a b = condition Unequal a b
contrary Unequal a b = condition Equal a b
contrary Less a b = condition AtMost b a
contrary AtMost a b = condition Less b a
contrary SamePlace a b = condition OtherPlace a b
contrary OtherPlace a b = condition SamePlace a b

-- the polynomials of a conjunct
abbrev pub conjunct_terms : Conj → List Polynomial
conjunct_terms (conjunct.Equal p) = p ∷ []
conjunct_terms (conjunct.Unequal p) = p ∷ []
conjunct_terms (conjunct.Less p q) = p ∷ q ∷ []
conjunct_terms (conjunct.AtMost p q) = p ∷ q ∷ []
conjunct_terms (conjunct.SamePlace a b) = []
conjunct_terms (conjunct.OtherPlace a b) = []
conjunct_terms (conjunct.Written x) = []
conjunct_terms (conjunct.Unwritten x) = []
conjunct_terms (conjunct.Quotient x p q) = p ∷ q ∷ []
