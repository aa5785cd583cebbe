-- The terms of a callee's entry, read by its caller: what each variable of the entry stands for is a content.
use Rattle.std.specs.Prelude.{ℕ, suc, ◌||◌, Bool, true, false, cond, nat_eq, List, [], ◌∷◌, map, filter, flat_map, Option, Some, None}
use Rattle.std.specs.List.{list_all}
use Rattle.px_terms.specs.Terms.{Term}
use Rattle.px_terms.specs.Polynomials.{Polynomial}
use Rattle.px_terms.specs.Variables.{variables_of}
use Rattle.px_terms.specs.Substitutions.{content_for, substitution_of}
use Rattle.px_terms.specs.declared.variables.Var.{Var}
use Rattle.px_terms.specs.declared.variables.VarInfo.{VarInfo}
use Rattle.px_terms.specs.declared.conjuncts.Place.{Place as PlaceOf}
use Rattle.px_terms.specs.declared.conjuncts.Place.TheVariants as place
use Rattle.px_terms.specs.declared.conjuncts.Content.{Content}
use Rattle.px_terms.specs.declared.conjuncts.Content.TheVariants.{Unwritten, Word, Place, Cell}
use Rattle.px_terms.specs.declared.conjuncts.Conj.{Conj}
use Rattle.px_terms.specs.declared.conjuncts.Conj.TheVariants as conjunct
use Rattle.px_entry.specs.declared.atoms.AtomState.{AtomState}
use Rattle.px_entry.specs.declared.atoms.AtomState.TheVariants.{Live, Freed}
use Rattle.px_entry.specs.Sorts.{is_input_sort, is_made_sort}
use Rattle.px_entry.specs.Decided.{is_open, assume}
use Rattle.px_entry.specs.Contents.{variable_content}
use Rattle.px_callgraph.specs.Operations.{word_terms, conjunct_terms}

-- what variables of an entry stand for
abbrev pub Substitution : Type 0
Substitution = List (Var × Content)

-- contents for the variables from the n-th on
abbrev pub stand_from : ℕ → List Content → Substitution
stand_from n [] = []
stand_from n (c ∷ cs) = (record { 0 = n }, c) ∷ stand_from (suc n) cs

-- contents for the cell variables that these contents are
abbrev pub stand_cells : List Content → List Content → Substitution
stand_cells (Cell x ∷ ps) (c ∷ cs) = (x, c) ∷ stand_cells ps cs
stand_cells _ _ = []

-- ---- terms

abbrev pub is_word : Option Content → Bool
is_word None = false
is_word (Some Unwritten) = false
is_word (Some (Word p)) = true
is_word (Some (Place a)) = false
is_word (Some (Cell y)) = true

-- a polynomial all of whose variables stand for words
abbrev pub word_through : Substitution → Polynomial → Option Polynomial
word_through σ p = elim (list_all (λ x. is_word (content_for σ x)) (variables_of p)) [ true ↦ Some (substitution_of σ p) | false ↦ None ]

-- the place of a content; that of an unread cell is its variable
abbrev pub place_in : Option Content → Option PlaceOf
place_in None = None
place_in (Some Unwritten) = None
place_in (Some (Word p)) = None
place_in (Some (Place a)) = Some a
place_in (Some (Cell y)) = Some (place.Var y)

abbrev pub place_through : Substitution → PlaceOf → Option PlaceOf
place_through σ place.Null = Some place.Null
place_through σ (place.Var x) = place_in (content_for σ x.0)

-- the variable of a product that is one alone
abbrev pub variable_among : ℕ → List ℕ → Option Var
variable_among c [] = None
variable_among c (x ∷ []) = cond (nat_eq c 1) (Some (record { 0 = x })) None
variable_among c (x ∷ y ∷ ys) = None

-- the variable of a sum that is one alone
abbrev pub variable_in_sum : List Term → Option Var
variable_in_sum [] = None
variable_in_sum (t ∷ []) = variable_among t.coefficient t.vars
variable_in_sum (t ∷ u ∷ us) = None

-- the variable that a polynomial is
abbrev pub variable_of : Polynomial → Option Var
variable_of p = cond (nat_eq p.constant 0) (variable_in_sum p.monomials) None

-- the variable that a content is, as a word; that of an unread cell is its variable
abbrev pub variable_in : Option Content → Option Var
variable_in None = None
variable_in (Some Unwritten) = None
variable_in (Some (Word p)) = variable_of p
variable_in (Some (Place a)) = None
variable_in (Some (Cell y)) = Some y

abbrev pub or_unwritten : {A : Type 0} → Option A → (A → Content) → Content
or_unwritten None f = Unwritten
or_unwritten (Some a) f = f a

abbrev pub content_through : Substitution → Content → Content
content_through σ Unwritten = Unwritten
content_through σ (Word p) = or_unwritten (word_through σ p) Word
content_through σ (Place a) = or_unwritten (place_through σ a) Place
content_through σ (Cell x) = or_unwritten (content_for σ x.0) (λ c. c)

abbrev pub state_through : Substitution → AtomState → AtomState
state_through σ (Live cells) = Live (map (content_through σ) cells)
state_through σ Freed = Freed

-- the polynomials that are made of a content; one that stands for a cell is there already
abbrev pub content_terms : Substitution → Content → List Polynomial
content_terms σ Unwritten = []
content_terms σ (Word p) = word_terms (content_through σ (Word p))
content_terms σ (Place a) = []
content_terms σ (Cell x) = []

abbrev pub state_terms : Substitution → AtomState → List Polynomial
state_terms σ (Live cells) = flat_map (content_terms σ) cells
state_terms σ Freed = []

-- ---- conjuncts

-- what a conjunct of an entry says of the caller: nothing, what can't be, or a conjunct
pub data Claim : Type 0 where
  surely : Claim
  never : Claim
  claims : Conj → Claim

abbrev pub claim_one : {A : Type 0} → (A → Conj) → Option A → Claim
claim_one f None = never
claim_one f (Some a) = claims (f a)

abbrev pub claim_two : {A : Type 0} → (A → A → Conj) → Option A → Option A → Claim
claim_two f None b = never
claim_two f (Some a) None = never
claim_two f (Some a) (Some b) = claims (f a b)

abbrev pub written_claim : Option Content → Claim
written_claim None = never
written_claim (Some Unwritten) = never
written_claim (Some (Word p)) = surely
written_claim (Some (Place a)) = surely
written_claim (Some (Cell y)) = claims (conjunct.Written y)

abbrev pub unwritten_claim : Option Content → Claim
unwritten_claim None = never
unwritten_claim (Some Unwritten) = surely
unwritten_claim (Some (Word p)) = never
unwritten_claim (Some (Place a)) = never
unwritten_claim (Some (Cell y)) = claims (conjunct.Unwritten y)

-- a quotient is a variable of the caller too
abbrev pub quotient_claim : Option Var → Option Polynomial → Option Polynomial → Claim
quotient_claim None a b = never
quotient_claim (Some x) a b = claim_two (conjunct.Quotient x) a b

-- A conjunct on words or places whose variables don't stand for such can't be.
abbrev pub claim_through : Substitution → Conj → Claim
claim_through σ (conjunct.Equal p) = claim_one conjunct.Equal (word_through σ p)
claim_through σ (conjunct.Unequal p) = claim_one conjunct.Unequal (word_through σ p)
claim_through σ (conjunct.Less p q) = claim_two conjunct.Less (word_through σ p) (word_through σ q)
claim_through σ (conjunct.AtMost p q) = claim_two conjunct.AtMost (word_through σ p) (word_through σ q)
claim_through σ (conjunct.SamePlace a b) = claim_two conjunct.SamePlace (place_through σ a) (place_through σ b)
claim_through σ (conjunct.OtherPlace a b) = claim_two conjunct.OtherPlace (place_through σ a) (place_through σ b)
claim_through σ (conjunct.Written x) = written_claim (content_for σ x.0)
claim_through σ (conjunct.Unwritten x) = unwritten_claim (content_for σ x.0)
claim_through σ (conjunct.Quotient x p q) = quotient_claim (variable_in (content_for σ x.0)) (word_through σ p) (word_through σ q)

abbrev pub is_claim_open : List VarInfo → Claim → Bool
is_claim_open vars surely = true
is_claim_open vars never = false
is_claim_open vars (claims c) = is_open vars c

abbrev pub assume_claim : List VarInfo → List Conj → Claim → List Conj
assume_claim vars pure surely = pure
assume_claim vars pure never = pure
assume_claim vars pure (claims c) = assume vars pure c

abbrev pub claim_terms : Claim → List Polynomial
claim_terms surely = []
claim_terms never = []
claim_terms (claims c) = conjunct_terms c

-- ---- new variables

-- an input or a block that the callee made is new to the caller
abbrev pub is_new : VarInfo → Bool
is_new i = is_input_sort i.sort || is_made_sort i.sort

abbrev pub new_variables : List VarInfo → List VarInfo
new_variables vars = filter is_new vars

-- They get numbers in order, from n on; x is the number of the first variable in the entry.
abbrev pub stand_new : ℕ → ℕ → List VarInfo → Substitution
stand_new x n [] = []
stand_new x n (i ∷ vars) = elim (is_new i) [
  | true ↦ (record { 0 = x }, variable_content i.value n) ∷ stand_new (suc x) (suc n) vars
  | false ↦ stand_new (suc x) n vars
]
