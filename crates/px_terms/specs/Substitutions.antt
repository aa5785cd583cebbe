-- Polynomials in which contents stand for variables.
use Rattle.std.specs.Prelude.{ℕ, List, [], ◌∷◌, All, Option, Some, None, ⊤, cond, nat_eq, map, flat_map}
use Rattle.px_terms.specs.Terms.{Term}
use Rattle.px_terms.specs.Polynomials.{Polynomial, terms_of, pairs, term_product, normal_form, value_of}
use Rattle.px_terms.specs.Variables.{variables_of}
use Rattle.px_terms.specs.declared.variables.Var.{Var}
use Rattle.px_terms.specs.declared.conjuncts.Content.{Content}
use Rattle.px_terms.specs.declared.conjuncts.Content.TheVariants.{Unwritten, Word, Place, Cell}

-- the first content that stands for the variable, if there is one
abbrev pub content_for : List (Var × Content) → ℕ → Option Content
content_for [] x = None
content_for (pair ∷ rest) x = cond (nat_eq pair.0.0 x) (Some pair.1) (content_for rest x)

-- the variable stays, or a word or the content of a cell stands for it
abbrev pub IsForWord : Option Content → Type 0
IsForWord None = ⊤
IsForWord (Some (Word p)) = ⊤
IsForWord (Some (Cell y)) = ⊤
IsForWord (Some (Place a)) = ⊥
IsForWord (Some Unwritten) = ⊥

-- no unwritten content and no place stands for a variable of the polynomial
abbrev pub StandsForWords : List (Var × Content) → Polynomial → Type 0
StandsForWords with p = All (λ x. IsForWord (content_for with x)) (variables_of p)

-- a variable as a polynomial
abbrev pub variable : ℕ → Polynomial
variable x = record { constant = 0; monomials = record { coefficient = 1; vars = x ∷ [] } ∷ [] }

-- what comes in the place of a variable: itself, where nothing stands for it
abbrev pub image_by : ℕ → Option Content → Polynomial
image_by x None = variable x
image_by x (Some (Word p)) = p
image_by x (Some (Cell y)) = variable y.0
image_by x (Some (Place a)) = record { constant = 0; monomials = [] }
image_by x (Some Unwritten) = record { constant = 0; monomials = [] }

abbrev pub image_of : List (Var × Content) → ℕ → Polynomial
image_of with x = image_by x (content_for with x)

-- the product of what comes in the place of each of these variables
abbrev pub expansion : List (Var × Content) → List ℕ → List Term
expansion with [] = record { coefficient = 1; vars = [] } ∷ []
expansion with (x ∷ xs) = pairs (terms_of (image_of with x)) (expansion with xs)

-- a term times what comes in the place of its variables
abbrev pub substituted : List (Var × Content) → Term → List Term
substituted with t = map (term_product (record { coefficient = t.coefficient; vars = [] })) (expansion with t.vars)

abbrev pub substitution_of : List (Var × Content) → Polynomial → Polynomial
substitution_of with p = normal_form (flat_map (substituted with) (terms_of p))

-- the values of what comes in the place of variables
abbrev pub images_at : List (Var × Content) → (ℕ → ℕ) → ℕ → ℕ
images_at with v x = value_of v (image_of with x)
