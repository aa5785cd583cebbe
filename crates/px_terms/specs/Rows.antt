-- Products as the code gathers them: a monomial times each of others, row by row.
use Rattle.std.specs.Prelude.{◌≡◌, ℕ, ◌*◌, ◌%◌, ◌^◌, List, [], ◌∷◌, ◌++◌, map, fold}
use Rattle.px_terms.specs.Terms.{Term, Before, put_among, gathered}

-- the variables of one put among those of the other
abbrev pub times_of : Term → Term → Term
times_of s t = record { coefficient = (s.coefficient * t.coefficient) % 2 ^ 32; vars = fold put_among t.vars s.vars }

-- a term times each of others
abbrev pub row_of : Term → List Term → List Term
row_of s ts = map (times_of s) ts

-- the rows of all terms of the first list
abbrev pub rows_of : List Term → List Term → List Term
rows_of [] ts = []
rows_of (s ∷ ss) ts = row_of s ts ++ rows_of ss ts

-- what was put out and what is left of two sums make the same together, before and after some terms
-- of the first sum were put out; `next` is the first term of the second sum
pub record Keeps (next : Term) (out rest out' rest' : List Term) : Type 0 where
  pub keeps : (later : List Term) → Before next.vars later → out' ++ gathered (rest' ++ next ∷ later) ≡ out ++ gathered (rest ++ next ∷ later)

-- the same where `next` was put out too
pub record TakesNext (next : Term) (out rest out' rest' : List Term) : Type 0 where
  pub takes : (later : List Term) → Before next.vars later → out' ++ gathered (rest' ++ later) ≡ out ++ gathered (rest ++ next ∷ later)

-- a word as a term
abbrev pub scalar_of : ℕ → Term
scalar_of c = record { coefficient = c; vars = [] }
