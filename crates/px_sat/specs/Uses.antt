-- Where literals stand in clauses.
use Rattle.std.specs.Prelude.{◌≡◌, ℕ, ◌+◌, ◌*◌, cond, List, [], Contains, slice_get, slice_index_or, Some}
use Rattle.px_cnf.specs.declared.literal.Literal.{Literal}

-- the number of a literal
abbrev pub code : Literal → ℕ
code l = l.variable * 2 + cond l.positive 1 0

-- the place stands among those of this number
abbrev pub HasUse : List (List ℕ) → ℕ → ℕ → Type 0
HasUse uses c at = Contains (slice_index_or uses c []) at

-- each clause stands among the places of each of its literals
abbrev pub AreListed : List (List Literal) → List (List ℕ) → Type 0
AreListed clauses uses = (at : ℕ) (clause : List Literal) (l : Literal) → slice_get clauses at ≡ Some clause → Contains clause l → HasUse uses (code l) at
