-- Words as literals, lowest bit first.
use Rattle.std.specs.Prelude.{◌≡◌, ℕ, zero, suc, ◌+◌, ◌*◌, ◌/◌, ◌%◌, ◌^◌, ◌<◌, Bool, true, false, cond, List, [], ◌∷◌, All, nat_eq}
use Rattle.px_terms.specs.declared.variables.Var.{Var}
use Rattle.px_cnf.specs.Clauses.{Assignment, holds, negated}
use Rattle.px_cnf.specs.declared.literal.Literal.{Literal}

abbrev pub bit : Bool → ℕ
bit false = 0
bit true = 1

-- the number whose bits are these literals
abbrev pub number : Assignment → List Literal → ℕ
number a [] = 0
number a (l ∷ ls) = bit (holds a l) + 2 * number a ls

-- n variables in order, the first of them first
unfoldable pub bits_from : ℕ → ℕ → List Literal
bits_from zero first = []
bits_from (suc n) first = record { variable = first; positive = true } ∷ bits_from n (first + 1)

-- the word that begins at a variable
abbrev pub word_at : ℕ → List Literal
word_at first = bits_from 32 first

-- each variable has the word that the assignment gives it, where `bits` says at which variable it begins
abbrev pub Gives : Assignment → List (Var × ℕ) → (ℕ → ℕ) → Type 0
Gives a bits w = All (λ b. number a (word_at b.1) ≡ w b.0.0) bits

-- each of them is a word
abbrev pub AreWords : (ℕ → ℕ) → Type 0
AreWords w = (x : ℕ) → w x < 2 ^ 32

-- the literals that are all true exactly where their word is a number
abbrev pub matching : List Literal → ℕ → List Literal
matching [] t = []
matching (l ∷ ls) t = cond (nat_eq (t % 2) 1) l (negated l) ∷ matching ls (t / 2)

-- the place of a word in the order of signed numbers
abbrev pub raised : ℕ → ℕ
raised n = (n + 2 ^ 31) % 2 ^ 32
