-- The words of polynomials in a circuit whose inputs are the words of variables.
use Rattle.std.specs.Prelude.{◌≡◌, ℕ, ◌+◌, ◌^◌, ◌<◌, ◌≤◌, true, List, All, Any, length, Option, Some, None, ⊤}
use Rattle.std.specs.Global.{Vec}
use Rattle.px_terms.specs.declared.variables.Var.{Var}
use Rattle.px_cnf.specs.declared.literal.Literal.{Literal}
use Rattle.px_cnf.specs.declared.terms.Base.{Base}
use Rattle.px_cnf.specs.Clauses.{Assignment, holds, Meets, AreBelow}
use Rattle.px_cnf.specs.Circuits.{Gates, IsCircuit, Always}
use Rattle.px_cnf.specs.Words.{number, Gives}

-- a literal is always true, and the words of the variables are inputs
pub record IsBase (g : Gates) (base : Base) : Type 0 where
  pub circuit : IsCircuit g
  pub few : g.inputs < 2 ^ 32
  pub inside : base.always.variable < g.variables
  pub always : Always g (λ a. holds a base.always ≡ true)
  pub words : All (λ b. b.1 + 32 ≤ g.inputs) base.bits.now

-- each variable has a word
abbrev pub AreKnown : List (Var × ℕ) → List ℕ → Type 0
AreKnown bits xs = All (λ x. Any (λ b. b.0.0 ≡ x) bits) xs

-- 32 literals
pub record IsWord (g : Gates) (z : List Literal) : Type 0 where
  pub below : AreBelow g.variables z
  pub size : length z ≡ 32

-- the same, where there is a word
abbrev pub IsWordOr : Gates → Option (Vec Literal) → Type 0
IsWordOr g None = ⊤
IsWordOr g (Some z) = IsWord g z.items

-- the number of a word, where there is one
abbrev pub number_or : ℕ → Assignment → Option (Vec Literal) → ℕ
number_or nothing a None = nothing
number_or nothing a (Some z) = number a z.items

-- the word has the value that the words of the variables give
abbrev pub Stands : Gates → Base → List Literal → ((ℕ → ℕ) → ℕ) → Type 0
Stands g base z f = (a : Assignment) (w : ℕ → ℕ) → Meets a g.clauses → Gives a base.bits.now w → number a z ≡ f w

abbrev pub StandsOr : Gates → Base → ℕ → Option (Vec Literal) → ((ℕ → ℕ) → ℕ) → Type 0
StandsOr g base nothing z f = (a : Assignment) (w : ℕ → ℕ) → Meets a g.clauses → Gives a base.bits.now w → number_or nothing a z ≡ f w
