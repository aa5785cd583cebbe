-- What it is that clauses stand for a list of conjuncts.
use Rattle.std.specs.Prelude.{◌≡◌, ◌↔◌, ◌⊎◌, ℕ, ◌+◌, ◌*◌, ◌<◌, ◌≤◌, true, false, List, All, Any, Contains, length, take, slice_index_or, ⊤}
use Rattle.std.specs.List.{sum_by}
use Rattle.px_terms.specs.Polynomials.{Polynomial}
use Rattle.px_terms.specs.Variables.{mentioned}
use Rattle.px_terms.specs.declared.variables.Var.{Var}
use Rattle.px_terms.specs.declared.conjuncts.Conj.{Conj}
use Rattle.px_terms.specs.declared.conjuncts.Conj.TheVariants.{Equal, Unequal, Less, AtMost, SamePlace, OtherPlace, Written, Unwritten, Quotient}
use Rattle.px_plain.specs.Ties.{IsTrueOf}
use Rattle.px_cnf.specs.Clauses.{Assignment, Meets, AreClausesBelow, Forced, IsFalsified}
use Rattle.px_cnf.specs.Circuits.{Gates, IsCircuit, TrueBelow, literal}
use Rattle.px_cnf.specs.Words.{Gives, AreWords}
use Rattle.px_cnf.specs.declared.literal.Literal.{Literal}
use Rattle.px_cnf.specs.declared.cnf.Cnf.{Cnf}
use Rattle.px_cnf.specs.declared.cnf.CnfFault.{CnfFault}
use Rattle.px_cnf.specs.declared.cnf.CnfFault.TheVariants.{Form, Large, NoMemory}

-- an equality, a disequality or an order of words: these have circuits, and a quotient has none
abbrev pub IsComparison : Conj → Type 0
IsComparison (Equal p) = ⊤
IsComparison (Unequal p) = ⊤
IsComparison (Less p q) = ⊤
IsComparison (AtMost p q) = ⊤
IsComparison (SamePlace a b) = ⊥
IsComparison (OtherPlace a b) = ⊥
IsComparison (Written x) = ⊥
IsComparison (Unwritten x) = ⊥
IsComparison (Quotient x p q) = ⊥

-- the words make all conjuncts true
abbrev pub AreTrueOf : (ℕ → ℕ) → List Conj → Type 0
AreTrueOf w conjuncts = All (IsTrueOf w) conjuncts

-- `bits` has each variable that a conjunct mentions, once and in order, and the words stand one after another
pub record AreBits (conjuncts : List Conj) (bits : List (Var × ℕ)) : Type 0 where
  pub mentioned : (x : ℕ) → Any (λ b. b.0.0 ≡ x) bits ↔ Any (λ c. Contains (mentioned c) x) conjuncts
  pub rising : (i j : ℕ) (d : Var × ℕ) → i < j → j < length bits → (slice_index_or bits i d).0.0 < (slice_index_or bits j d).0.0
  pub firsts : (i : ℕ) (d : Var × ℕ) → i < length bits → (slice_index_or bits i d).1 ≡ 32 * i

-- the words of these variables, one after another
pub record AreBitsOf (xs : List ℕ) (bits : List (Var × ℕ)) : Type 0 where
  pub size : length bits ≡ length xs
  pub names : (i : ℕ) (d : Var × ℕ) → i < length xs → (slice_index_or bits i d).0.0 ≡ slice_index_or xs i 0
  pub firsts : (i : ℕ) (d : Var × ℕ) → i < length xs → (slice_index_or bits i d).1 ≡ 32 * i

-- unit clauses assign every variable below a number, or make some clause false
abbrev pub IsSettled : ℕ → List (List Literal) → (Literal → Type 0) → Type 0
IsSettled n clauses given = ((x : ℕ) → x < n → Forced clauses given (literal x true) ⊎ Forced clauses given (literal x false)) ⊎ IsFalsified clauses given

pub record StandsFor (cnf : Cnf) (conjuncts : List Conj) : Type 0 where
  -- each literal's variable is below `variables`, and so are those of the words
  pub below : AreClausesBelow cnf.variables cnf.clauses
  pub inside : 32 * length cnf.bits ≤ cnf.variables
  pub bits : AreBits conjuncts cnf.bits
  -- an assignment that meets all clauses gives words that make the conjuncts true
  pub sound : (a : Assignment) (w : ℕ → ℕ) → Meets a cnf.clauses → Gives a cnf.bits w → AreTrueOf w conjuncts
  -- and all words that do come from such an assignment
  pub complete : (w : ℕ → ℕ) → AreWords w → AreTrueOf w conjuncts → (a : Assignment) × Meets a cnf.clauses × Gives a cnf.bits w
  -- from the words on, unit clauses do the rest
  pub settled : (a : Assignment) → IsSettled cnf.variables cnf.clauses (TrueBelow (32 * length cnf.bits) a)

-- ---- how large a list is

abbrev pub polynomial_degree : Polynomial → ℕ
polynomial_degree p = sum_by (λ t. length t.vars) p.monomials

abbrev pub conjunct_degree : Conj → ℕ
conjunct_degree (Equal p) = polynomial_degree p
conjunct_degree (Unequal p) = polynomial_degree p
conjunct_degree (Less p q) = polynomial_degree p + polynomial_degree q
conjunct_degree (AtMost p q) = polynomial_degree p + polynomial_degree q
conjunct_degree (SamePlace a b) = 0
conjunct_degree (OtherPlace a b) = 0
conjunct_degree (Written x) = 0
conjunct_degree (Unwritten x) = 0
conjunct_degree (Quotient x p q) = 0

-- the sum of the degrees of all monomials
abbrev pub degree_sum : List Conj → ℕ
degree_sum conjuncts = sum_by conjunct_degree conjuncts

-- the greatest sum that is taken
abbrev pub most_degree_sum : ℕ
most_degree_sum = 64

-- ---- what isn't taken

-- the first conjunct that is no comparison of words stands at n
pub record IsFirstOther (conjuncts : List Conj) (n : ℕ) : Type 0 where
  pub inside : n < length conjuncts
  pub other : (d : Conj) → ¬ IsComparison (slice_index_or conjuncts n d)
  pub earlier : All IsComparison (take n conjuncts)

-- why conjuncts have no clauses
abbrev pub IsRefused : CnfFault → List Conj → Type 0
IsRefused (Form n) conjuncts = IsFirstOther conjuncts n
IsRefused (Large n) conjuncts = All IsComparison conjuncts × (n ≡ degree_sum conjuncts) × (most_degree_sum < n)
IsRefused NoMemory conjuncts = ⊤

-- ---- how clauses are made

-- clauses beside a circuit say that the conjuncts are true of the words that its inputs give
pub record IsTranslation (g : Gates) (asserted : List (List Literal)) (bits : List (Var × ℕ)) (conjuncts : List Conj) : Type 0 where
  pub circuit : IsCircuit g
  pub inputs : g.inputs ≡ 32 * length bits
  pub below : AreClausesBelow g.variables asserted
  pub value : (a : Assignment) (w : ℕ → ℕ) → Meets a g.clauses → Gives a bits w → Meets a asserted ↔ AreTrueOf w conjuncts

-- the clauses of two lists, in some order
pub record AreJoined (first second both : List (List Literal)) : Type 0 where
  pub met : (a : Assignment) → Meets a both ↔ (Meets a first × Meets a second)
  pub below : (n : ℕ) → AreClausesBelow n first → AreClausesBelow n second → AreClausesBelow n both
  pub kept : (c : List Literal) → Contains first c → Contains both c
