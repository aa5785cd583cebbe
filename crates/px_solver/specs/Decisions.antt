-- When a list of conjuncts is refuted, found and undecided.
use Rattle.std.specs.Prelude.{◌≢◌, ℕ, ◌<◌, ◌⊎◌, List, [], All, Any}
use Rattle.px_terms.specs.Variables.{mentioned}
use Rattle.px_terms.specs.Conjuncts.{IsPlain, IsTrueUnder}
use Rattle.px_terms.specs.Valuations.{valuation_of, Fits}
use Rattle.px_terms.specs.Rules.{SomeRulesOut}
use Rattle.px_terms.specs.declared.types.Value.{Value}
use Rattle.px_terms.specs.declared.variables.VarInfo.{VarInfo}
use Rattle.px_terms.specs.declared.conjuncts.Conj.{Conj}
use Rattle.px_plain.specs.Models.{IsPlainlyRefuted}
use Rattle.px_plain.specs.Ties.{KeepsTies, IsFixed, IsSaidUnwritten, IsTrueOf}
use Rattle.px_solver.specs.Components.{Selects, IsOfComponent, IsHardComponent}
use Rattle.px_solver.specs.Assignments.{IsSolvedBy, IsUnsolved}
use Rattle.px_solver.specs.Models.{IsModel}
use Rattle.px_solver.specs.declared.decision.Decision.{Decision}
use Rattle.px_solver.specs.declared.decision.Decision.TheVariants.{Found, Refuted, Undecided}

-- no valuation that fits makes the plain conjuncts true, or the rule of a kind rules the list out
abbrev pub IsRefuted : List VarInfo → List Conj → List ℕ → Type 0
IsRefuted vars conjuncts kinds = IsPlainlyRefuted vars conjuncts ⊎ SomeRulesOut kinds conjuncts

-- the conjunct mentions fixed variables alone, and is false of their words
abbrev pub IsFixedFalse : List Conj → Conj → Type 0
IsFixedFalse conjuncts c = All (IsFixed conjuncts) (mentioned c) × ((w : ℕ → ℕ) → KeepsTies w conjuncts → ¬ IsTrueOf w c)

-- a conjunct that isn't plain is false outright where it mentions an unwritten variable, or by its constants
abbrev pub IsFalseOutright : List Conj → Conj → Type 0
IsFalseOutright conjuncts c = (¬ IsPlain c) × (Any (IsSaidUnwritten conjuncts) (mentioned c) ⊎ IsFixedFalse conjuncts c)

-- values that fit, and so with words of 32 bits, make all conjuncts true and are the model of the list
pub record IsFound (vars : List VarInfo) (conjuncts : List Conj) (kinds : List ℕ) (vs : List Value) : Type 0 where
  pub not_refuted : ¬ IsRefuted vars conjuncts kinds
  pub none_false : All (λ c. ¬ IsFalseOutright conjuncts c) conjuncts
  pub fits : Fits vars (valuation_of vs)
  pub are_true : All (IsTrueUnder (valuation_of vs)) conjuncts
  pub model : IsModel vars conjuncts vs

-- some conjuncts are false outright, and these are they
pub record AreFalseOutright (conjuncts us : List Conj) : Type 0 where
  pub some : us ≢ []
  pub selects : Selects (IsFalseOutright conjuncts) conjuncts us

-- none is, and these are the conjuncts of the first component that fails
pub record IsFirstFailure (conjuncts us : List Conj) : Type 0 where
  pub none_false : All (λ c. ¬ IsFalseOutright conjuncts c) conjuncts
  pub component : ℕ
  pub is_hard : IsHardComponent conjuncts component
  pub fails : IsUnsolved conjuncts component
  pub earlier : (r : ℕ) → r < component → IsHardComponent conjuncts r → (w : ℕ → ℕ) × IsSolvedBy conjuncts w r
  pub selects : Selects (IsOfComponent conjuncts component) conjuncts us

pub record IsUndecided (vars : List VarInfo) (conjuncts : List Conj) (kinds : List ℕ) (us : List Conj) : Type 0 where
  pub not_refuted : ¬ IsRefuted vars conjuncts kinds
  pub cause : AreFalseOutright conjuncts us ⊎ IsFirstFailure conjuncts us

-- what is decided of a list of conjuncts
abbrev pub IsDecided : List VarInfo → List Conj → List ℕ → Decision → Type 0
IsDecided vars conjuncts kinds (Found vs) = IsFound vars conjuncts kinds vs
IsDecided vars conjuncts kinds Refuted = IsRefuted vars conjuncts kinds
IsDecided vars conjuncts kinds (Undecided us) = IsUndecided vars conjuncts kinds us

-- what is decided of a list that isn't refuted
abbrev pub IsOpen : List VarInfo → List Conj → Decision → Type 0
IsOpen vars conjuncts (Found vs) = All (λ c. ¬ IsFalseOutright conjuncts c) conjuncts × IsModel vars conjuncts vs × Fits vars (valuation_of vs) × All (IsTrueUnder (valuation_of vs)) conjuncts
IsOpen vars conjuncts Refuted = ⊥
IsOpen vars conjuncts (Undecided us) = AreFalseOutright conjuncts us ⊎ IsFirstFailure conjuncts us
