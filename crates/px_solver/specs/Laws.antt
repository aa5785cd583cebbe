-- What refuted and found mean for valuations, and that what is decided is determined.
use Rattle.std.specs.Prelude.{◌≡◌, ◌↔◌, ℕ, ℤ, ◌++◌, ◌<◌, List, All, Contains, length, FitsSigned}
use Rattle.std.specs.Int.{w32}
use Rattle.px_terms.specs.Valuations.{Valuation, valuation_of, Fits, FitTogether}
use Rattle.px_terms.specs.Conjuncts.{AreWellSorted, IsTrueUnder}
use Rattle.px_terms.specs.declared.types.Value.{Value}
use Rattle.px_terms.specs.declared.types.Value.TheVariants.{Word}
use Rattle.px_terms.specs.declared.variables.VarInfo.{VarInfo}
use Rattle.px_terms.specs.declared.conjuncts.Conj.{Conj}
use Rattle.px_plain.specs.Models.{IsPlainModel, IsLeastModel}
use Rattle.px_solver.specs.Decisions.{IsRefuted, IsDecided}
use Rattle.px_solver.specs.declared.decision.Decision.{Decision}
use Rattle.px_solver.specs.declared.decision.Decision.TheVariants.{Found}

-- no valuation that fits makes all conjuncts of a refuted list true, whatever the kinds of the domains
pub record RefutedHaveNoModel : Type 0 where
  pub none : (vars : List VarInfo) (conjuncts : List Conj) (kinds : List ℕ) → AreWellSorted vars conjuncts → IsRefuted vars conjuncts kinds
      → (v : Valuation) → Fits vars v → ¬ All (IsTrueUnder v) conjuncts

-- What is decided of a list is one decision. For a model it takes the bounds of words: with them two
-- lists of values are one where their words are the same modulo 2^32.
pub record OneDecision : Type 0 where
  pub one : (vars : List VarInfo) (conjuncts : List Conj) (kinds : List ℕ) (d e : Decision) → IsDecided vars conjuncts kinds d → IsDecided vars conjuncts kinds e → d ≡ e

-- what is answered of plain conjuncts alone is one list of values too
pub record OnePlainModel : Type 0 where
  pub one : (vars : List VarInfo) (conjuncts : List Conj) (vs us : List Value) → IsPlainModel vars conjuncts vs → IsLeastModel vars conjuncts vs
      → IsPlainModel vars conjuncts us → IsLeastModel vars conjuncts us → vs ≡ us

-- a model that is found fits the variables, its words are words of 32 bits, and it makes all conjuncts true
pub record FoundModelsFit : Type 0 where
  pub fits : (vars : List VarInfo) (conjuncts : List Conj) (kinds : List ℕ) (vs : List Value) → IsDecided vars conjuncts kinds (Found vs) → FitTogether vars vs
  pub words : (vars : List VarInfo) (conjuncts : List Conj) (kinds : List ℕ) (vs : List Value) → IsDecided vars conjuncts kinds (Found vs)
      → (x : ℕ) (z : ℤ) → x < length vars → valuation_of vs x ≡ Word z → FitsSigned w32 z
  pub are_true : (vars : List VarInfo) (conjuncts : List Conj) (kinds : List ℕ) (vs : List Value) → IsDecided vars conjuncts kinds (Found vs) → All (IsTrueUnder (valuation_of vs)) conjuncts

-- When a refuted list stays so
pub record RefutedStays : Type 0 where
  -- where variables are added after, and each of its conjuncts is among the new ones
  pub grows : (vars more : List VarInfo) (old new : List Conj) (kinds : List ℕ) → All (λ c. Contains new c) old
      → IsRefuted vars old kinds → IsRefuted (vars ++ more) new kinds
  -- in another order, and with other repeats
  pub order : (vars : List VarInfo) (one other : List Conj) (kinds : List ℕ) → All (λ c. Contains other c) one → All (λ c. Contains one c) other
      → (IsRefuted vars one kinds ↔ IsRefuted vars other kinds)
  -- where each of its kinds is among the others
  pub kinds : (vars : List VarInfo) (conjuncts : List Conj) (kinds others : List ℕ) → All (λ k. Contains others k) kinds
      → IsRefuted vars conjuncts kinds → IsRefuted vars conjuncts others
