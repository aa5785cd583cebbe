-- What the conjuncts that a list is undecided for say of the whole list.
use Rattle.std.specs.Prelude.{ℕ, List, All, Contains}
use Rattle.px_terms.specs.Valuations.{Valuation}
use Rattle.px_terms.specs.Conjuncts.{IsTrueUnder}
use Rattle.px_terms.specs.declared.variables.VarInfo.{VarInfo}
use Rattle.px_terms.specs.declared.conjuncts.Conj.{Conj}
use Rattle.px_plain.specs.Ties.{IsOnWords}
use Rattle.px_solver.specs.Decisions.{IsDecided}
use Rattle.px_solver.specs.declared.decision.Decision.TheVariants.{Undecided}
use Rattle.px_bits.specs.declared.looks.Look.TheVariants.{Refuted}
use Rattle.px_bits.specs.Looks.{HaveNoWords, IsLook}

pub record UndecidedAreAmong : Type 0 where
  pub among : (vars : List VarInfo) (conjuncts : List Conj) (kinds : List ℕ) (hard : List Conj)
      → IsDecided vars conjuncts kinds (Undecided hard) → All (Contains conjuncts) hard

-- no words make the hard conjuncts true, so no valuation makes the list true
pub record NoWordsNoModel : Type 0 where
  pub none : (vars : List VarInfo) (conjuncts : List Conj) (kinds : List ℕ) (hard : List Conj)
      → IsDecided vars conjuncts kinds (Undecided hard) → All IsOnWords hard → HaveNoWords hard
      → (v : Valuation) → ¬ All (IsTrueUnder v) conjuncts

-- a look refutes the hard conjuncts, so no valuation makes the list true
pub record RefutedLooks : Type 0 where
  pub none : (vars : List VarInfo) (conjuncts : List Conj) (kinds : List ℕ) (hard : List Conj) (conflicts : ℕ)
      → IsDecided vars conjuncts kinds (Undecided hard) → IsLook conflicts hard Refuted
      → (v : Valuation) → ¬ All (IsTrueUnder v) conjuncts
