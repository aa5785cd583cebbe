-- A refuted list stays refuted where variables, conjuncts and kinds are added.
use Rattle.std.proofs.Common.{inl, inr, ℕ, zero, suc, ◌++◌, ◌<◌, List, [], ◌∷◌, length, get_or, sym, subst, arith}
use Rattle.std.specs.Prelude.{All, Contains}
use Rattle.std.proofs.lemmas.List.Elements.{All-contains, All-head, All-tail}
use Rattle.px_terms.specs.Conjuncts.{IsPlain, IsTrueUnder}
use Rattle.px_terms.specs.Rules.{BoundsVariable, HoldsModuloTwo, HoldsInIntegers, RulesOut, SomeRulesOut}
use Rattle.px_terms.specs.declared.types.Value.TheVariants.{Word}
use Rattle.px_terms.specs.declared.variables.VarInfo.{VarInfo}
use Rattle.px_terms.specs.declared.conjuncts.Conj.{Conj}
use Rattle.px_terms.proofs.Agreement.{fits_fewer}
use Rattle.px_solver.specs.Decisions.{IsRefuted}
use Rattle.px_solver.specs.Laws.{RefutedStays}

-- what holds of each of a list holds of each that is in it
pub among : {A : Type 0} (P : A → Type 0) (old new : List A) → All (λ c. Contains new c) old → All P new → All P old
among P old new h a k d l = All-contains P new (get_or old k d) a (h k d l)

module _ (old new : List Conj) (h : All (λ c. Contains new c) old) where
  one_kind : (k : ℕ) → RulesOut k old → RulesOut k new
  unfolding RulesOut
  one_kind zero r = r
  one_kind (suc zero) (x, none) = (x, λ z f b. none z f (among (λ c. BoundsVariable x c → IsTrueUnder (λ y. Word z) c) old new h b))
  one_kind (suc (suc zero)) none = λ v a. none v (among (HoldsModuloTwo v) old new h a)
  one_kind (suc (suc (suc zero))) none = λ v a. none v (among (HoldsInIntegers v) old new h a)
  one_kind (suc (suc (suc (suc k)))) r = r

  some_kind : (kinds : List ℕ) → SomeRulesOut kinds old → SomeRulesOut kinds new
  some_kind [] r = r
  some_kind (k ∷ kinds) (inl r) = inl (one_kind k r)
  some_kind (k ∷ kinds) (inr r) = inr (some_kind kinds r)

  grows : (vars more : List VarInfo) (kinds : List ℕ) → IsRefuted vars old kinds → IsRefuted (vars ++ more) new kinds
  grows vars more kinds (inl plain) = inl (λ v f t. plain v (fits_fewer vars more v f) (among (λ c. IsPlain c → IsTrueUnder v c) old new h t))
  grows vars more kinds (inr r) = inr (some_kind kinds r)

  among_vars : (vars : List VarInfo) (kinds : List ℕ) → IsRefuted vars old kinds → IsRefuted vars new kinds
  among_vars vars kinds (inl plain) = inl (λ v f t. plain v f (among (λ c. IsPlain c → IsTrueUnder v c) old new h t))
  among_vars vars kinds (inr r) = inr (some_kind kinds r)

-- ---- kinds

ruled_by : (conjuncts : List Conj) (kinds : List ℕ) (k : ℕ) → RulesOut k conjuncts → Contains kinds k → SomeRulesOut kinds conjuncts
ruled_by conjuncts [] k r (i, l, e) = absurd (omega arith)
ruled_by conjuncts (j ∷ kinds) k r (zero, l, e) = inl (subst (λ z. RulesOut z conjuncts) (sym e) r)
ruled_by conjuncts (j ∷ kinds) k r (suc i, l, e) = inr (ruled_by conjuncts kinds k r (i, (let b : i < length kinds = omega arith in b), e))

other_kinds : (conjuncts : List Conj) (kinds others : List ℕ) → All (λ k. Contains others k) kinds → SomeRulesOut kinds conjuncts → SomeRulesOut others conjuncts
other_kinds conjuncts [] others h r = absurd r
other_kinds conjuncts (k ∷ kinds) others h (inl r) = ruled_by conjuncts others k r (All-head (λ k. Contains others k) k kinds h)
other_kinds conjuncts (k ∷ kinds) others h (inr r) = other_kinds conjuncts kinds others (All-tail (λ k. Contains others k) k kinds h) r

kinds_among : (vars : List VarInfo) (conjuncts : List Conj) (kinds others : List ℕ) → All (λ k. Contains others k) kinds → IsRefuted vars conjuncts kinds → IsRefuted vars conjuncts others
kinds_among vars conjuncts kinds others h (inl plain) = inl plain
kinds_among vars conjuncts kinds others h (inr r) = inr (other_kinds conjuncts kinds others h r)

pub refuted_stays : RefutedStays
refuted_stays = record {
  grows = λ vars more old new kinds h r. grows old new h vars more kinds r;
  order = λ vars one other kinds h k. (λ r. among_vars one other h vars kinds r, λ r. among_vars other one k vars kinds r);
  kinds = λ vars conjuncts kinds others h r. kinds_among vars conjuncts kinds others h r;
}
