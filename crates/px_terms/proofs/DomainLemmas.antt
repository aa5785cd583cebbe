-- What the domains' rules need of variables and of conjuncts that are true.
use Rattle.std.proofs.Common.{◌≡◌, ℕ, ◌+◌, ◌-◌, ◌*◌, ◌%◌, ◌^◌, ◌<◌, List, length, refl, arith}
use Rattle.std.specs.Prelude.{slice_get, Option, Some, None, IsSomeAnd}
use Rattle.std.proofs.lemmas.Option.{slice_get_within}
use Rattle.px_terms.specs.Terms.{value_at}
use Rattle.px_terms.specs.Valuations.{Valuation, numbers_of}
use Rattle.px_terms.specs.Conjuncts.{IsTrueUnder, IsIntVariable}
use Rattle.px_terms.specs.Rules.{HoldsModuloTwo}
use Rattle.px_terms.specs.declared.types.ValueType.TheVariants.{Int}
use Rattle.px_terms.specs.declared.variables.VarInfo.{VarInfo}
use Rattle.px_terms.specs.declared.conjuncts.Conj.{Conj}
use Rattle.px_terms.specs.declared.conjuncts.Conj.TheVariants.{Equal, Unequal, Less, AtMost, SamePlace, OtherPlace, Written, Unwritten, Quotient}

pub int_below : (vars : List VarInfo) (x : ℕ) → IsIntVariable vars x → x < length vars
int_below vars x h = within (slice_get vars x) refl h
  where
    within : (o : Option VarInfo) → slice_get vars x ≡ o → IsSomeAnd o (λ (i : VarInfo). i.value ≡ Int) → x < length vars
    within None e h = absurd h
    within (Some i) e h = slice_get_within vars x i e

-- words whose difference is 0 are the same, whichever stands first
pub equal_words : (m n : ℕ) → (0 + (1 * (m * 1) + ((2 ^ 32 - 1) * (n * 1) + 0))) % 2 ^ 32 ≡ 0 → m % 2 ^ 32 ≡ n % 2 ^ 32
equal_words m n e = omega arith

pub equal_turned : (m n : ℕ) → (0 + ((2 ^ 32 - 1) * (n * 1) + (1 * (m * 1) + 0))) % 2 ^ 32 ≡ 0 → m % 2 ^ 32 ≡ n % 2 ^ 32
equal_turned m n e = omega arith

pub true_modulo_two : (v : Valuation) (c : Conj) → IsTrueUnder v c → HoldsModuloTwo (numbers_of v) c
true_modulo_two v (Equal p) h = λ _. half (p.constant + value_at (numbers_of v) p.monomials) h.1
  where
    half : (n : ℕ) → n % 2 ^ 32 ≡ 0 → n % 2 ≡ 0
    half n e = omega arith
true_modulo_two v (Unequal p) h = tt
true_modulo_two v (Less p q) h = tt
true_modulo_two v (AtMost p q) h = tt
true_modulo_two v (SamePlace a b) h = tt
true_modulo_two v (OtherPlace a b) h = tt
true_modulo_two v (Written y) h = tt
true_modulo_two v (Unwritten y) h = tt
true_modulo_two v (Quotient y p q) h = tt
