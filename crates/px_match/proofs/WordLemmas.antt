-- Polynomials all of whose variables stand for words.
use Rattle.std.proofs.Common.{◌≡◌, Bool, true, false, Option, Some, None, refl, ap, sym, ◌∙◌}
use Rattle.std.specs.List.{list_all}
use Rattle.px_terms.specs.Polynomials.{Polynomial, IsWithinLimits, IsTooLong}
use Rattle.px_terms.specs.Variables.{variables_of}
use Rattle.px_terms.specs.Substitutions.{content_for, substitution_of}
use Rattle.px_entry.specs.Sorts.{is_long}
use Rattle.px_callgraph.specs.Renaming.{Substitution, is_word, word_through}
use Rattle.px_match.proofs.Lengths.{kept_short, too_long}

-- the caller reads such a one by substitution
stands : (σ : Substitution) (p : Polynomial) → list_all (λ x. is_word (content_for σ x)) (variables_of p) ≡ true → word_through σ p ≡ Some (substitution_of σ p)
stands σ p e = by (list_all (λ x. is_word (content_for σ x)) (variables_of p)) e
  where
    by : (b : Bool) → b ≡ true → elim b as (λ _. Option Polynomial) [ true ↦ Some (substitution_of σ p) | false ↦ None ] ≡ Some (substitution_of σ p)
    by true e = refl
    by false e = cc

pub read_word : (σ : Substitution) (p q : Polynomial) → list_all (λ x. is_word (content_for σ x)) (variables_of p) ≡ true → q ≡ substitution_of σ p → IsWithinLimits q →
    (word_through σ p ≡ Some q) × (is_long q ≡ false)
read_word σ p q e f l = (stands σ p e ∙ ap Some (sym f), kept_short q l)

pub read_long : (σ : Substitution) (p : Polynomial) → list_all (λ x. is_word (content_for σ x)) (variables_of p) ≡ true → IsTooLong (substitution_of σ p) →
    (q : Polynomial) × (word_through σ p ≡ Some q) × (is_long q ≡ true)
read_long σ p e l = (substitution_of σ p, stands σ p e, too_long (substitution_of σ p) l)
