-- The variables of a substituted polynomial are those of what comes in the place of its variables.
use Rattle.std.proofs.Common.{ℕ, List, [], ◌∷◌}
use Rattle.std.specs.Prelude.{flat_map, All}
use Rattle.std.proofs.lemmas.List.Elements.{All-nil}
use Rattle.px_terms.specs.Terms.{Term}
use Rattle.px_terms.specs.Polynomials.{Polynomial, terms_of}
use Rattle.px_terms.specs.Variables.{variables_of}
use Rattle.px_terms.specs.Substitutions.{image_of, expansion, substituted, substitution_of}
use Rattle.px_terms.proofs.NormalForm.{AllHave, have_append}
use Rattle.px_terms.proofs.TermWords.{have_normal, have_terms, have_row, have_pairs}
use Rattle.px_entry.proofs.Lists.{Each, all_each}
use Rattle.px_callgraph.specs.Renaming.{Substitution}

module _ (P : ℕ → Type 0) (σ : Substitution) where
  -- what comes in the place of the variable has such variables alone
  abbrev pub HasImage : ℕ → Type 0
  HasImage x = All P (variables_of (image_of σ x))

  have_expansion : (xs : List ℕ) → Each HasImage xs → AllHave (All P) (expansion σ xs)
  have_expansion [] h = (All-nil P, tt)
  have_expansion (x ∷ xs) h = have_pairs P (terms_of (image_of σ x)) (expansion σ xs) (have_terms P (image_of σ x) h.0) (have_expansion xs h.1)

  have_substituted : (ts : List Term) → AllHave (All HasImage) ts → AllHave (All P) (flat_map (substituted σ) ts)
  have_substituted [] h = tt
  have_substituted (t ∷ ts) h =
      have_append (All P) (substituted σ t) (flat_map (substituted σ) ts)
      (have_row P (record { coefficient = t.coefficient; vars = [] }) (expansion σ t.vars) (All-nil P) (have_expansion t.vars (all_each HasImage t.vars h.0)))
      (have_substituted ts h.1)

  pub substitution_has : (p : Polynomial) → All HasImage (variables_of p) → All P (variables_of (substitution_of σ p))
  substitution_has p h = have_normal P (flat_map (substituted σ) (terms_of p)) (have_substituted (terms_of p) (have_terms HasImage p h))
