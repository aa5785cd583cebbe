-- The terms of a callee's entry, read by its caller: they have the values that the caller's contents give.
use Rattle.std.proofs.Common.{◌≡◌, ℕ, ◌+◌, ◌*◌, ◌%◌, ◌^◌, ◌<◌, Bool, true, false, cond, nat_eq, Option, Some, None, List, [], ◌∷◌, refl, sym, ap, ◌∙◌, subst, arith}
use Rattle.std.specs.List.{list_all}
use Rattle.std.proofs.lemmas.Option.{same_Some}
use Rattle.px_terms.specs.Polynomials.{Polynomial, value_of}
use Rattle.px_terms.specs.Variables.{variables_of}
use Rattle.px_terms.specs.Substitutions.{content_for, image_by, images_at, substitution_of}
use Rattle.px_terms.specs.Valuations.{Valuation, number_of, numbers_of, FitsSort, Fits}
use Rattle.px_terms.specs.Conjuncts.{word_of, place_of}
use Rattle.px_terms.specs.declared.types.Value.{Value}
use Rattle.px_terms.specs.declared.types.Value.TheVariants as value
use Rattle.px_terms.specs.declared.types.ValueType.{ValueType}
use Rattle.px_terms.specs.declared.types.ValueType.TheVariants.{Int, Pointer}
use Rattle.px_terms.specs.declared.variables.Var.{Var}
use Rattle.px_terms.specs.declared.variables.VarInfo.{VarInfo}
use Rattle.px_terms.specs.declared.variables.Sort.{Sort}
use Rattle.px_terms.specs.declared.variables.Sort.TheVariants as sort
use Rattle.px_terms.specs.declared.conjuncts.Place.{Place as PlaceOf}
use Rattle.px_terms.specs.declared.conjuncts.Place.TheVariants as place
use Rattle.px_terms.specs.declared.conjuncts.Content.{Content}
use Rattle.px_terms.specs.declared.conjuncts.Content.TheVariants.{Unwritten, Word, Place, Cell}
use Rattle.px_terms.specs.declared.conjuncts.Conj.{Conj}
use Rattle.px_terms.proofs.Agreement.{value_agrees}
use Rattle.px_terms.proofs.SubstitutionLemmas.{substitution_value}
use Rattle.px_terms.proofs.WordLaws.{words_are_signed}
use Rattle.px_entry.specs.Sorts.{is_cell_sort, is_cell}
use Rattle.px_entry.specs.Standing.{content_value}
use Rattle.px_entry.proofs.Lists.{Each, each_all, each_from}
use Rattle.px_callgraph.specs.Renaming.{Substitution, is_word, word_through, place_in, place_through}
use Rattle.px_soundness.proofs.WellFormed.{Good}
use Rattle.px_soundness.proofs.AtomHeaps.{absent}
use Rattle.px_soundness.proofs.Truths.{variable_is}
use Rattle.px_terms.proofs.TermWords.{below}

abbrev pub stood : Valuation → Option Content → Value
stood v None = value.Unwritten
stood v (Some c) = content_value v c

-- the callee's valuation: each variable has the value of what stands for it
abbrev pub through : Valuation → Substitution → Valuation
through v σ x = stood v (content_for σ x)

-- ---- places

pub in_place : (v : Valuation) (o : Option Content) (a : PlaceOf) → place_in o ≡ Some a → place_of v a ≡ stood v o
in_place v None a e = absent e
in_place v (Some Unwritten) a e = absent e
in_place v (Some (Word p)) a e = absent e
in_place v (Some (Place b)) a e = ap (place_of v) (sym (same_Some _ _ e))
in_place v (Some (Cell y)) a e = ap (place_of v) (sym (same_Some _ _ e))

pub place_is : (v : Valuation) (σ : Substitution) (a b : PlaceOf) → place_through σ a ≡ Some b → place_of v b ≡ place_of (through v σ) a
place_is v σ place.Null b e = ap (place_of v) (sym (same_Some _ _ e))
place_is v σ (place.Var x) b e = in_place v (content_for σ x.0) b e

-- ---- words

once : (n : ℕ) → n < 2 ^ 32 → (0 + (1 * (n * 1) + 0)) % 2 ^ 32 ≡ n
once n l = omega arith

pub cell_sort : (s : Sort) → is_cell_sort s ≡ true → s ≡ sort.Cell
cell_sort sort.Given e = cc
cell_sort sort.Cell e = refl
cell_sort sort.Input e = cc
cell_sort sort.Made e = cc

module _ (vars : List VarInfo) (pure : List Conj) (v : Valuation) (fits : Fits vars v) where
  small_value : (t : ValueType) (u : Value) → FitsSort sort.Cell t u → number_of u < 2 ^ 32
  small_value Int (value.Word z) f = words_are_signed.word_fits z f
  small_value (Pointer t) (value.Word z) f = absurd f
  small_value t value.Null f = omega arith
  small_value t (value.Block n) f = omega arith
  small_value t value.Unwritten f = omega arith

  cell_small : (x : ℕ) → is_cell vars x ≡ true → number_of (v x) < 2 ^ 32
  cell_small x e =
      let (i, at, is) = variable_is vars (λ (i : VarInfo). is_cell_sort i.sort) x e in
      small_value i.value (v x) (subst (λ s. FitsSort s i.value (v x)) (cell_sort i.sort is) (fits.sorts x i at))

  -- contents of the caller stand for variables
  abbrev pub GoodSubstitution : Substitution → Type 0
  GoodSubstitution σ = Each (λ (b : Var × Content). Good vars pure b.1) σ

  pub good_for : (σ : Substitution) → GoodSubstitution σ → (x : ℕ) (c : Content) → content_for σ x ≡ Some c → Good vars pure c
  good_for [] g x c e = absent e
  good_for (b ∷ σ) g x c e = by (nat_eq b.0.0 x) (good_for σ g.1 x c) e
    where
      by : (q : Bool) → (content_for σ x ≡ Some c → Good vars pure c) → cond q (Some b.1) (content_for σ x) ≡ Some c → Good vars pure c
      by true rest e = subst (Good vars pure) (same_Some _ _ e) g.0
      by false rest e = rest e

  -- the word of what comes in the place of a variable
  image_is : (x : ℕ) (o : Option Content) → ((c : Content) → o ≡ Some c → Good vars pure c) → is_word o ≡ true → value_of (numbers_of v) (image_by x o) ≡ number_of (stood v o)
  image_is x None g e = cc
  image_is x (Some Unwritten) g e = cc
  image_is x (Some (Place a)) g e = cc
  image_is x (Some (Word p)) g e = sym (words_are_signed.word_signed (word_of v p) (below v p))
  image_is x (Some (Cell y)) g e = once (number_of (v y.0)) (cell_small y.0 (g (Cell y) refl))

  pub word_is : (σ : Substitution) → GoodSubstitution σ → (p q : Polynomial) → word_through σ p ≡ Some q → word_of v q ≡ word_of (through v σ) p
  word_is σ g p q e = by (list_all (λ x. is_word (content_for σ x)) (variables_of p)) refl e
    where
      by : (b : Bool) → list_all (λ x. is_word (content_for σ x)) (variables_of p) ≡ b → (elim b as (λ _. Option Polynomial) [ true ↦ Some (substitution_of σ p) | false ↦ None ]) ≡ Some q → word_of v q ≡ word_of (through v σ) p
      by true all e =
          ap (word_of v) (sym (same_Some _ _ e))
          ∙ substitution_value σ p (numbers_of v)
          ∙ value_agrees (images_at σ (numbers_of v)) (numbers_of (through v σ)) p
          (each_all _ (variables_of p) (each_from (λ x. is_word (content_for σ x)) (λ x. images_at σ (numbers_of v) x ≡ numbers_of (through v σ) x) (λ x w. image_is x (content_for σ x) (good_for σ g x) w) (variables_of p) all))
      by false all e = absent e
