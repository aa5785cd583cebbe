-- The conjuncts of a callee's entry, read by its caller: where what they claim is so, they are true of the callee.
use Rattle.std.proofs.Common.{◌≡◌, ◌≢◌, ℕ, ◌%◌, ◌^◌, Bool, true, false, Option, Some, None, List, [], ◌∷◌, refl, subst, ◌∙◌}
use Rattle.std.specs.Prelude.{fold, flat_map, ◌<ℤ◌, ◌≤ℤ◌}
use Rattle.std.specs.List.{list_all}
use Rattle.std.proofs.lemmas.Bool.{and_parts}
use Rattle.px_terms.specs.Words.{signed, IsQuotient}
use Rattle.px_terms.specs.Polynomials.{Polynomial, terms_of}
use Rattle.px_terms.specs.Variables.{variables_of}
use Rattle.px_terms.specs.Substitutions.{content_for, substituted, substitution_of}
use Rattle.px_terms.specs.Valuations.{Valuation, number_of, numbers_of, IsWord, IsPlace, IsUnwritten, Fits}
use Rattle.px_terms.specs.Conjuncts.{HasWords, ArePlaces, word_of, place_of, IsTrueUnder}
use Rattle.px_terms.specs.declared.types.Value.{Value}
use Rattle.px_terms.specs.declared.types.Value.TheVariants as value
use Rattle.px_terms.specs.declared.variables.Var.{Var}
use Rattle.px_terms.specs.declared.variables.VarInfo.{VarInfo}
use Rattle.px_terms.specs.declared.conjuncts.Place.{Place as PlaceOf}
use Rattle.px_terms.specs.declared.conjuncts.Content.{Content}
use Rattle.px_terms.specs.declared.conjuncts.Content.TheVariants.{Unwritten, Word, Place, Cell}
use Rattle.px_terms.specs.declared.conjuncts.Conj.{Conj}
use Rattle.px_terms.specs.declared.conjuncts.Conj.TheVariants as conjunct
use Rattle.px_terms.proofs.NormalForm.{form_polynomial}
use Rattle.px_entry.proofs.Lists.{Each}
use Rattle.px_callgraph.specs.Renaming.{Substitution, is_word, word_through, place_through, variable_in, Claim, surely, never, claims, claim_one, claim_two, quotient_claim, written_claim, unwritten_claim, claim_through, is_claim_open, assume_claim}
use Rattle.px_soundness.proofs.WellFormed.{Good}
use Rattle.px_soundness.proofs.Truths.{Says, HasForm, decided_says, assume_says}
use Rattle.px_soundness.proofs.Contents.{good_place}
use Rattle.px_soundness.proofs.VariableWords.{variable_number}
use Rattle.px_soundness.proofs.Through.{stood, through, place_is, GoodSubstitution, good_for, word_is}

-- ---- what a claim says

-- of the caller's values
abbrev pub IsClaimed : Valuation → Claim → Type 0
IsClaimed v surely = Unit {0}
IsClaimed v never = ⊥
IsClaimed v (claims c) = Says v c

-- polynomials are in normal form
abbrev HasClaimForm : Claim → Type 0
HasClaimForm surely = Unit {0}
HasClaimForm never = Unit {0}
HasClaimForm (claims c) = HasForm c

module _ (σ : Substitution) where
  one_form : (f : Polynomial → Conj) → ((p : Polynomial) → HasForm (f (substitution_of σ p))) → (p : Polynomial) → HasClaimForm (claim_one f (word_through σ p))
  one_form f form p = by (list_all (λ x. is_word (content_for σ x)) (variables_of p))
    where
      by : (b : Bool) → HasClaimForm (claim_one f (elim b as (λ _. Option Polynomial) [ true ↦ Some (substitution_of σ p) | false ↦ None ]))
      by true = form p
      by false = tt

  two_form : (f : Polynomial → Polynomial → Conj) → ((p q : Polynomial) → HasForm (f (substitution_of σ p) (substitution_of σ q))) → (p q : Polynomial) → HasClaimForm (claim_two f (word_through σ p) (word_through σ q))
  two_form f form p q = by (list_all (λ x. is_word (content_for σ x)) (variables_of p)) (list_all (λ x. is_word (content_for σ x)) (variables_of q))
    where
      by : (a b : Bool) → HasClaimForm (claim_two f (elim a as (λ _. Option Polynomial) [ true ↦ Some (substitution_of σ p) | false ↦ None ]) (elim b as (λ _. Option Polynomial) [ true ↦ Some (substitution_of σ q) | false ↦ None ]))
      by true true = form p q
      by true false = tt
      by false b = tt

  places_form : (f : PlaceOf → PlaceOf → Conj) → ((a b : PlaceOf) → HasForm (f a b)) → (o u : Option PlaceOf) → HasClaimForm (claim_two f o u)
  places_form f form None u = tt
  places_form f form (Some a) None = tt
  places_form f form (Some a) (Some b) = form a b

  quotient_form : (o : Option Var) (p q : Polynomial) → HasClaimForm (quotient_claim o (word_through σ p) (word_through σ q))
  quotient_form None p q = tt
  quotient_form (Some z) p q = two_form (conjunct.Quotient z) (λ p q. (form_polynomial (flat_map (substituted σ) (terms_of p)), form_polynomial (flat_map (substituted σ) (terms_of q)))) p q

  written_form : (o : Option Content) → HasClaimForm (written_claim o)
  written_form None = tt
  written_form (Some Unwritten) = tt
  written_form (Some (Word p)) = tt
  written_form (Some (Place a)) = tt
  written_form (Some (Cell y)) = tt

  unwritten_form : (o : Option Content) → HasClaimForm (unwritten_claim o)
  unwritten_form None = tt
  unwritten_form (Some Unwritten) = tt
  unwritten_form (Some (Word p)) = tt
  unwritten_form (Some (Place a)) = tt
  unwritten_form (Some (Cell y)) = tt

  claim_form : (c : Conj) → HasClaimForm (claim_through σ c)
  claim_form (conjunct.Equal p) = one_form conjunct.Equal (λ p. form_polynomial (flat_map (substituted σ) (terms_of p))) p
  claim_form (conjunct.Unequal p) = one_form conjunct.Unequal (λ p. form_polynomial (flat_map (substituted σ) (terms_of p))) p
  claim_form (conjunct.Less p q) = two_form conjunct.Less (λ p q. (form_polynomial (flat_map (substituted σ) (terms_of p)), form_polynomial (flat_map (substituted σ) (terms_of q)))) p q
  claim_form (conjunct.AtMost p q) = two_form conjunct.AtMost (λ p q. (form_polynomial (flat_map (substituted σ) (terms_of p)), form_polynomial (flat_map (substituted σ) (terms_of q)))) p q
  claim_form (conjunct.SamePlace a b) = places_form conjunct.SamePlace (λ a b. tt) (place_through σ a) (place_through σ b)
  claim_form (conjunct.OtherPlace a b) = places_form conjunct.OtherPlace (λ a b. tt) (place_through σ a) (place_through σ b)
  claim_form (conjunct.Written x) = written_form (content_for σ x.0)
  claim_form (conjunct.Unwritten x) = unwritten_form (content_for σ x.0)
  claim_form (conjunct.Quotient x p q) = quotient_form (variable_in (content_for σ x.0)) p q

  -- ---- assumed claims

  module _ (vars : List VarInfo) (v : Valuation) (fits : Fits vars v) where
    assumed_one : (pure : List Conj) (c : Claim) → is_claim_open vars c ≡ true → HasClaimForm c → Each (IsTrueUnder v) (assume_claim vars pure c) → Each (IsTrueUnder v) pure × IsClaimed v c
    assumed_one pure surely o f h = (h, tt)
    assumed_one pure never o f h = absurd (let e : false ≡ true = o in cc)
    assumed_one pure (claims c) o f h = assume_says vars pure c v (decided_says vars v c fits o f) h

    pub assumed_claims : (cs pure : List Conj) → list_all (λ c. is_claim_open vars (claim_through σ c)) cs ≡ true → Each (IsTrueUnder v) (fold (λ ps c. assume_claim vars ps (claim_through σ c)) pure cs) →
        Each (IsTrueUnder v) pure × Each (λ c. IsClaimed v (claim_through σ c)) cs
    assumed_claims [] pure o h = (h, tt)
    assumed_claims (c ∷ cs) pure o h =
        let b = and_parts (is_claim_open vars (claim_through σ c)) (list_all (λ c. is_claim_open vars (claim_through σ c)) cs) o in
        let (first, rest) = assumed_claims cs (assume_claim vars pure (claim_through σ c)) b.1 h in
        let (before, claimed) = assumed_one pure (claim_through σ c) b.0 (claim_form c) first in
        (before, (claimed, rest))

-- ---- truth of the callee's values

-- the variables of a conjunct have words or places
abbrev pub HasKinds : Valuation → Conj → Type 0
HasKinds w (conjunct.Equal p) = HasWords w p
HasKinds w (conjunct.Unequal p) = HasWords w p
HasKinds w (conjunct.Less p q) = HasWords w p × HasWords w q
HasKinds w (conjunct.AtMost p q) = HasWords w p × HasWords w q
HasKinds w (conjunct.SamePlace a b) = ArePlaces w a b
HasKinds w (conjunct.OtherPlace a b) = ArePlaces w a b
HasKinds w (conjunct.Written x) = Unit {0}
HasKinds w (conjunct.Unwritten x) = Unit {0}
HasKinds w (conjunct.Quotient x p q) = IsWord (w x.0) × HasWords w p × HasWords w q

pub place_not_unwritten : (u : Value) → IsPlace u → IsUnwritten u → ⊥
place_not_unwritten (value.Word z) p e = absurd e
place_not_unwritten value.Null p e = absurd e
place_not_unwritten (value.Block n) p e = absurd e
place_not_unwritten value.Unwritten p e = absurd p

module _ (vars : List VarInfo) (pure : List Conj) (v : Valuation) (fits : Fits vars v) (true_of : Each (IsTrueUnder v) pure) (σ : Substitution) (good : GoodSubstitution vars pure v fits σ) where
  -- one word
  of_word : (f : Polynomial → Conj) (p : Polynomial) (T : ℕ → Type 0) → IsClaimed v (claim_one f (word_through σ p)) → ((q : Polynomial) → Says v (f q) → T (word_of v q)) → T (word_of (through v σ) p)
  of_word f p T h from = by (word_through σ p) refl h
    where
      by : (o : Option Polynomial) → word_through σ p ≡ o → IsClaimed v (claim_one f o) → T (word_of (through v σ) p)
      by None is h = absurd h
      by (Some q) is h = subst T (word_is vars pure v fits σ good p q is) (from q h)

  of_words : (f : Polynomial → Polynomial → Conj) (p q : Polynomial) (T : ℕ → ℕ → Type 0) → IsClaimed v (claim_two f (word_through σ p) (word_through σ q)) → ((a b : Polynomial) → Says v (f a b) → T (word_of v a) (word_of v b)) →
      T (word_of (through v σ) p) (word_of (through v σ) q)
  of_words f p q T h from = by (word_through σ p) (word_through σ q) refl refl h
    where
      by : (o u : Option Polynomial) → word_through σ p ≡ o → word_through σ q ≡ u → IsClaimed v (claim_two f o u) → T (word_of (through v σ) p) (word_of (through v σ) q)
      by None u is at h = absurd h
      by (Some a) None is at h = absurd h
      by (Some a) (Some b) is at h =
          subst (λ n. T n (word_of (through v σ) q)) (word_is vars pure v fits σ good p a is) (subst (T (word_of v a)) (word_is vars pure v fits σ good q b at) (from a b h))

  of_places : (f : PlaceOf → PlaceOf → Conj) (a b : PlaceOf) (T : Value → Value → Type 0) → IsClaimed v (claim_two f (place_through σ a) (place_through σ b)) → ((c d : PlaceOf) → Says v (f c d) → T (place_of v c) (place_of v d)) →
      T (place_of (through v σ) a) (place_of (through v σ) b)
  of_places f a b T h from = by (place_through σ a) (place_through σ b) refl refl h
    where
      by : (o u : Option PlaceOf) → place_through σ a ≡ o → place_through σ b ≡ u → IsClaimed v (claim_two f o u) → T (place_of (through v σ) a) (place_of (through v σ) b)
      by None u is at h = absurd h
      by (Some c) None is at h = absurd h
      by (Some c) (Some d) is at h = subst (λ n. T n (place_of (through v σ) b)) (place_is v σ a c is) (subst (T (place_of v c)) (place_is v σ b d at) (from c d h))

  of_quotient : (c : Option Content) (p q : Polynomial) (o : Option Var) → variable_in c ≡ o → IsClaimed v (quotient_claim o (word_through σ p) (word_through σ q)) →
      IsQuotient (number_of (stood v c) % 2 ^ 32) (word_of (through v σ) p) (word_of (through v σ) q)
  of_quotient c p q None is h = absurd h
  of_quotient c p q (Some z) is h =
      let t = of_words (conjunct.Quotient z) p q (λ m n. IsQuotient (numbers_of v z.0 % 2 ^ 32) m n) h (λ a b e. e) in
      (t.0, variable_number v c z is ∙ t.1)

  pub of_written : (o : Option Content) → ((c : Content) → o ≡ Some c → Good vars pure c) → IsClaimed v (written_claim o) → IsUnwritten (stood v o) → ⊥
  of_written None g h = absurd h
  of_written (Some Unwritten) g h = absurd h
  of_written (Some (Word p)) g h = λ e. e
  of_written (Some (Place a)) g h = place_not_unwritten (place_of v a) (good_place vars pure v a fits true_of (g (Place a) refl))
  of_written (Some (Cell y)) g h = h

  of_unwritten : (o : Option Content) → IsClaimed v (unwritten_claim o) → IsUnwritten (stood v o)
  of_unwritten None h = absurd h
  of_unwritten (Some Unwritten) h = tt
  of_unwritten (Some (Word p)) h = absurd h
  of_unwritten (Some (Place a)) h = absurd h
  of_unwritten (Some (Cell y)) h = h

  pub claimed_true : (c : Conj) → HasKinds (through v σ) c → IsClaimed v (claim_through σ c) → IsTrueUnder (through v σ) c
  claimed_true (conjunct.Equal p) k h = (k, of_word conjunct.Equal p (λ n. n ≡ 0) h (λ q e. e))
  claimed_true (conjunct.Unequal p) k h = (k, of_word conjunct.Unequal p (λ n. n ≢ 0) h (λ q e. e))
  claimed_true (conjunct.Less p q) k h = (k.0, k.1, of_words conjunct.Less p q (λ m n. signed m <ℤ signed n) h (λ a b e. e))
  claimed_true (conjunct.AtMost p q) k h = (k.0, k.1, of_words conjunct.AtMost p q (λ m n. signed m ≤ℤ signed n) h (λ a b e. e))
  claimed_true (conjunct.SamePlace a b) k h = (k, of_places conjunct.SamePlace a b (λ m n. m ≡ n) h (λ c d e. e))
  claimed_true (conjunct.OtherPlace a b) k h = (k, of_places conjunct.OtherPlace a b (λ m n. m ≢ n) h (λ c d e. e))
  claimed_true (conjunct.Written x) k h = of_written (content_for σ x.0) (good_for vars pure v fits σ good x.0) h
  claimed_true (conjunct.Unwritten x) k h = of_unwritten (content_for σ x.0) h
  claimed_true (conjunct.Quotient x p q) k h = (k.0, k.1, k.2, of_quotient (content_for σ x.0) p q (variable_in (content_for σ x.0)) refl h)
