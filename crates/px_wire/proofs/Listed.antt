-- What is read behind a list of terms.
use Rattle.std.proofs.Common.{◌≡◌, ℕ, List, ◌∷◌, ◌++◌, length, Bool, true, false, Option, Some, None, inl, inr, refl, sym, ap, subst, ◌∙◌, arith}
use Rattle.std.specs.Prelude.{◌≢◌, ◌↔◌, Err, option_and_then}
use Rattle.std.specs.List.{AllByRecursion}
use Rattle.std.proofs.lemmas.Bool.{false_from_ne_true}
use Rattle.px_terms.specs.Polynomials.{Polynomial}
use Rattle.px_spelling.specs.declared.fault.WireFault.{WireFault}
use Rattle.px_spelling.specs.declared.fault.WireFault.TheVariants.{NotAMessage, NoMemory}
use Rattle.px_spelling.specs.Numbers.{IsU32}
use Rattle.px_spelling.specs.Lists.{list_bytes, IsList, any_number}
use Rattle.px_spelling.specs.Polynomials.{polynomial_bytes, IsPolynomialInRange, in_full}
use Rattle.px_spelling.specs.ByPlace.{Differ, by_place}
use Rattle.px_spelling.proofs.Nine.{behind}
use Rattle.px_spelling.proofs.PlaceLemmas.{all_differ}
use Rattle.px_wire.specs.Jobs.{only_if}
use Rattle.px_wire.specs.Messages.{MessageTree, request, reply, large, tag_of, fields_bytes, AreFields, IsDecoded}
use Rattle.px_wire.specs.Mentions.{mentions, terms_of}
use Rattle.px_wire.specs.Versions.{terms_bytes, BeginWith, IsDecodedIn}
use Rattle.px_wire.specs.Readers.{fields_at, are_terms, with_terms}
use Rattle.px_wire.proofs.MessageRanges.{from_terms}
use Rattle.px_wire.proofs.MessageRoundTrips.{same_terms, none_first}

-- a list in which two are the same is no list of terms, whatever follows it
pub not_listed : (tag : ℕ) (terms : List Polynomial) (bytes : List ℕ) → ¬ Differ terms → with_terms tag terms bytes ≡ None
unfolding with_terms
not_listed tag terms bytes twice = by_fields (fields_at (by_place terms) tag bytes)
  where
    other : (m : MessageTree) → are_terms terms m ≡ false
    other m = false_from_ne_true (are_terms terms m) (λ e. twice (subst Differ ((same_terms (terms_of m) terms).0 e) (all_differ (mentions m))))

    by_fields : (r : Option (MessageTree × List ℕ)) → option_and_then (λ (x : MessageTree × List ℕ). only_if (are_terms terms) x.0 x.1) r ≡ None
    by_fields None = refl
    by_fields (Some x) = rw (other x.0) refl

-- the bytes of what is not too long begin with the list
has_list : (m : MessageTree) → tag_of m ≢ 2 → terms_bytes m ≡ list_bytes polynomial_bytes (terms_of m)
has_list (request j) n = refl
has_list (reply ticket kinds table derivations) n = refl
has_list (large ticket) n = absurd (n refl)

pub begins_listed : (tag number : ℕ) (bytes behind_list rest : List ℕ) (all terms : List Polynomial) (m : MessageTree) → tag ≢ 2 → bytes ≡ list_bytes polynomial_bytes all ++ behind_list
    → IsList IsPolynomialInRange any_number all → terms ≡ all → number ≡ 2 → AreFields (by_place terms) tag behind_list m rest → are_terms terms m ≡ true → BeginWith (tag ∷ 2 ∷ bytes) number m rest
begins_listed tag number bytes behind_list rest all terms m other first list same second fields own =
    let are : terms_of m ≡ all = (same_terms (terms_of m) terms).0 own ∙ same in
    let own_fields = fields_bytes (by_place (terms_of m)) m in
    let list_is : terms_bytes m ≡ list_bytes polynomial_bytes all = has_list m (λ e. other (sym fields.0 ∙ e)) ∙ ap (list_bytes polynomial_bytes) are in
    let first_is : bytes ≡ terms_bytes m ++ behind_list = first ∙ ap (λ b. b ++ behind_list) (sym list_is) in
    let next_is : behind_list ≡ own_fields ++ rest = subst (λ ts. behind_list ≡ fields_bytes (by_place ts) m ++ rest) (same ∙ sym are) fields.1 in
    let joined : bytes ≡ (terms_bytes m ++ own_fields) ++ rest = behind bytes (terms_bytes m) behind_list own_fields rest first_is next_is in
    let begins : BeginWith (tag ∷ 2 ∷ bytes) 2 m rest = (
      ap (λ t. t ∷ 2 ∷ bytes) (sym fields.0) ∙ ap (λ b. tag_of m ∷ 2 ∷ b) joined,
      from_terms (by_place terms) m fields.2 (subst (AllByRecursion in_full.fits) (sym are) list.2),
      inr (refl, subst (λ ts. IsU32 (length ts)) (sym are) list.0),
    ) in
    subst (λ n. BeginWith (tag ∷ 2 ∷ bytes) n m rest) (sym second) begins

-- a test that is true exactly where these are the terms
pub decided : (own : Bool) (m : MessageTree) (terms : List Polynomial) → (own ≡ true) ↔ (terms_of m ≡ terms) → own ≡ are_terms terms m
decided true m terms exact = sym ((same_terms (terms_of m) terms).1 (exact.0 refl))
decided false m terms exact = sym (false_from_ne_true (are_terms terms m) (λ e. let both : false ≡ true = exact.1 ((same_terms (terms_of m) terms).0 e) in absurd cc))

-- where there is no message in any version, there is none in version 1
pub fails_first : (e : WireFault) (bytes : List ℕ) → IsDecodedIn bytes (Err e) → IsDecoded bytes (Err e)
fails_first NotAMessage bytes none = none_first bytes none
fails_first NoMemory bytes none = tt

-- ---- the bytes behind the version

pub begins_full : (tag : ℕ) (bytes rest : List ℕ) (m : MessageTree) → AreFields in_full tag bytes m rest → BeginWith (tag ∷ 1 ∷ bytes) 1 m rest
begins_full tag bytes rest m fields = (ap (λ t. t ∷ 1 ∷ bytes) (sym fields.0) ∙ ap (λ b. tag_of m ∷ 1 ∷ b) fields.1, fields.2, inl refl)

pub begins_large : (bytes rest : List ℕ) (m : MessageTree) → AreFields in_full 2 bytes m rest → BeginWith (2 ∷ 2 ∷ bytes) 2 m rest
begins_large bytes rest (request j) fields = absurd (omega (arith, fields.0))
begins_large bytes rest (reply ticket kinds table derivations) fields = absurd (omega (arith, fields.0))
begins_large bytes rest (large ticket) fields = (ap (λ b. 2 ∷ 2 ∷ b) fields.1, fields.2, inr (refl, omega arith))
