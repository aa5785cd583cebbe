-- Conjuncts beside their numbers.
use Rattle.std.proofs.Common.{◌≡◌, ◌<◌, ◌+◌, ◌-◌, ℕ, Bool, true, false, ◌||◌, List, take, length, get_or, map, option_map, slice_get, refl, ap, sym, ◌∙◌}
use Rattle.std.specs.List.{list_any}
use Rattle.std.proofs.lemmas.List.{get_or-map, length-map}
use Rattle.std.proofs.lemmas.List.Folds.{list_any_more, list_any-from_Any}
use Rattle.std.proofs.lemmas.Option.{slice_get-map}
use Rattle.px_terms.specs.Monomials.{term_of}
use Rattle.px_terms.specs.declared.monomial.Monomial.{Monomial}
use Rattle.px_terms.specs.Polynomials.{Polynomial}
use Rattle.px_terms.specs.declared.conjuncts.Conj.{Conj}
use Rattle.px_entry.specs.Equality.{same_conjunct}
use Rattle.px_entry.proofs.TestLemmas.{tests_decide}
use Rattle.px_calls.specs.Keys.{key_of, word_key, first_variable}

-- the last monomial of a polynomial, as code reads it
pub last_read : (p : Polynomial) (ms : List (Monomial 4)) → map term_of ms ≡ p.monomials → first_variable (option_map term_of (slice_get ms (length ms - 1))) ≡ word_key p
last_read p ms e =
    ap first_variable (sym (slice_get-map term_of ms (length ms - 1)))
    ∙ ap (λ n. first_variable (slice_get (map term_of ms) (n - 1))) (sym (length-map ms (term_of {n = 4})))
    ∙ ap (λ ts. first_variable (slice_get ts (length ts - 1))) e

differ : (b : Bool) (c d : Conj) → same_conjunct c d ≡ b → (key_of c ≡ key_of d → ⊥) → b ≡ false
differ true c d e n = absurd (n (ap key_of ((tests_decide.equality c d).0 e)))
differ false c d e n = refl

-- conjuncts of different numbers aren't the same
pub other_key : (c d : Conj) (k l : ℕ) → k ≡ key_of c → l ≡ key_of d → (k ≡ l → ⊥) → false ≡ same_conjunct c d
other_key c d k l e f n = sym (differ (same_conjunct c d) c d refl (λ h. n (e ∙ h ∙ sym f)))

-- the number beside a conjunct
pub key_at : (all : List Conj) (keys : List ℕ) (i : ℕ) (c : Conj) → i < length all → keys ≡ map key_of all → c ≡ get_or all i c → get_or keys i 0 ≡ key_of c
key_at all keys i c h e f = ap (λ ks. get_or ks i 0) e ∙ get_or-map key_of all i c 0 h ∙ ap key_of (sym f)

pub one_found : (c d : Conj) (all : List Conj) (i : ℕ) (b : Bool) → i < length all → d ≡ get_or all i d → b ≡ same_conjunct c d → b ≡ true → true ≡ list_any (same_conjunct c) all
one_found c d all i b h e f t = sym (list_any-from_Any (same_conjunct c) all (i, d, h, sym e, sym f ∙ t))

pub none_more : (c d : Conj) (all : List Conj) (i : ℕ) (b : Bool) → i < length all → d ≡ get_or all i d → b ≡ same_conjunct c d → b ≡ false →
    list_any (same_conjunct c) (take i all) ≡ false → list_any (same_conjunct c) (take (i + 1) all) ≡ false
none_more c d all i b h e f t n =
    list_any_more (same_conjunct c) all i d h
    ∙ ap (λ z. z || same_conjunct c (get_or all i d)) n
    ∙ ap (same_conjunct c) (sym e) ∙ sym f ∙ t
