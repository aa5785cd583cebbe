-- Polynomials that are kept, and those that are too long.
use Rattle.std.proofs.Common.{◌≡◌, inl, inr, length, get_or, Bool, true, false, nat_lt, ap, sym, ◌∙◌}
use Rattle.std.specs.List.{list_any}
use Rattle.std.proofs.lemmas.Bool.{lt-ltb, le-ltb, or_from, or_left, or_right}
use Rattle.std.proofs.lemmas.List.Folds.{list_any_none, list_any-from_Any}
use Rattle.px_terms.specs.Terms.{Term}
use Rattle.px_terms.specs.Polynomials.{Polynomial, IsWithinLimits, IsTooLong}
use Rattle.px_entry.specs.Sorts.{is_long}

abbrev is_of_high_degree : Term → Bool
is_of_high_degree t = nat_lt 4 (length t.vars)

pub kept_short : (p : Polynomial) → IsWithinLimits p → is_long p ≡ false
kept_short p h =
    or_from (nat_lt 16 (length p.monomials)) (list_any is_of_high_degree p.monomials) (le-ltb 16 (length p.monomials) h.monomials)
    (list_any_none is_of_high_degree p.monomials (λ k t l. le-ltb 4 (length (get_or p.monomials k t).vars) (h.degrees k t l)))

pub too_long : (p : Polynomial) → IsTooLong p → is_long p ≡ true
too_long p (inl h) = or_left (nat_lt 16 (length p.monomials)) (list_any is_of_high_degree p.monomials) (lt-ltb 16 (length p.monomials) h)
too_long p (inr h) =
    or_right (nat_lt 16 (length p.monomials)) (list_any is_of_high_degree p.monomials)
    (list_any-from_Any is_of_high_degree p.monomials (h.0, h.1, h.2, h.3, lt-ltb 4 (length h.1.vars) h.4))

pub is_kept : (p q : Polynomial) → p ≡ q → IsWithinLimits p → (p ≡ q) × (is_long q ≡ false)
is_kept p q e h = (e, ap is_long (sym e) ∙ kept_short p h)
