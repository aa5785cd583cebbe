-- Monomials in normal form, place by place.
use Rattle.std.specs.Prelude.{◌≡◌, ℕ, ◌-◌, ◌^◌, ◌<◌, List, [], slice_index_or}
use Rattle.std.specs.declared.cmp.Ordering.TheVariants.{Less}
use Rattle.px_terms.specs.Terms.{Term, key_cmp, HasOrderedVariables}

-- the term at a place
abbrev pub term_at : List Term → ℕ → Term
term_at ts i = slice_index_or ts i (record { coefficient = 0; vars = [] })

-- it has a coefficient other than 0 and variables in order, and stands after the term before it
pub record IsNormalAt (ts : List Term) (i : ℕ) : Type 0 where
  pub some : 0 < (term_at ts i).coefficient
  pub word : (term_at ts i).coefficient < 2 ^ 32
  pub variables : HasOrderedVariables (term_at ts i)
  pub behind : 0 < i → key_cmp (term_at ts (i - 1)).vars (term_at ts i).vars ≡ Less
