-- Which valuations an entry speaks of, and its own values.
use Rattle.std.specs.Prelude.{◌≡◌, All, length}
use Rattle.px_terms.specs.Valuations.{Valuation, valuation_of, Fits}
use Rattle.px_terms.specs.Conjuncts.{IsTrueUnder}
use Rattle.px_entry.specs.declared.entries.Entry.{Entry}
use Rattle.px_entry.specs.Constraint.{constraint_of}

-- a valuation fits the entry's variables and makes its constraint true
pub record Satisfies (v : Valuation) (x : Entry) : Type 0 where
  pub fits : Fits x.vars v
  pub true_of : All (IsTrueUnder v) (constraint_of x.vars x.pure x.post)

-- the entry's own values do, one for each variable
pub record IsSatisfied (x : Entry) : Type 0 where
  pub size : length x.model ≡ length x.vars
  pub values : Satisfies (valuation_of x.model) x
