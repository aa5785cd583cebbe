-- Whether one way is listed.
use Rattle.std.specs.Prelude.{Bool, false, ◌&&◌, ◌||◌, nat_eq, List, slice_get}
use Rattle.std.specs.List.{list_any}
use Rattle.px_terms.specs.declared.types.TypeId.{TypeId}
use Rattle.px_terms.specs.declared.variables.VarInfo.{VarInfo}
use Rattle.px_terms.specs.declared.conjuncts.Content.{Content}
use Rattle.px_terms.specs.declared.conjuncts.Place.{Place}
use Rattle.px_terms.specs.declared.conjuncts.Place.TheVariants as place
use Rattle.px_terms.specs.declared.conjuncts.Conj.TheVariants.{Equal, Unequal, SamePlace}
use Rattle.px_terms.specs.Polynomials.{Polynomial}
use Rattle.px_core.specs.declared.command.Comparison.{Comparison}
use Rattle.px_entry.specs.declared.atoms.Atom.{Atom}
use Rattle.px_entry.specs.Sorts.{is_some_and, is_long, is_int_polynomial}
use Rattle.px_entry.specs.Decided.{is_open}
use Rattle.px_entry.specs.Cases.{may_be_at, may_be_missing}
use Rattle.px_callgraph.specs.declared.states.State.{State}
use Rattle.px_callgraph.specs.declared.states.Way.{Way}
use Rattle.px_callgraph.specs.declared.states.Way.TheVariants as way
use Rattle.px_callgraph.specs.Operations.{condition, contrary}
use Rattle.px_callgraph.specs.Derivations.{same_way}

-- a way is among these
abbrev pub lists : List Way → Way → Bool
lists listed name = list_any (same_way name) listed

-- an outcome that a test of two contents may have
abbrev pub is_outcome : List VarInfo → Comparison → Content → Content → Way → Bool
is_outcome vars how a b way.Then = is_some_and (condition how a b) (is_open vars)
is_outcome vars how a b way.Else = is_some_and (contrary how a b) (is_open vars)
is_outcome vars how a b _ = false

-- where a division of two words may lead
abbrev pub is_quotient : List VarInfo → Polynomial → Polynomial → Way → Bool
is_quotient vars p q way.ByZero = is_open vars (Equal q)
is_quotient vars p q way.Divided = is_open vars (Unequal q) && (is_long p || is_int_polynomial vars p)
is_quotient vars p q _ = false

-- where an access to a block of a type through a place may lead
abbrev pub is_access : State → TypeId → Place → Way → Bool
is_access s block p way.Null = is_open s.vars (SamePlace p place.Null)
is_access s block p (way.Atom n) = is_some_and (slice_get s.atoms n) (λ (a : Atom). nat_eq a.block.0 block.0 && may_be_at s.vars p a)
is_access s block p way.MissingLive = may_be_missing s.vars p
is_access s block p way.MissingFreed = may_be_missing s.vars p
is_access s block p _ = false
