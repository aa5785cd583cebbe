-- That values satisfy an entry has at most one proof.
use Rattle.std.specs.Coded.{Coded-set, codes, le_prop}
use native.Mathlib.Nat.{ℕ_set}
use Rattle.px_terms.specs.Valuations.{IsBlock, HasType, FitsSort}
use Rattle.px_terms.specs.declared.types.TypeId.{TypeId}
use Rattle.px_terms.specs.declared.types.ValueType.{ValueType}
use Rattle.px_terms.specs.declared.types.ValueType.TheVariants.{Int, Pointer}
use Rattle.px_terms.specs.declared.types.Value.{Value}
use Rattle.px_terms.specs.declared.types.Value.TheVariants as value
use Rattle.px_terms.specs.declared.variables.Sort.{Sort}
use Rattle.px_terms.specs.declared.variables.Sort.TheVariants as sort
use Rattle.px_terms.specs.declared.conjuncts.Conj.TheVariants as conjunct
use Rattle.px_entry.specs.declared.entries.Entry.{Entry}
use Rattle.px_entry.specs.Satisfied.{IsSatisfied}
use Rattle.px_terms.proofs.TruthProps.{is_place, true_prop}

value_set : IsSet Value
value_set = Coded-set (hlevel codes)

type_set : IsSet TypeId
type_set = Coded-set (hlevel codes)

block_once : (u : Value) → IsProp (IsBlock u)
block_once (value.Word z) = hlevel
block_once value.Null = hlevel
block_once (value.Block n) = hlevel
block_once value.Unwritten = hlevel

type_once : (t : ValueType) (u : Value) → IsProp (HasType t u)
type_once Int (value.Word z) = hlevel le_prop
type_once Int value.Null = hlevel
type_once Int (value.Block n) = hlevel
type_once Int value.Unwritten = hlevel
type_once (Pointer t) u = is_place u

sort_once : (s : Sort) (t : ValueType) (u : Value) → IsProp (FitsSort s t u)
sort_once sort.Given t u = type_once t u
sort_once sort.Cell t value.Unwritten = hlevel
sort_once sort.Cell t (value.Word z) = type_once t (value.Word z)
sort_once sort.Cell t value.Null = type_once t value.Null
sort_once sort.Cell t (value.Block n) = type_once t (value.Block n)
sort_once sort.Input t u = type_once t u
sort_once sort.Made t u = hlevel (type_once, block_once)

pub satisfied_once : (x : Entry) → IsProp (IsSatisfied x)
satisfied_once x = hlevel (ℕ_set, sort_once, true_prop, type_set)
