-- What asks nothing can be taken from every calling state, and what looks manifest is.
use Rattle.std.specs.Prelude.{◌≡◌, ◌↔◌, ℕ, true, List, length, Option}
use Rattle.px_base.specs.declared.trace.Site.{Site}
use Rattle.px_base.specs.declared.trace.Kind.{Kind}
use Rattle.px_terms.specs.Valuations.{Valuation}
use Rattle.px_entry.specs.declared.entries.Entry.{Entry}
use Rattle.px_entry.specs.declared.entries.Exit.TheVariants.{Error}
use Rattle.px_entry.specs.Regular.{IsRegular}
use Rattle.px_entry.specs.Standing.{ArePlaced}
use Rattle.px_entry.specs.Satisfied.{Satisfies, IsSatisfied}
use Rattle.px_meaning.specs.Values.{Value, ValueType, BlockType}
use Rattle.px_meaning.specs.Heaps.{HeapMap, join, AreApart}
use Rattle.px_meaning.specs.Calls.{Calls, IsCallingState}
use Rattle.px_meaning.specs.CoreCalls.{CoreProgram, CoreCalls}
use Rattle.px_meaning.specs.TypedProgram.{TypedProgram}
use Rattle.px_meaning.specs.TreeCalls.{TreeCalls}
use Rattle.px_meaning.specs.Triples.{heap_of, values_from, ending_of, IsValid}
use Rattle.px_meaning.specs.Manifest.{IsManifest}
use Rattle.px_manifest.specs.LooksManifest.{AsksNothing, LooksManifest, asks_nothing, looks_manifest}

-- the tests say so exactly of those that ask nothing, and of those that look manifest
pub record TestsDecide : Type 0 where
  pub asks : (x : Entry) → IsSatisfied x → asks_nothing x ≡ true ↔ AsksNothing x
  pub looks : (x : Entry) → IsSatisfied x → looks_manifest x ≡ true ↔ LooksManifest x

-- An entry of a procedure with n parameters is taken from a calling state: under values that it speaks of, of which the first
-- are the arguments, some call has its trace, ends as it says, and leaves the heap of `post` beside the calling heap.
pub record IsTakenFrom (calls : Calls) (n : ℕ) (x : Entry) (arguments : List Value) (heap : HeapMap) : Type 0 where
  pub values : Valuation
  pub satisfies : Satisfies values x
  pub given : values_from values 0 n ≡ arguments
  pub placed : ArePlaced values x.post
  pub apart : AreApart (heap_of values x.post) heap
  pub call : calls arguments heap x.trace (ending_of values x.exit x.result) (join (heap_of values x.post) heap)

-- By these calls of a procedure, each entry that asks nothing, where it is regular, a valid triple and true of its own values, is
-- taken from every calling state.
abbrev pub TakenFromAll : Calls → Type 0
TakenFromAll calls =
    (types : List BlockType) (parameters : List ValueType) (result : Option ValueType) (x : Entry) →
    IsRegular types parameters result x → IsValid calls (length parameters) x → IsSatisfied x → AsksNothing x →
    (arguments : List Value) (heap : HeapMap) → IsCallingState types parameters arguments heap → IsTakenFrom calls (length parameters) x arguments heap

-- By these calls of a procedure, each entry that looks manifest, where it is regular, a valid triple and true of its own
-- values, is a manifest bug: from every calling state some call has its trace and ends in its error.
abbrev pub LooksRight : Calls → Type 0
LooksRight calls =
    (types : List BlockType) (parameters : List ValueType) (result : Option ValueType) (x : Entry) (kind : Kind) (site : Site) →
    IsRegular types parameters result x → IsValid calls (length parameters) x → IsSatisfied x → LooksManifest x → x.exit ≡ Error kind site →
    IsManifest calls types parameters (record { kind = kind; site = site; trace = x.trace })

-- by the calls of every program of the core, and of every program of typed trees
pub record LooksAreRight : Type 0 where
  pub core : (P : CoreProgram) (f : ℕ) → LooksRight (CoreCalls P f)
  pub tree : (P : TypedProgram) (f : ℕ) → LooksRight (TreeCalls P f)

pub record AskingNothingIsTaken : Type 0 where
  pub core : (P : CoreProgram) (f : ℕ) → TakenFromAll (CoreCalls P f)
  pub tree : (P : TypedProgram) (f : ℕ) → TakenFromAll (TreeCalls P f)
