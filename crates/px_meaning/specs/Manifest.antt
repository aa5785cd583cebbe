-- Bugs that every calling state can reach.
use Rattle.std.specs.Prelude.{List}
use Rattle.px_base.specs.declared.trace.Site.{Site}
use Rattle.px_base.specs.declared.trace.Mark.{Mark}
use Rattle.px_base.specs.declared.trace.Kind.{Kind}
use Rattle.px_meaning.specs.Values.{ValueType, BlockType, Value}
use Rattle.px_meaning.specs.Heaps.{HeapMap}
use Rattle.px_meaning.specs.Calls.{Calls, error, Failed, IsCallingState}

-- a memory error at a site, and the trace that ends in it
pub record Bug : Type 0 where
  pub kind : Kind
  pub site : Site
  pub trace : List Mark

-- from every calling state some call of the procedure has this trace and ends in this error
abbrev pub IsManifest : Calls → List BlockType → List ValueType → Bug → Type 0
IsManifest calls types parameters bug =
    (arguments : List Value) (heap : HeapMap) → IsCallingState types parameters arguments heap →
    (heap' : HeapMap) × calls arguments heap bug.trace (Failed (error bug.kind) bug.site) heap'
