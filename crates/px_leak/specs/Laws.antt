-- What leaks are.
use Rattle.std.specs.Prelude.{◌≡◌, ◌↔◌, ℕ, true, List, All, Contains, length, Option, Some, slice_get}
use Rattle.px_entry.specs.declared.entries.Entry.{Entry}
use Rattle.px_entry.specs.declared.tables.Gap.{Gap}
use Rattle.px_entry.specs.Regular.{IsRegular}
use Rattle.px_entry.specs.Satisfied.{IsSatisfied}
use Rattle.px_meaning.specs.Values.{ValueType, BlockType}
use Rattle.px_meaning.specs.Calls.{Calls}
use Rattle.px_meaning.specs.CoreCalls.{CoreProgram, CoreCalls}
use Rattle.px_meaning.specs.TypedProgram.{TypedProgram}
use Rattle.px_meaning.specs.TreeCalls.{TreeCalls}
use Rattle.px_meaning.specs.Triples.{IsValid}
use Rattle.px_text_report.specs.Known.{Known, tabled}
use Rattle.px_leak.specs.declared.got.GotBlock.{GotBlock}
use Rattle.px_leak.specs.declared.told.Leak.{Leak}
use Rattle.px_leak.specs.Reached.{IsReached, is_reached}
use Rattle.px_leak.specs.Losses.{got_blocks, IsLost, lost_blocks}
use Rattle.px_leak.specs.Leaks.{leak_of, all_leaks}
use Rattle.px_leak.specs.Unreached.{IsLeak}

-- the test of what is reached is exact; and an entry that is true of its own values has just those of its blocks among the lost
-- ones that it loses
pub record LossesAreExact : Type 0 where
  pub reached : (x : Entry) (y : ℕ) → is_reached x y ≡ true ↔ IsReached x y
  pub lost : (x : Entry) → IsSatisfied x → (g : GotBlock) → Contains (lost_blocks x) g ↔ (Contains (got_blocks x) g × IsLost x g.place)

-- a leak is that of an entry in the table of the procedure with this number, at the site of a block that it loses
pub record HasLeakAt (parts : List Known) (n : ℕ) (l : Leak) : Type 0 where
  pub entries : List Entry
  pub drops : List Gap
  pub table : slice_get parts n ≡ Some (tabled entries drops)
  pub entry : Entry
  pub within : Contains entries entry
  pub block : GotBlock
  pub loses : Contains (lost_blocks entry) block
  pub is : l ≡ leak_of entry block

-- each leak that is told is one
abbrev pub LeaksAreOfEntries : Type 0
LeaksAreOfEntries = (parts : List Known) → All (λ l. (n : ℕ) × HasLeakAt parts n l) (all_leaks parts)

-- By these calls of a procedure, the leak of each entry that loses a block is one, where the entry is regular, a valid triple and
-- true of its own values: from every calling state some call has its trace, returns, and has lost as many blocks as are told.
abbrev pub LeaksRight : Calls → Type 0
LeaksRight calls =
    (types : List BlockType) (parameters : List ValueType) (result : Option ValueType) (x : Entry) (g : GotBlock) →
    IsRegular types parameters result x → IsValid calls (length parameters) x → IsSatisfied x → Contains (lost_blocks x) g →
    IsLeak calls types parameters x.trace (leak_of x g).blocks

-- by the calls of every program of the core, and of every program of typed trees
pub record LeaksAreRight : Type 0 where
  pub core : (P : CoreProgram) (f : ℕ) → LeaksRight (CoreCalls P f)
  pub tree : (P : TypedProgram) (f : ℕ) → LeaksRight (TreeCalls P f)
