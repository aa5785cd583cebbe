-- What a replay does to the script that it follows, and the ways to put such acts together.
--
-- An act takes a script, and gives an answer and what is left of the script. The answer is a value, or says why the
-- replay goes no further: a memory error, or that the trace departs.
use Rattle.std.specs.Prelude.{◌≡◌, ◌⊎◌, ℕ, ℤ, pos, negsuc, ◌≤ℤ◌, Bool, true, false, List, ◌∷◌, Result, Ok, Err, ⊤}
use Rattle.px_base.specs.declared.trace.Site.{Site}
use Rattle.px_base.specs.declared.trace.Mark.{Mark}
use Rattle.px_base.specs.declared.trace.MarkKind.{MarkKind}
use Rattle.px_base.specs.declared.trace.MarkKind.TheVariants.{Got, NoBlock, Input}
use Rattle.px_meaning.specs.Values.{TypeId, BlockType, Value, Word, Null, Block}
use Rattle.px_meaning.specs.Heaps.{HeapMap, with_block}
use Rattle.px_meaning.specs.Events.{mark}
use Rattle.px_meaning.specs.Steps.{new_block, by_pointer}
use Rattle.px_replay.specs.declared.stop.Stop.{Stop}
use Rattle.px_replay.specs.declared.stop.Stop.TheVariants as stop
use Rattle.px_replay.specs.declared.script.Script.{Script}
use Rattle.px_replay.specs.Following.{IsLeast, IsTaken}
use Rattle.px_replay.specs.Replays.{heap_map}
use Rattle.px_replay.specs.Acts.{IsOther}

-- the marks and inputs that are still to be followed, and the heap so far
pub record PlainScript : Type 0 where
  pub marks : List Mark
  pub inputs : List ℤ
  pub heap : HeapMap

abbrev pub plain_script : Script → PlainScript
plain_script s = record { marks = s.marks.now; inputs = s.inputs.now; heap = heap_map s.heap }

abbrev pub Act : Type 0 → Type 1
Act A = PlainScript → Result A Stop → PlainScript → Type 0

-- the script after its first mark, with this heap
abbrev pub behind : PlainScript → List Mark → HeapMap → PlainScript
behind s rest heap = record { marks = rest; inputs = s.inputs; heap = heap }

-- ---- acts in general

-- an answer at once
abbrev pub answers : {A : Type 0} → Result A Stop → Act A
answers x s r s' = (r ≡ x) × (s' ≡ s)

-- on with a value, and else the end
abbrev pub goes_on : {A B : Type 0} → (A → Act B) → Result A Stop → Act B
goes_on on (Ok x) s r s' = on x s r s'
goes_on on (Err e) s r s' = answers (Err e) s r s'

-- one act, and another that has its value
abbrev pub and_then : {A B : Type 0} → Act A → (A → Act B) → Act B
and_then {A} {B} first on s r s' = (r1 : Result A Stop) × (s1 : PlainScript) × first s r1 s1 × goes_on on r1 s1 r s'

abbrev pub either_act : {A : Type 0} → Bool → Act A → Act A → Act A
either_act true first second s r s' = first s r s'
either_act false first second s r s' = second s r s'

-- ---- what takes something of the script

-- the next mark is this one, and after it comes an act
abbrev pub marked : {A : Type 0} → MarkKind → Site → Act A → Act A
marked kind site on s r s' =
    ((rest : List Mark) × (s.marks ≡ mark kind site ∷ rest) × on (behind s rest s.heap) r s')
    ⊎ (IsOther (mark kind site) s.marks × answers (Err stop.Departs) s r s')

-- the next input, where its mark is the next: a byte, or -1 at the end (C17 7.21.7.6)
abbrev pub HasInput : Site → PlainScript → PlainScript → ℤ → Type 0
HasInput site s s' z =
    (s.marks ≡ mark Input site ∷ s'.marks) × (s.inputs ≡ z ∷ s'.inputs) × (s'.heap ≡ s.heap) × (negsuc 0 ≤ℤ z) × (z ≤ℤ pos 255)

abbrev pub takes_input : Site → Act Value
takes_input site s r s' =
    ((z : ℤ) × HasInput site s s' z × (r ≡ Ok (Word z)))
    ⊎ (((z : ℤ) (t : PlainScript) → HasInput site s t z → ⊥) × answers (Err stop.Departs) s r s')

-- null or a new block, as the next mark says; its number is the least outside the heap
abbrev pub allocates : List BlockType → TypeId → Site → Act Value
allocates types t site s r s' =
    ((rest : List Mark) × (s.marks ≡ mark NoBlock site ∷ rest) × answers (Ok Null) (behind s rest s.heap) r s')
    ⊎ (((rest : List Mark) × (n : ℕ) × (s.marks ≡ mark Got site ∷ rest) × IsLeast (IsTaken s.heap) n
    × answers (Ok (Block n)) (behind s rest (with_block s.heap n (new_block types t.0))) r s')
    ⊎ (IsOther (mark NoBlock site) s.marks × IsOther (mark Got site) s.marks × answers (Err stop.Departs) s r s'))

-- by what a pointer to blocks of this type leads to; a value that is none departs
abbrev pub at_pointer : {A : Type 0} → ℕ → Value → Act A → Act A → (ℕ → List Value → Act A) → Act A
at_pointer block_type p null freed live s r s' =
    by_pointer s.heap block_type p (null s r s') (freed s r s') (λ n cells. live n cells s r s')
    ⊎ ((by_pointer s.heap block_type p ⊤ ⊤ (λ n cells. ⊤) → ⊥) × answers (Err stop.Departs) s r s')

-- the heap is this one from now on
abbrev pub with_heap : {A : Type 0} → HeapMap → Act A → Act A
with_heap heap on s r s' = on (behind s s.marks heap) r s'

-- ---- what code does

-- a fact of an answer, unless memory ran out
abbrev pub UnlessMemory : {A : Type 0} → Result A Stop → Type 0 → Type 0
UnlessMemory (Ok x) fact = fact
UnlessMemory (Err stop.Departs) fact = fact
UnlessMemory (Err (stop.Failed kind site)) fact = fact
UnlessMemory (Err stop.NoMemory) fact = ⊤
