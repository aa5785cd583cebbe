-- Blocks that nothing reaches any more when a call has returned.
use Rattle.std.specs.Prelude.{◌≡◌, ◌≢◌, ◌⊎◌, ℕ, ◌≤◌, List, [], All, Contains, AllPairs, length, Some, None}
use Rattle.px_base.specs.declared.trace.Mark.{Mark}
use Rattle.px_meaning.specs.Values.{Value, Block, ValueType, BlockType}
use Rattle.px_meaning.specs.Heaps.{HeapMap, HeapBlock, HeapBlockState, Live, Freed}
use Rattle.px_meaning.specs.Calls.{Calls, Returned, IsCallingState}

-- the values in the cells of a block; a freed one has none
abbrev pub cells_of : HeapBlockState → List Value
cells_of (Live cells) = cells
cells_of Freed = []

-- what a caller holds after a call that returned a value: that value, and the blocks of the heap from which it called
abbrev pub IsHeld : HeapMap → Value → ℕ → Type 0
IsHeld before value n = (value ≡ Block n) ⊎ (before n ≢ None)

-- a block is reached in a heap from what is held, through pointers in cells
pub data IsReachedIn (heap : HeapMap) (Root : ℕ → Type 0) : ℕ → Type 0 where
  held : {n : ℕ} → Root n → IsReachedIn heap Root n
  through : {m n : ℕ} → (b : HeapBlock) → IsReachedIn heap Root m → heap m ≡ Some b → Contains (cells_of b.state) (Block n) → IsReachedIn heap Root n

-- a call has lost a block: it is a new one, is live, and isn't reached from what the caller holds
pub record IsLostIn (before : HeapMap) (value : Value) (after : HeapMap) (n : ℕ) : Type 0 where
  pub new : before n ≡ None
  pub block : HeapBlock
  pub cells : List Value
  pub there : after n ≡ Some block
  pub live : block.state ≡ Live cells
  pub unreached : ¬ IsReachedIn after (IsHeld before value) n

-- it has lost so many blocks, or more
pub record LosesIn (before : HeapMap) (value : Value) (after : HeapMap) (count : ℕ) : Type 0 where
  pub blocks : List ℕ
  pub many : count ≤ length blocks
  pub different : AllPairs (λ m n. m ≢ n) blocks
  pub lost : All (IsLostIn before value after) blocks

-- from every calling state some call of the procedure has this trace, returns, and has lost so many blocks
abbrev pub IsLeak : Calls → List BlockType → List ValueType → List Mark → ℕ → Type 0
IsLeak calls types parameters trace count =
    (arguments : List Value) (heap : HeapMap) → IsCallingState types parameters arguments heap →
    (value : Value) × (heap' : HeapMap) × calls arguments heap trace (Returned value) heap' × LosesIn heap value heap' count
