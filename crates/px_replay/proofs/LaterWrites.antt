-- What is written later holds.
use Rattle.std.proofs.Common.{◌≡◌, ℕ, nat_eq, cond, List, [], ◌∷◌, ◌++◌, refl, Option, Some}
use Rattle.px_meaning.specs.Values.{Value}
use Rattle.px_meaning.specs.Execution.{Locals, with_local}
use Rattle.px_replay.specs.declared.locals.Written.{Written}
use Rattle.px_meaning.specs.Heaps.{HeapMap, HeapBlock, with_block}
use Rattle.px_replay.specs.declared.heap.Block.{Block}
use Rattle.px_replay.specs.Replays.{heap_block, blocks_over}
use Rattle.px_replay.specs.Locals.{locals_over}

pub written_last : (l : Locals) (ws : List Written) (w : Written) → locals_over l (ws ++ w ∷ []) ≡ with_local (locals_over l ws) w.local w.value
written_last l [] w = refl
written_last l (v ∷ ws) w = written_last (with_local l v.local v.value) ws w

-- the value of one local after writes
abbrev pub value_over : ℕ → Value → List Written → Value
value_over n v [] = v
value_over n v (w ∷ ws) = value_over n (cond (nat_eq n w.local) w.value v) ws

pub one_local : (n : ℕ) (l : Locals) (ws : List Written) → locals_over l ws n ≡ value_over n (l n) ws
one_local n l [] = refl
one_local n l (w ∷ ws) = one_local n (with_local l w.local w.value) ws

pub block_last : (h : HeapMap) (bs : List Block) (b : Block) → blocks_over h (bs ++ b ∷ []) ≡ with_block (blocks_over h bs) b.number (heap_block b)
block_last h [] b = refl
block_last h (c ∷ bs) b = block_last (with_block h c.number (heap_block c)) bs b

-- one block after writes
abbrev pub block_over : ℕ → Option HeapBlock → List Block → Option HeapBlock
block_over n o [] = o
block_over n o (b ∷ bs) = block_over n (cond (nat_eq n b.number) (Some (heap_block b)) o) bs

pub one_block : (n : ℕ) (h : HeapMap) (bs : List Block) → blocks_over h bs n ≡ block_over n (h n) bs
one_block n h [] = refl
one_block n h (b ∷ bs) = one_block n (with_block h b.number (heap_block b)) bs
