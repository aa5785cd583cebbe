-- Values, cells and heaps that are typed stay so.
use Rattle.std.proofs.Common.{◌≡◌, ℕ, zero, suc, ◌+◌, ◌≤◌, Bool, true, false, cond, nat_eq, Option, Some, None, List, [], ◌∷◌, map, slice_set, slice_get, refl, sym, ◌∙◌, subst, IsSomeAnd, arith}
use Rattle.std.specs.Prelude.{⊤, IsSome}
use Rattle.std.proofs.lemmas.Bool.{eqb-true, eq-eqb}
use Rattle.px_terms.specs.Types.{cell_types, types_of}
use Rattle.px_terms.specs.Valuations.{HasType}
use Rattle.px_terms.specs.declared.types.TypeId.{TypeId}
use Rattle.px_core.specs.declared.command.Operand.{Operand}
use Rattle.px_core.specs.declared.command.Operand.TheVariants as operand
use Rattle.px_meaning.specs.Values.{ValueType, Int, Pointer, BlockType, Value, Word, Null, Block, Unwritten}
use Rattle.px_meaning.specs.Heaps.{HeapMap, HeapBlock, HeapBlockState, Live, Freed, with_block, HasBlockType, IsWritten, AreWritten, IsCell, AreCells, IsBlockOf, IsWellTyped}
use Rattle.px_meaning.specs.Operations.{value_at, operand_value}
use Rattle.px_meaning.specs.CoreCalls.{first_slots}
use Rattle.px_meaning.specs.CoreTypes.{SlotTypes, IsOperandOf, AreOperandsOf}
use Rattle.px_meaning.specs.CoreLaws.{IsStill, Grows}

has_type_grows : {h i : HeapMap} → Grows h i → (t n : ℕ) → HasBlockType t (h n) → HasBlockType t (i n)
has_type_grows {h} {i} g t n p = at (h n) refl p
  where
    has : (b : HeapBlock) → b.block_type ≡ t → (o : Option HeapBlock) → IsSomeAnd o (IsStill b) → HasBlockType t o
    has b e None s = absurd s
    has b e (Some c) s = s.0 ∙ e

    at : (o : Option HeapBlock) → h n ≡ o → HasBlockType t o → HasBlockType t (i n)
    at None q p = absurd p
    at (Some b) q p = has b p (i n) (g.still n b q)

pub written_type : (heap : HeapMap) (t : ValueType) (v : Value) → IsWritten heap t v → HasType t v
written_type heap Int (Word z) h = h
written_type heap (Pointer t) Null h = tt
written_type heap (Pointer t) (Block n) h = tt
written_type heap Int Null h = absurd h
written_type heap Int (Block n) h = absurd h
written_type heap Int Unwritten h = absurd h
written_type heap (Pointer t) (Word z) h = absurd h
written_type heap (Pointer t) Unwritten h = absurd h

pub written_block : (heap : HeapMap) (t : ValueType) (v : Value) (n : ℕ) → IsWritten heap t v → v ≡ Block n → (b : TypeId) × (t ≡ Pointer b) × HasBlockType b.0 (heap n)
written_block heap Int v n h e = let k : IsWritten heap Int (Block n) = subst (IsWritten heap Int) e h in absurd k
written_block heap (Pointer t) v n h e = (t, refl, subst (IsWritten heap (Pointer t)) e h)

pub written_grows : {h i : HeapMap} → Grows h i → (t : ValueType) (v : Value) → IsWritten h t v → IsWritten i t v
written_grows g Int (Word z) p = p
written_grows g (Pointer t) Null p = p
written_grows g (Pointer t) (Block n) p = has_type_grows g t.0 n p
written_grows g Int Null p = absurd p
written_grows g Int (Block n) p = absurd p
written_grows g Int Unwritten p = absurd p
written_grows g (Pointer t) (Word z) p = absurd p
written_grows g (Pointer t) Unwritten p = absurd p

pub cell_grows : {h i : HeapMap} → Grows h i → (t : ValueType) (v : Value) → IsCell h t v → IsCell i t v
cell_grows g t Unwritten p = p
cell_grows g t (Word z) p = written_grows g t (Word z) p
cell_grows g t Null p = written_grows g t Null p
cell_grows g t (Block n) p = written_grows g t (Block n) p

pub written_cell : (h : HeapMap) (t : ValueType) (v : Value) → IsWritten h t v → IsCell h t v
written_cell h Int (Word z) p = p
written_cell h (Pointer t) Null p = p
written_cell h (Pointer t) (Block n) p = p
written_cell h Int Null p = absurd p
written_cell h Int (Block n) p = absurd p
written_cell h Int Unwritten p = absurd p
written_cell h (Pointer t) (Word z) p = absurd p
written_cell h (Pointer t) Unwritten p = absurd p

pub written_cells : (h : HeapMap) (ts : List ValueType) (vs : List Value) → AreWritten h ts vs → AreCells h ts vs
written_cells h [] [] p = p
written_cells h (t ∷ ts) (v ∷ vs) p = (written_cell h t v p.0, written_cells h ts vs p.1)
written_cells h [] (v ∷ vs) p = absurd p
written_cells h (t ∷ ts) [] p = absurd p

pub cells_grow : {h i : HeapMap} → Grows h i → (ts : List ValueType) (vs : List Value) → AreCells h ts vs → AreCells i ts vs
cells_grow g [] [] p = p
cells_grow g (t ∷ ts) (v ∷ vs) p = (cell_grows g t v p.0, cells_grow g ts vs p.1)
cells_grow g [] (v ∷ vs) p = absurd p
cells_grow g (t ∷ ts) [] p = absurd p

block_grows : {h i : HeapMap} → Grows h i → (o : Option BlockType) (s : HeapBlockState) → IsBlockOf h o s → IsBlockOf i o s
block_grows g None s p = absurd p
block_grows g (Some t) (Live cells) p = cells_grow g (cell_types t) cells p
block_grows g (Some t) Freed p = p

-- the cells of a live block, by their types
pub cells_of : (h : HeapMap) (o : Option BlockType) (cells : List Value) → IsBlockOf h o (Live cells) → AreCells h (types_of o) cells
cells_of h None cells p = absurd p
cells_of h (Some t) cells p = p

pub with_cells : (h : HeapMap) (o : Option BlockType) (cells new : List Value) → IsBlockOf h o (Live cells) → AreCells h (types_of o) new → IsBlockOf h o (Live new)
with_cells h None cells new p q = absurd p
with_cells h (Some t) cells new p q = q

pub freed_of : (h : HeapMap) (o : Option BlockType) (s : HeapBlockState) → IsBlockOf h o s → IsBlockOf h o Freed
freed_of h None s p = absurd p
freed_of h (Some t) s p = tt

unwritten_cells : (h : HeapMap) (ts : List ValueType) → AreCells h ts (map (λ _. Unwritten) ts)
unwritten_cells h [] = tt
unwritten_cells h (t ∷ ts) = (tt, unwritten_cells h ts)

pub new_cells : (h : HeapMap) (o : Option BlockType) → IsSome o → IsBlockOf h o (Live (map (λ _. Unwritten) (types_of o)))
new_cells h None p = let d : false ≡ true = p in cc
new_cells h (Some t) p = unwritten_cells h (cell_types t)

-- a cell that is read, and one that is written
pub cell_at : (h : HeapMap) (ts : List ValueType) (vs : List Value) (i : ℕ) (t : ValueType) → AreCells h ts vs → slice_get ts i ≡ Some t → IsCell h t (value_at vs i)
cell_at h [] [] i t p e = let d : None ≡ Some t = e in cc
cell_at h (u ∷ ts) (v ∷ vs) zero t p e = let d : Some u ≡ Some t = e in subst (λ o. of o) d p.0
  where
    of : Option ValueType → Type 0
    of None = ⊤
    of (Some t) = IsCell h t v
cell_at h (u ∷ ts) (v ∷ vs) (suc i) t p e = cell_at h ts vs i t p.1 e
cell_at h [] (v ∷ vs) i t p e = absurd p
cell_at h (u ∷ ts) [] i t p e = absurd p

pub cell_put : (h : HeapMap) (ts : List ValueType) (vs : List Value) (i : ℕ) (t : ValueType) (w : Value) → AreCells h ts vs → slice_get ts i ≡ Some t → IsCell h t w → AreCells h ts (slice_set vs i w)
cell_put h [] [] i t w p e q = p
cell_put h (u ∷ ts) (v ∷ vs) zero t w p e q = (let d : Some t ≡ Some u = sym e in subst (λ o. of o) d q, p.1)
  where
    of : Option ValueType → Type 0
    of None = ⊤
    of (Some t) = IsCell h t w
cell_put h (u ∷ ts) (v ∷ vs) (suc i) t w p e q = (p.0, cell_put h ts vs i t w p.1 e q)
cell_put h [] (v ∷ vs) i t w p e q = absurd p
cell_put h (u ∷ ts) [] i t w p e q = absurd p

-- a block put into a heap
pub typed_with : (types : List BlockType) (h : HeapMap) (n : ℕ) (c : HeapBlock) → IsWellTyped types h → Grows h (with_block h n c) →
    IsBlockOf h (slice_get types c.block_type) c.state → IsWellTyped types (with_block h n c)
typed_with types h n c well g fits = record {
  finite = (well.finite.0 + (n + 1), λ m above. none m above (nat_eq m n) refl);
  typed = λ m b e. at m b (nat_eq m n) e;
}
  where
    none : (m : ℕ) → well.finite.0 + (n + 1) ≤ m → (q : Bool) → nat_eq m n ≡ q → cond q (Some c) (h m) ≡ None
    none m above true q = let same : m ≡ n = eqb-true m n q in absurd (let d : suc m ≤ m = omega (arith, same) in omega (arith, d))
    none m above false q = well.finite.1 m (omega arith)

    at : (m : ℕ) (b : HeapBlock) (q : Bool) → cond q (Some c) (h m) ≡ Some b → IsBlockOf (with_block h n c) (slice_get types b.block_type) b.state
    at m b true e = block_grows g (slice_get types b.block_type) b.state (subst (λ o. of o) e fits)
      where
        of : Option HeapBlock → Type 0
        of None = ⊤
        of (Some b) = IsBlockOf h (slice_get types b.block_type) b.state
    at m b false e = block_grows g (slice_get types b.block_type) b.state (well.typed m b e)

-- the new block is there, of its type
pub put_type : (h : HeapMap) (n : ℕ) (c : HeapBlock) → HasBlockType c.block_type (with_block h n c n)
put_type h n c = subst (λ q. HasBlockType c.block_type (cond q (Some c) (h n))) (sym (eq-eqb n n refl)) refl

-- ---- slots

-- each slot has a value of its type, or nothing written
abbrev pub AreSlots : SlotTypes → HeapMap → List Value → Type 0
AreSlots slots h values = (n : ℕ) → IsCell h (slots n) (value_at values n)

pub slots_grow : {h i : HeapMap} → Grows h i → (slots : SlotTypes) (values : List Value) → AreSlots slots h values → AreSlots slots i values
slots_grow g slots values p n = cell_grows g (slots n) (value_at values n) (p n)

pub slots_put : (h : HeapMap) (slots : SlotTypes) (values : List Value) (i : ℕ) (v : Value) → AreSlots slots h values → IsCell h (slots i) v → AreSlots slots h (slice_set values i v)
slots_put h slots [] i v p q n = p n
slots_put h slots (w ∷ values) zero v p q zero = q
slots_put h slots (w ∷ values) zero v p q (suc n) = p (suc n)
slots_put h slots (w ∷ values) (suc i) v p q zero = p zero
slots_put h slots (w ∷ values) (suc i) v p q (suc n) = slots_put h (λ n. slots (suc n)) values i v (λ n. p (suc n)) q n

pub slots_first : (h : HeapMap) (slots : SlotTypes) (count : ℕ) (parameters : List ValueType) (arguments : List Value) → AreCells h parameters arguments →
    ((n : ℕ) (t : ValueType) → slice_get parameters n ≡ Some t → slots n ≡ t) → AreSlots slots h (first_slots count arguments)
slots_first h slots zero parameters arguments p q n = tt
slots_first h slots (suc c) parameters [] p q zero = tt
slots_first h slots (suc c) parameters [] p q (suc n) = slots_first h (λ n. slots (suc n)) c [] [] tt (λ n t e. let d : None ≡ Some t = e in cc) n
slots_first h slots (suc c) [] (a ∷ arguments) p q n = absurd p
slots_first h slots (suc c) (t ∷ ts) (a ∷ arguments) p q zero = subst (λ u. IsCell h u a) (sym (q zero t refl)) p.0
slots_first h slots (suc c) (t ∷ ts) (a ∷ arguments) p q (suc n) = slots_first h (λ n. slots (suc n)) c ts arguments p.1 (λ n u e. q (suc n) u e) n

pub operand_cell : (h : HeapMap) (slots : SlotTypes) (values : List Value) (t : ValueType) (a : Operand) → AreSlots slots h values → IsOperandOf slots t a → IsCell h t (operand_value values a)
operand_cell h slots values t (operand.Slot n) p q = subst (λ u. IsCell h u (value_at values n)) q (p n)
operand_cell h slots values t (operand.Word z) p q = subst (λ u. IsCell h u (Word z)) (sym q.0) q.1
operand_cell h slots values t operand.Null p q = subst (λ u. IsCell h u Null) (sym q.1) tt

pub operand_cells : (h : HeapMap) (slots : SlotTypes) (values : List Value) (ts : List ValueType) (as' : List Operand) → AreSlots slots h values → AreOperandsOf slots ts as' → AreCells h ts (map (operand_value values) as')
operand_cells h slots values [] [] p q = tt
operand_cells h slots values (t ∷ ts) (a ∷ rest) p q = (operand_cell h slots values t a p q.0, operand_cells h slots values ts rest p q.1)
operand_cells h slots values [] (a ∷ rest) p q = absurd q
operand_cells h slots values (t ∷ ts) [] p q = absurd q
