-- Two steps from one state are the same step, where one can't be seen to differ from the other.
use Rattle.std.proofs.Common.{◌≡◌, ℕ, Option, Some, None, List, [], ◌∷◌, ◌++◌, map, slice_set, refl, sym, ap, ap₂, ◌∙◌, inl, inr, ℤ, pos, IsSomeAnd, append_assoc}
use Rattle.std.proofs.lemmas.List.{append_cancel_left}
use Rattle.std.specs.Int.Signed.{clash_ℤ}
use Rattle.px_base.specs.declared.trace.Site.{Site}
use Rattle.px_base.specs.declared.trace.ProcId.{ProcId}
use Rattle.px_base.specs.declared.trace.MarkKind.TheVariants.{Done, NoBlock, Access, Freed, FreeNull, Enter, Leave}
use Rattle.px_base.specs.declared.trace.Kind.TheVariants.{NullDereference, UseAfterFree, DoubleFree, UninitialisedRead}
use Rattle.px_core.specs.declared.command.Comparison.{Comparison}
use Rattle.px_core.specs.declared.command.Comparison.TheVariants.{Equal, Unequal, Less, AtMost, SamePlace, OtherPlace}
use Rattle.px_core.specs.CommandTree.{CommandTree, assign, unset, read, test, choose, loop, leave, load, store, malloc, free, input, call, return, break, continue, stop, divide}
use Rattle.px_meaning.specs.Values.{Value, BlockType, Word, Null, Block, Unwritten}
use Rattle.px_meaning.specs.Heaps.{HeapMap, HeapBlockState, with_block}
use Rattle.px_meaning.specs.Heaps as heap
use Rattle.px_meaning.specs.Calls.{Halt, error, Ending, Returned, Failed}
use Rattle.px_meaning.specs.Events.{Event, marks, reads, makes, mark}
use Rattle.px_core.specs.Control.{Item, Act, AfterHead, AfterBody, AfterStep, leave_to, break_to, continue_to}
use Rattle.px_meaning.specs.Operations.{value_at, operand_value, on_words, quotient, result_of, Holds, Fails}
use Rattle.px_meaning.specs.Steps.{Next, Goes, Ends, Goal, ProcedureCalls, marking, fails, by_state, by_pointer, by_written, new_block, live_block, freed_block, keep_result, comes_back, divides, command, step}

pub equal_unequal : (a b : Value) → Holds Equal a b → Holds Unequal a b → ⊥
equal_unequal (Word x) (Word y) h f = f h
equal_unequal Null Null h f = absurd h
equal_unequal (Block m) Null h f = absurd h
equal_unequal _ _ h f = absurd h

pub less_at_most : (a b : Value) → Holds Less a b → Holds AtMost b a → ⊥
less_at_most (Word x) (Word y) h f = clash_ℤ h f
less_at_most Null Null h f = absurd h
less_at_most (Block m) Null h f = absurd h
less_at_most _ _ h f = absurd h

pub same_other : (a b : Value) → Holds SamePlace a b → Holds OtherPlace a b → ⊥
same_other (Word x) (Word y) h f = absurd h
same_other Null Null h f = f h
same_other Null (Block n) h f = f h
same_other (Block m) Null h f = f h
same_other (Block m) (Block n) h f = f h
same_other _ _ h f = absurd h

-- a comparison isn't both true and false
not_both : (how : Comparison) (a b : Value) → Holds how a b → Fails how a b → ⊥
not_both Equal a b h f = equal_unequal a b h f
not_both Unequal a b h f = equal_unequal a b f h
not_both Less a b h f = less_at_most a b h f
not_both AtMost a b h f = less_at_most b a f h
not_both SamePlace a b h f = same_other a b h f
not_both OtherPlace a b h f = same_other a b f h

abbrev see : Event → Event
see e = e

-- of two steps from one state, what they are seen as and lead to; where both go on in the same way they are one
abbrev pub Alike : Goal Event → Goal Event → Type 0
Alike K L = (a : List Event) × (b : List Event) × (x : Next) × (y : Next) × K a x × L b y
    × ((p q : List Event) → a ++ p ≡ b ++ q → (a ≡ b) × (p ≡ q) × (x ≡ y))

-- two calls of one procedure from one state are one, where both go on in the same way
abbrev pub Agree : ProcedureCalls Event → ProcedureCalls Event → Type 0
Agree C D = (f : ℕ) (arguments : List Value) (heap : HeapMap) (s t : List Event) (d e : Ending) (m n : HeapMap) →
    C f arguments heap s d m → D f arguments heap t e n → (p q : List Event) → s ++ p ≡ t ++ q → (s ≡ t) × (p ≡ q) × (d ≡ e) × (m ≡ n)

abbrev pub first_or : Event → List Event → Event
first_or e [] = e
first_or e (a ∷ more) = a

abbrev pub rest_of : List Event → List Event
rest_of [] = []
rest_of (a ∷ more) = more

abbrev pub number_in : Event → ℕ
number_in (marks m) = 0
number_in (reads site z) = 0
number_in (makes site n) = n

abbrev pub input_in : Event → ℤ
input_in (marks m) = pos 0
input_in (reads site z) = z
input_in (makes site n) = pos 0

abbrev pub returned : Value → Ending → Value
returned v (Returned w) = w
returned v (Failed kind at) = v

module _ (types : List BlockType) (C D : ProcedureCalls Event) (agree : Agree C D) (K L : Goal Event) where
  sure : (a : List Event) (x : Next) → K a x → L a x → Alike K L
  sure a x h k = (a, a, x, x, h, k, λ p q e. (refl, append_cancel_left a p q e, refl))

  some_pair : {A : Type 0} (o : Option A) (P Q : A → Type 0) → ((a : A) → P a → Q a → Alike K L) → IsSomeAnd o P → IsSomeAnd o Q → Alike K L
  some_pair None P Q f h k = absurd h
  some_pair (Some a) P Q f h k = f a h k

  written_pair : (v : Value) (X X' Y Y' : Type 0) → (X → X' → Alike K L) → (Y → Y' → Alike K L) → by_written v X Y → by_written v X' Y' → Alike K L
  written_pair (Word z) X X' Y Y' f g h k = f h k
  written_pair Null X X' Y Y' f g h k = f h k
  written_pair (Block n) X X' Y Y' f g h k = f h k
  written_pair Unwritten X X' Y Y' f g h k = g h k

  state_pair : (s : HeapBlockState) (F F' : Type 0) (G G' : List Value → Type 0) → (F → F' → Alike K L) → ((cells : List Value) → G cells → G' cells → Alike K L) →
      by_state s F G → by_state s F' G' → Alike K L
  state_pair (heap.Live cells) F F' G G' f g h k = g cells h k
  state_pair heap.Freed F F' G G' f g h k = f h k

  pointer_pair : (heap : HeapMap) (t : ℕ) (v : Value) (N N' F F' : Type 0) (G G' : ℕ → List Value → Type 0) →
      (N → N' → Alike K L) → (F → F' → Alike K L) → ((n : ℕ) (cells : List Value) → G n cells → G' n cells → Alike K L) →
      by_pointer heap t v N F G → by_pointer heap t v N' F' G' → Alike K L
  pointer_pair heap t (Word z) N N' F F' G G' n f g h k = absurd h
  pointer_pair heap t Null N N' F F' G G' n f g h k = n h k
  pointer_pair heap t (Block b) N N' F F' G G' n f g h k =
      some_pair (heap b) (λ c. (c.block_type ≡ t) × by_state c.state F (G b)) (λ c. (c.block_type ≡ t) × by_state c.state F' (G' b))
      (λ c h k. state_pair c.state F F' (G b) (G' b) f (g b) h.1 k.1) h k
  pointer_pair heap t Unwritten N N' F F' G G' n f g h k = absurd h

  back_pair : (proc : ProcId) (to : Option ℕ) (site : Site) (k : List Item) (slots : List Value) (s t : List Event) (m n : HeapMap) (d e : Ending) →
      ((p q : List Event) → s ++ p ≡ t ++ q → (s ≡ t) × (p ≡ q) × (d ≡ e) × (m ≡ n)) →
      comes_back see proc to site k slots s m K d → comes_back see proc to site k slots t n L e → Alike K L
  back_pair proc to site k slots s t m n (Returned v) (Returned w) same h h' = (
    _,
    _,
    _,
    _,
    h,
    h',
    λ p q e.
        let (st, pq, vw, mn) = same (marks (mark Leave site) ∷ p) (marks (mark Leave site) ∷ q)
        (sym (append_assoc s (marks (mark Leave site) ∷ []) p) ∙ (ap rest_of e ∙ append_assoc t (marks (mark Leave site) ∷ []) q)) in (
          ap (λ r. marks (mark (Enter proc) site) ∷ (r ++ (marks (mark Leave site) ∷ []))) st,
          ap rest_of pq,
          ap₂ (λ r h. Goes k (keep_result to slots r) h) (ap (returned v) vw) mn,
        ),
  )
  back_pair proc to site k slots s t m n (Failed kind at) (Failed kind' at') same h h' = (
    _,
    _,
    _,
    _,
    h,
    h',
    λ p q e.
        let (st, pq, de, mn) = same p q (ap rest_of e) in
        (ap (λ r. marks (mark (Enter proc) site) ∷ r) st, pq, ap₂ (λ e h. Ends e h) de mn),
  )
  back_pair proc to site k slots s t m n (Returned v) (Failed kind at) same h h' = (
    _,
    _,
    _,
    _,
    h,
    h',
    λ p q e.
        let (st, pq, de, mn) = same (marks (mark Leave site) ∷ p) q (sym (append_assoc s (marks (mark Leave site) ∷ []) p) ∙ ap rest_of e) in
        absurd (different v kind at de),
  )
    where
      different : (v : Value) (kind : Halt) (at : Site) → Returned v ≡ Failed kind at → ⊥
      different v kind at e = cc
  back_pair proc to site k slots s t m n (Failed kind at) (Returned v) same h h' = (
    _,
    _,
    _,
    _,
    h,
    h',
    λ p q e.
        let (st, pq, de, mn) = same p (marks (mark Leave site) ∷ q) (ap rest_of e ∙ append_assoc t (marks (mark Leave site) ∷ []) q) in
        absurd (different v kind at de),
  )
    where
      different : (v : Value) (kind : Halt) (at : Site) → Failed kind at ≡ Returned v → ⊥
      different v kind at e = cc

  branches : (v : Value) → v ≡ Word (pos 1) → v ≡ Word (pos 0) → ⊥
  branches v e e' = let h : Word (pos 1) ≡ Word (pos 0) = sym e ∙ e' in cc

  command_pair : (c : CommandTree) (k : List Item) (slots : List Value) (heap : HeapMap) → command see types C c k slots heap K → command see types D c k slots heap L → Alike K L
  command_pair (assign to op a b) k slots heap h h' =
      some_pair (result_of op (operand_value slots a) (operand_value slots b)) (λ v. K [] (Goes k (slice_set slots to v) heap)) (λ v. L [] (Goes k (slice_set slots to v) heap)) (λ v. sure _ _) h h'
  command_pair (unset to) k slots heap h h' = sure _ _ h h'
  command_pair (read slot site) k slots heap h h' =
      written_pair (value_at slots slot) (K [] (Goes k slots heap)) (L [] (Goes k slots heap)) (K [] (fails (error UninitialisedRead) site heap)) (L [] (fails (error UninitialisedRead) site heap)) (sure _ _) (sure _ _) h h'
  command_pair (test to how a b site) k slots heap (inl h) (inl h') = sure _ _ h.1 h'.1
  command_pair (test to how a b site) k slots heap (inr h) (inr h') = sure _ _ h.1 h'.1
  command_pair (test to how a b site) k slots heap (inl h) (inr h') = absurd (not_both how (operand_value slots a) (operand_value slots b) h.0 h'.0)
  command_pair (test to how a b site) k slots heap (inr h) (inl h') = absurd (not_both how (operand_value slots a) (operand_value slots b) h'.0 h.0)
  command_pair (choose slot first second) k slots heap (inl h) (inl h') = sure _ _ h.1 h'.1
  command_pair (choose slot first second) k slots heap (inr h) (inr h') = sure _ _ h.1 h'.1
  command_pair (choose slot first second) k slots heap (inl h) (inr h') = absurd (branches (value_at slots slot) h.0 h'.0)
  command_pair (choose slot first second) k slots heap (inr h) (inl h') = absurd (branches (value_at slots slot) h'.0 h.0)
  command_pair (loop site head body step) k slots heap h h' = sure _ _ h h'
  command_pair leave k slots heap h h' =
      some_pair (leave_to k) (λ p. K (marking see Done p.0.site) (Goes p.1 slots heap)) (λ p. L (marking see Done p.0.site) (Goes p.1 slots heap)) (λ p. sure _ _) h h'
  command_pair (load to at field block site) k slots heap h h' =
      pointer_pair heap block.0 (operand_value slots at)
      (K (marking see Access site) (fails (error NullDereference) site heap)) (L (marking see Access site) (fails (error NullDereference) site heap))
      (K (marking see Access site) (fails (error UseAfterFree) site heap)) (L (marking see Access site) (fails (error UseAfterFree) site heap))
      (λ n cells. K (marking see Access site) (Goes k (slice_set slots to (value_at cells field.0)) heap))
      (λ n cells. L (marking see Access site) (Goes k (slice_set slots to (value_at cells field.0)) heap))
      (sure _ _) (sure _ _) (λ n cells. sure _ _) h h'
  command_pair (store at field block from site) k slots heap h h' =
      pointer_pair heap block.0 (operand_value slots at)
      (K (marking see Access site) (fails (error NullDereference) site heap)) (L (marking see Access site) (fails (error NullDereference) site heap))
      (K (marking see Access site) (fails (error UseAfterFree) site heap)) (L (marking see Access site) (fails (error UseAfterFree) site heap))
      (λ n cells. K (marking see Access site) (Goes k slots (with_block heap n (live_block block.0 (slice_set cells field.0 (operand_value slots from))))))
      (λ n cells. L (marking see Access site) (Goes k slots (with_block heap n (live_block block.0 (slice_set cells field.0 (operand_value slots from))))))
      (sure _ _) (sure _ _) (λ n cells. sure _ _) h h'
  command_pair (malloc to block site) k slots heap (inl h) (inl h') = sure _ _ h h'
  command_pair (malloc to block site) k slots heap (inl h) (inr (n, out, h')) =
      (_, _, _, _, h, h', λ p q e. let d : marks (mark NoBlock site) ≡ makes site n = ap (first_or (makes site n)) e in cc)
  command_pair (malloc to block site) k slots heap (inr (n, out, h)) (inl h') =
      (_, _, _, _, h, h', λ p q e. let d : makes site n ≡ marks (mark NoBlock site) = ap (first_or (makes site n)) e in cc)
  command_pair (malloc to block site) k slots heap (inr (m, out, h)) (inr (n, out', h')) = (
    _,
    _,
    _,
    _,
    h,
    h',
    λ p q e. let d : m ≡ n = ap (λ es. number_in (first_or (makes site m) es)) e in
        (ap (λ i. makes site i ∷ []) d, ap rest_of e, ap (λ i. Goes k (slice_set slots to (Block i)) (with_block heap i (new_block types block.0))) d),
  )
  command_pair (free at block site) k slots heap h h' =
      pointer_pair heap block.0 (operand_value slots at)
      (K (marking see FreeNull site) (Goes k slots heap)) (L (marking see FreeNull site) (Goes k slots heap))
      (K (marking see Freed site) (fails (error DoubleFree) site heap)) (L (marking see Freed site) (fails (error DoubleFree) site heap))
      (λ n cells. K (marking see Freed site) (Goes k slots (with_block heap n (freed_block block.0))))
      (λ n cells. L (marking see Freed site) (Goes k slots (with_block heap n (freed_block block.0))))
      (sure _ _) (sure _ _) (λ n cells. sure _ _) h h'
  command_pair (input to site) k slots heap (y, low, high, h) (z, low', high', h') = (
    _,
    _,
    _,
    _,
    h,
    h',
    λ p q e. let d : y ≡ z = ap (λ es. input_in (first_or (reads site y) es)) e in
        (ap (λ i. reads site i ∷ []) d, ap rest_of e, ap (λ i. Goes k (slice_set slots to (Word i)) heap) d),
  )
  command_pair (call to proc arguments site) k slots heap (_, (s, d, m, c, h)) (_, (t, e, n, c', h')) =
      back_pair proc to site k slots s t m n d e (agree proc.0 (map (operand_value slots) arguments) heap s t d e m n c c') h h'
  command_pair (return from) k slots heap h h' = sure _ _ h h'
  command_pair break k slots heap h h' =
      some_pair (break_to k) (λ p. K [] (Goes p slots heap)) (λ p. L [] (Goes p slots heap)) (λ p. sure _ _) h h'
  command_pair continue k slots heap h h' =
      some_pair (continue_to k) (λ p. K [] (Goes p slots heap)) (λ p. L [] (Goes p slots heap)) (λ p. sure _ _) h h'
  command_pair (stop word site) k slots heap h h' = sure _ _ h h'
  command_pair (divide to a b site) k slots heap h h' =
      some_pair (on_words quotient (operand_value slots a) (operand_value slots b)) (λ q. K [] (divides to site k slots heap q)) (λ q. L [] (divides to site k slots heap q)) (λ q. sure _ _) h h'

  pub step_pair : (bound bound' : Option ℕ) (i : Item) (k : List Item) (slots : List Value) (heap : HeapMap) →
      step see bound types C i k slots heap K → step see bound' types D i k slots heap L → Alike K L
  step_pair bound bound' (Act c) k slots heap h h' = command_pair c k slots heap h h'
  step_pair bound bound' (AfterHead l) k slots heap h h' = sure _ _ h.1 h'.1
  step_pair bound bound' (AfterBody l) k slots heap h h' = sure _ _ h h'
  step_pair bound bound' (AfterStep l) k slots heap h h' = sure _ _ h h'
