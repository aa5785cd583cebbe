-- Steps from states that are the same but for the numbers of blocks.
use Rattle.std.proofs.Common.{◌≡◌, ℕ, Option, Some, None, List, [], ◌∷◌, ◌++◌, map, slice_set, slice_get, refl, sym, ap, ◌∙◌, subst, inl, inr, ℤ, pos, IsSomeAnd, append_assoc, Bool, true, false, int_div, if◌then◌else◌}
use Rattle.std.proofs.lemmas.List.{append_cancel_left}
use Rattle.std.specs.Ordering.{int_eq}
use Rattle.px_base.specs.declared.trace.Site.{Site}
use Rattle.px_base.specs.declared.trace.ProcId.{ProcId}
use Rattle.px_base.specs.declared.trace.MarkKind.{MarkKind}
use Rattle.px_base.specs.declared.trace.MarkKind.TheVariants.{Then, Else, Done, Got, NoBlock, Access, «Freed» as FreedMark, FreeNull, Enter, Leave}
use Rattle.px_base.specs.declared.trace.Kind.TheVariants.{NullDereference, UseAfterFree, DoubleFree, UninitialisedRead}
use Rattle.px_terms.specs.Types.{types_of}
use Rattle.px_core.specs.CommandTree.{CommandTree, assign, unset, read, test, choose, loop, leave, load, store, malloc, free, input, call, return, break, continue, stop, divide}
use Rattle.px_meaning.specs.Values.{Value, BlockType, Word, Null, Block, Unwritten}
use Rattle.px_meaning.specs.Heaps.{HeapMap, HeapBlock, HeapBlockState, Live, Freed, with_block}
use Rattle.px_meaning.specs.Calls.{error, Ending, Returned, Failed}
use Rattle.px_meaning.specs.Events.{Event, marks, reads, makes, mark, unnumbered}
use Rattle.px_core.specs.Control.{Item, Act, AfterHead, AfterBody, AfterStep, leave_to, break_to, continue_to}
use Rattle.px_meaning.specs.Operations.{value_at, operand_value, wrapped, on_words, quotient, result_of}
use Rattle.px_meaning.specs.Steps.{Next, Goes, Ends, Goal, ProcedureCalls, marking, fails, by_state, by_pointer, by_written, new_block, live_block, freed_block, comes_back, divides, command, step}
use Rattle.px_meaning.proofs.Renamed.{Renaming, SameValue, SameValues, SameState, SamePlaces, Tied, Within, values_wider, same_at, same_put, same_operand, same_operands, same_unwritten, same_kept, same_returned, tied_put, with_new, tied_new, result_same, words_alike}

abbrev pub SameEnding : Renaming → Ending → Ending → Type 0
SameEnding R (Returned v) (Returned w) = SameValue R v w
SameEnding R (Failed kind at) (Failed kind' at') = (kind ≡ kind') × (at ≡ at')
SameEnding R _ _ = ⊥

abbrev pub SameNext : Renaming → Next → Next → Type 0
SameNext R (Goes k slots heap) (Goes k' slots' heap') = (k ≡ k') × SameValues R slots slots' × Tied R heap heap'
SameNext R (Ends ending heap) (Ends ending' heap') = SameEnding R ending ending' × Tied R heap heap'
SameNext R _ _ = ⊥

-- the same under a renaming that goes on from another
abbrev pub Meets : Renaming → Next → Next → Type 1
Meets R x y = (S : Renaming) × Within R S × SameNext S x y

-- of two steps, what they are seen as and lead to; where both go on in the same way they are one but for numbers
abbrev pub AlikeBut : Renaming → Goal Event → Goal Event → Type 1
AlikeBut R K L = (a : List Event) × (b : List Event) × (x : Next) × (y : Next) × K a x × L b y
    × ((p q : List Event) → a ++ p ≡ b ++ q → (a ≡ b) × (p ≡ q) × Meets R x y)

-- two calls of one procedure from such states are one but for numbers, where both go on in the same way
abbrev pub AgreeBut : ProcedureCalls Event → ProcedureCalls Event → Type 1
AgreeBut C D = (R : Renaming) (f : ℕ) (arguments arguments' : List Value) (heap heap' : HeapMap) → SameValues R arguments arguments' → Tied R heap heap' →
    (s t : List Event) (d e : Ending) (m n : HeapMap) →
    C f arguments heap s d m → D f arguments' heap' t e n → (p q : List Event) → s ++ p ≡ t ++ q →
    (s ≡ t) × (p ≡ q) × ((S : Renaming) × Within R S × SameEnding S d e × Tied S m n)

abbrev pub first_or : Event → List Event → Event
first_or e [] = e
first_or e (a ∷ more) = a

abbrev rest_of : List Event → List Event
rest_of [] = []
rest_of (a ∷ more) = more

abbrev input_in : Event → ℤ
input_in (marks m) = pos 0
input_in (reads site z) = z
input_in (makes site n) = pos 0

abbrev pub kind_in : MarkKind → Event → MarkKind
kind_in k (marks m) = m.kind
kind_in k (reads site z) = k
kind_in k (makes site n) = k

-- other marks are seen
pub differ : (j k : MarkKind) (s t : Site) (p q : List Event) → (j ≡ k → ⊥) → marks (mark j s) ∷ p ≡ marks (mark k t) ∷ q → ⊥
differ j k s t p q f e = f (ap (λ es. kind_in j (first_or (marks (mark j s)) es)) e)

module _ (types : List BlockType) (C D : ProcedureCalls Event) (agree : AgreeBut C D) (K L : Goal Event) (R : Renaming) where
  sure : (a : List Event) (x y : Next) → SameNext R x y → K a x → L a y → AlikeBut R K L
  sure a x y s h k = (a, a, x, y, h, k, λ p q e. (refl, append_cancel_left a p q e, (R, λ m n r. r, s)))

  some_pair : {A : Type 0} (o : Option A) (P Q : A → Type 0) → ((a : A) → P a → Q a → AlikeBut R K L) → IsSomeAnd o P → IsSomeAnd o Q → AlikeBut R K L
  some_pair None P Q f h k = absurd h
  some_pair (Some a) P Q f h k = f a h k

  two_pair : {A : Type 0} (o o' : Option A) (P Q : A → Type 0) → ((a b : A) → o ≡ Some a → o' ≡ Some b → P a → Q b → AlikeBut R K L) → IsSomeAnd o P → IsSomeAnd o' Q → AlikeBut R K L
  two_pair None o' P Q f h k = absurd h
  two_pair (Some a) None P Q f h k = absurd k
  two_pair (Some a) (Some b) P Q f h k = f a b refl refl h k

  written_pair : (v w : Value) (X X' Y Y' : Type 0) → SameValue R v w → (X → X' → AlikeBut R K L) → (Y → Y' → AlikeBut R K L) → by_written v X Y → by_written w X' Y' → AlikeBut R K L
  written_pair (Word y) (Word z) X X' Y Y' s f g h k = f h k
  written_pair Null Null X X' Y Y' s f g h k = f h k
  written_pair (Block m) (Block n) X X' Y Y' s f g h k = f h k
  written_pair Unwritten Unwritten X X' Y Y' s f g h k = g h k
  written_pair Null (Word z) X X' Y Y' s f g h k = absurd s
  written_pair (Block m) Null X X' Y Y' s f g h k = absurd s
  written_pair Unwritten Null X X' Y Y' s f g h k = absurd s
  written_pair _ _ X X' Y Y' s f g h k = absurd s

  state_pair : (s t : HeapBlockState) (F F' : Type 0) (G G' : List Value → Type 0) → SameState R s t → (F → F' → AlikeBut R K L) →
      ((vs ws : List Value) → SameValues R vs ws → G vs → G' ws → AlikeBut R K L) → by_state s F G → by_state t F' G' → AlikeBut R K L
  state_pair (Live vs) (Live ws) F F' G G' s f g h k = g vs ws s h k
  state_pair Freed Freed F F' G G' s f g h k = f h k
  state_pair (Live vs) Freed F F' G G' s f g h k = absurd s
  state_pair Freed (Live ws) F F' G G' s f g h k = absurd s

  pointer_pair : (heap heap' : HeapMap) (t : ℕ) (v w : Value) (N N' F F' : Type 0) (G G' : ℕ → List Value → Type 0) → Tied R heap heap' → SameValue R v w →
      (N → N' → AlikeBut R K L) → (F → F' → AlikeBut R K L) → ((m n : ℕ) (vs ws : List Value) → R m n → SameValues R vs ws → G m vs → G' n ws → AlikeBut R K L) →
      by_pointer heap t v N F G → by_pointer heap' t w N' F' G' → AlikeBut R K L
  pointer_pair heap heap' t (Word y) w N N' F F' G G' tied s n f g h k = absurd h
  pointer_pair heap heap' t Unwritten w N N' F F' G G' tied s n f g h k = absurd h
  pointer_pair heap heap' t Null Null N N' F F' G G' tied s n f g h k = n h k
  pointer_pair heap heap' t Null (Word z) N N' F F' G G' tied s n f g h k = absurd s
  pointer_pair heap heap' t Null (Block j) N N' F F' G G' tied s n f g h k = absurd s
  pointer_pair heap heap' t Null Unwritten N N' F F' G G' tied s n f g h k = absurd s
  pointer_pair heap heap' t (Block i) (Word z) N N' F F' G G' tied s n f g h k = absurd s
  pointer_pair heap heap' t (Block i) Null N N' F F' G G' tied s n f g h k = absurd s
  pointer_pair heap heap' t (Block i) Unwritten N N' F F' G G' tied s n f g h k = absurd s
  pointer_pair heap heap' t (Block i) (Block j) N N' F F' G G' tied s n f g h k = at (heap i) (heap' j) (tied.blocks i j s) h k
    where
      at : (o o' : Option HeapBlock) → SamePlaces R o o' →
          IsSomeAnd o (λ b. (b.block_type ≡ t) × by_state b.state F (G i)) → IsSomeAnd o' (λ b. (b.block_type ≡ t) × by_state b.state F' (G' j)) → AlikeBut R K L
      at (Some b) (Some c) p h k = state_pair b.state c.state F F' (G i) (G' j) p.1 f (λ vs ws q. g i j vs ws s q) h.1 k.1
      at None o' p h k = absurd h
      at (Some b) None p h k = absurd k

  back_pair : (proc : ProcId) (to : Option ℕ) (site : Site) (k : List Item) (slots slots' : List Value) (s t : List Event) (m n : HeapMap) (d e : Ending) → SameValues R slots slots' →
      ((p q : List Event) → s ++ p ≡ t ++ q → (s ≡ t) × (p ≡ q) × ((S : Renaming) × Within R S × SameEnding S d e × Tied S m n)) →
      comes_back unnumbered proc to site k slots s m K d → comes_back unnumbered proc to site k slots' t n L e → AlikeBut R K L
  back_pair proc to site k slots slots' s t m n (Returned v) (Returned w) vs same h h' = (
    _,
    _,
    _,
    _,
    h,
    h',
    λ p q e.
        let (st, pq, (S, wider, vw, mn)) = same (marks (mark Leave site) ∷ p) (marks (mark Leave site) ∷ q)
        (sym (append_assoc s (marks (mark Leave site) ∷ []) p) ∙ (ap rest_of e ∙ append_assoc t (marks (mark Leave site) ∷ []) q)) in (
          ap (λ r. marks (mark (Enter proc) site) ∷ (r ++ (marks (mark Leave site) ∷ []))) st,
          ap rest_of pq,
          (S, wider, (refl, same_kept S to slots slots' v w (values_wider R S wider slots slots' vs) vw, mn)),
        ),
  )
  back_pair proc to site k slots slots' s t m n (Failed kind at) (Failed kind' at') vs same h h' = (
    _,
    _,
    _,
    _,
    h,
    h',
    λ p q e.
        let (st, pq, (S, wider, de, mn)) = same p q (ap rest_of e) in
        (ap (λ r. marks (mark (Enter proc) site) ∷ r) st, pq, (S, wider, (de, mn))),
  )
  back_pair proc to site k slots slots' s t m n (Returned v) (Failed kind at) vs same h h' = (
    _,
    _,
    _,
    _,
    h,
    h',
    λ p q e.
        let (st, pq, (S, wider, de, mn)) = same (marks (mark Leave site) ∷ p) q (sym (append_assoc s (marks (mark Leave site) ∷ []) p) ∙ ap rest_of e) in
        absurd de,
  )
  back_pair proc to site k slots slots' s t m n (Failed kind at) (Returned v) vs same h h' = (
    _,
    _,
    _,
    _,
    h,
    h',
    λ p q e.
        let (st, pq, (S, wider, de, mn)) = same p (marks (mark Leave site) ∷ q) (ap rest_of e ∙ append_assoc t (marks (mark Leave site) ∷ []) q) in
        absurd de,
  )

  branches : (v w : Value) → SameValue R v w → v ≡ Word (pos 1) → w ≡ Word (pos 0) → ⊥
  branches v w s e e' = let d : pos 1 ≡ pos 0 = subst (λ u. SameValue R u (Word (pos 0))) e (subst (λ u. SameValue R v u) e' s) in cc

  branches' : (v w : Value) → SameValue R v w → v ≡ Word (pos 0) → w ≡ Word (pos 1) → ⊥
  branches' v w s e e' = let d : pos 0 ≡ pos 1 = subst (λ u. SameValue R u (Word (pos 1))) e (subst (λ u. SameValue R v u) e' s) in cc

  divides_same : (to : ℕ) (site : Site) (k : List Item) (slots slots' : List Value) (heap heap' : HeapMap) → SameValues R slots slots' → Tied R heap heap' → (x y : ℤ) →
      SameNext R (divides to site k slots heap (quotient x y)) (divides to site k slots' heap' (quotient x y))
  divides_same to site k slots slots' heap heap' s t x y = by (int_eq y (pos 0))
    where
      by : (b : Bool) →
          SameNext R (divides to site k slots heap (if b then None else Some (wrapped (int_div x y)))) (divides to site k slots' heap' (if b then None else Some (wrapped (int_div x y))))
      by true = ((refl, refl), t)
      by false = (refl, same_put R slots slots' to _ _ s refl, t)

  command_pair : (c : CommandTree) (k : List Item) (slots slots' : List Value) (heap heap' : HeapMap) → SameValues R slots slots' → Tied R heap heap' →
      command unnumbered types C c k slots heap K → command unnumbered types D c k slots' heap' L → AlikeBut R K L
  command_pair (assign to op a b) k slots slots' heap heap' s t h h' =
      two_pair (result_of op (operand_value slots a) (operand_value slots b)) (result_of op (operand_value slots' a) (operand_value slots' b))
      (λ v. K [] (Goes k (slice_set slots to v) heap)) (λ v. L [] (Goes k (slice_set slots' to v) heap'))
      (λ v w e e'. sure _ _ _ (
        refl,
        same_put R slots slots' to v w s
            (result_same R op (operand_value slots a) (operand_value slots b) (operand_value slots' a) (operand_value slots' b) v w (same_operand R slots slots' a s) (same_operand R slots slots' b s) e e'),
        t,
      )) h h'
  command_pair (unset to) k slots slots' heap heap' s t h h' = sure _ _ _ (refl, same_put R slots slots' to Unwritten Unwritten s tt, t) h h'
  command_pair (read slot site) k slots slots' heap heap' s t h h' =
      written_pair (value_at slots slot) (value_at slots' slot) (K [] (Goes k slots heap)) (L [] (Goes k slots' heap')) (K [] (fails (error UninitialisedRead) site heap)) (L [] (fails (error UninitialisedRead) site heap'))
      (same_at R slots slots' slot s) (sure _ _ _ (refl, s, t)) (sure _ _ _ ((refl, refl), t)) h h'
  command_pair (test to how a b site) k slots slots' heap heap' s t (inl h) (inl h') = sure _ _ _ (refl, same_put R slots slots' to (Word (pos 1)) (Word (pos 1)) s refl, t) h.1 h'.1
  command_pair (test to how a b site) k slots slots' heap heap' s t (inr h) (inr h') = sure _ _ _ (refl, same_put R slots slots' to (Word (pos 0)) (Word (pos 0)) s refl, t) h.1 h'.1
  command_pair (test to how a b site) k slots slots' heap heap' s t (inl h) (inr h') =
      (_, _, _, _, h.1, h'.1, λ p q e. absurd (differ Then Else site site p q (λ d. cc) e))
  command_pair (test to how a b site) k slots slots' heap heap' s t (inr h) (inl h') =
      (_, _, _, _, h.1, h'.1, λ p q e. absurd (differ Else Then site site p q (λ d. cc) e))
  command_pair (choose slot first second) k slots slots' heap heap' s t (inl h) (inl h') = sure _ _ _ (refl, s, t) h.1 h'.1
  command_pair (choose slot first second) k slots slots' heap heap' s t (inr h) (inr h') = sure _ _ _ (refl, s, t) h.1 h'.1
  command_pair (choose slot first second) k slots slots' heap heap' s t (inl h) (inr h') = absurd (branches (value_at slots slot) (value_at slots' slot) (same_at R slots slots' slot s) h.0 h'.0)
  command_pair (choose slot first second) k slots slots' heap heap' s t (inr h) (inl h') = absurd (branches' (value_at slots slot) (value_at slots' slot) (same_at R slots slots' slot s) h.0 h'.0)
  command_pair (loop site head body after_body) k slots slots' heap heap' s t h h' = sure _ _ _ (refl, s, t) h h'
  command_pair leave k slots slots' heap heap' s t h h' =
      some_pair (leave_to k) (λ p. K (marking unnumbered Done p.0.site) (Goes p.1 slots heap)) (λ p. L (marking unnumbered Done p.0.site) (Goes p.1 slots' heap')) (λ p. sure _ _ _ (refl, s, t)) h h'
  command_pair (load to at field block site) k slots slots' heap heap' s t h h' =
      pointer_pair heap heap' block.0 (operand_value slots at) (operand_value slots' at)
      (K (marking unnumbered Access site) (fails (error NullDereference) site heap)) (L (marking unnumbered Access site) (fails (error NullDereference) site heap'))
      (K (marking unnumbered Access site) (fails (error UseAfterFree) site heap)) (L (marking unnumbered Access site) (fails (error UseAfterFree) site heap'))
      (λ n cells. K (marking unnumbered Access site) (Goes k (slice_set slots to (value_at cells field.0)) heap))
      (λ n cells. L (marking unnumbered Access site) (Goes k (slice_set slots' to (value_at cells field.0)) heap'))
      t (same_operand R slots slots' at s) (sure _ _ _ ((refl, refl), t)) (sure _ _ _ ((refl, refl), t))
      (λ m n vs ws r same. sure _ _ _ (refl, same_put R slots slots' to (value_at vs field.0) (value_at ws field.0) s (same_at R vs ws field.0 same), t)) h h'
  command_pair (store at field block from site) k slots slots' heap heap' s t h h' =
      pointer_pair heap heap' block.0 (operand_value slots at) (operand_value slots' at)
      (K (marking unnumbered Access site) (fails (error NullDereference) site heap)) (L (marking unnumbered Access site) (fails (error NullDereference) site heap'))
      (K (marking unnumbered Access site) (fails (error UseAfterFree) site heap)) (L (marking unnumbered Access site) (fails (error UseAfterFree) site heap'))
      (λ n cells. K (marking unnumbered Access site) (Goes k slots (with_block heap n (live_block block.0 (slice_set cells field.0 (operand_value slots from))))))
      (λ n cells. L (marking unnumbered Access site) (Goes k slots' (with_block heap' n (live_block block.0 (slice_set cells field.0 (operand_value slots' from))))))
      t (same_operand R slots slots' at s) (sure _ _ _ ((refl, refl), t)) (sure _ _ _ ((refl, refl), t))
      (λ m n vs ws r same. sure _ _ _ (
        refl,
        s,
        tied_put R heap heap' m n _ _ t r
            (refl, same_put R vs ws field.0 (operand_value slots from) (operand_value slots' from) same (same_operand R slots slots' from s)),
      )) h h'
  command_pair (malloc to block site) k slots slots' heap heap' s t (inl h) (inl h') = sure _ _ _ (refl, same_put R slots slots' to Null Null s tt, t) h h'
  command_pair (malloc to block site) k slots slots' heap heap' s t (inl h) (inr (n, out, h')) =
      (_, _, _, _, h, h', λ p q e. absurd (differ NoBlock Got site site p q (λ d. cc) e))
  command_pair (malloc to block site) k slots slots' heap heap' s t (inr (n, out, h)) (inl h') =
      (_, _, _, _, h, h', λ p q e. absurd (differ Got NoBlock site site p q (λ d. cc) e))
  command_pair (malloc to block site) k slots slots' heap heap' s t (inr (m, out, h)) (inr (n, out', h')) = (
    _,
    _,
    _,
    _,
    h,
    h',
    λ p q e. (
      refl,
      ap rest_of e,
      (
        with_new R m n,
        λ i j r. inl r,
        (
          refl,
          same_put (with_new R m n) slots slots' to (Block m) (Block n) (values_wider R (with_new R m n) (λ i j r. inl r) slots slots' s) (inr (refl, refl)),
          tied_new R heap heap' m n (new_block types block.0) (new_block types block.0) t out out' (refl, same_unwritten (with_new R m n) (types_of (slice_get types block.0))),
        ),
      ),
    ),
  )
  command_pair (free at block site) k slots slots' heap heap' s t h h' =
      pointer_pair heap heap' block.0 (operand_value slots at) (operand_value slots' at)
      (K (marking unnumbered FreeNull site) (Goes k slots heap)) (L (marking unnumbered FreeNull site) (Goes k slots' heap'))
      (K (marking unnumbered FreedMark site) (fails (error DoubleFree) site heap)) (L (marking unnumbered FreedMark site) (fails (error DoubleFree) site heap'))
      (λ n cells. K (marking unnumbered FreedMark site) (Goes k slots (with_block heap n (freed_block block.0))))
      (λ n cells. L (marking unnumbered FreedMark site) (Goes k slots' (with_block heap' n (freed_block block.0))))
      t (same_operand R slots slots' at s) (sure _ _ _ (refl, s, t)) (sure _ _ _ ((refl, refl), t))
      (λ m n vs ws r same. sure _ _ _ (refl, s, tied_put R heap heap' m n _ _ t r (refl, tt))) h h'
  command_pair (input to site) k slots slots' heap heap' s t (y, low, high, h) (z, low', high', h') = (
    _,
    _,
    _,
    _,
    h,
    h',
    λ p q e. let d : y ≡ z = ap (λ es. input_in (first_or (reads site y) es)) e in
        (ap (λ i. reads site i ∷ []) d, ap rest_of e, (R, λ m n r. r, (refl, same_put R slots slots' to (Word y) (Word z) s d, t))),
  )
  command_pair (call to proc arguments site) k slots slots' heap heap' s t (_, (u, d, m, c, h)) (_, (v, e, n, c', h')) =
      back_pair proc to site k slots slots' u v m n d e s
      (agree R proc.0 (map (operand_value slots) arguments) (map (operand_value slots') arguments) heap heap' (same_operands R slots slots' arguments s) t u v d e m n c c') h h'
  command_pair (return from) k slots slots' heap heap' s t h h' = sure _ _ _ (same_returned R slots slots' from s, t) h h'
  command_pair break k slots slots' heap heap' s t h h' =
      some_pair (break_to k) (λ p. K [] (Goes p slots heap)) (λ p. L [] (Goes p slots' heap')) (λ p. sure _ _ _ (refl, s, t)) h h'
  command_pair continue k slots slots' heap heap' s t h h' =
      some_pair (continue_to k) (λ p. K [] (Goes p slots heap)) (λ p. L [] (Goes p slots' heap')) (λ p. sure _ _ _ (refl, s, t)) h h'
  command_pair (stop word site) k slots slots' heap heap' s t h h' = sure _ _ _ ((refl, refl), t) h h'
  command_pair (divide to a b site) k slots slots' heap heap' s t h h' =
      two_pair (on_words quotient (operand_value slots a) (operand_value slots b)) (on_words quotient (operand_value slots' a) (operand_value slots' b))
      (λ q. K [] (divides to site k slots heap q)) (λ q. L [] (divides to site k slots' heap' q))
      (λ q r e e'.
      let (x, y, is, is') = words_alike R quotient (operand_value slots a) (operand_value slots b) (operand_value slots' a) (operand_value slots' b) q r (same_operand R slots slots' a s) (same_operand R slots slots' b s) e e' in
      sure _ _ _ (subst (λ r. SameNext R (divides to site k slots heap q) (divides to site k slots' heap' r)) (sym is')
      (subst (λ q. SameNext R (divides to site k slots heap q) (divides to site k slots' heap' (quotient x y))) (sym is) (divides_same to site k slots slots' heap heap' s t x y)))) h h'

  pub renamed_step : (bound bound' : Option ℕ) (i : Item) (k : List Item) (slots slots' : List Value) (heap heap' : HeapMap) → SameValues R slots slots' → Tied R heap heap' →
      step unnumbered bound types C i k slots heap K → step unnumbered bound' types D i k slots' heap' L → AlikeBut R K L
  renamed_step bound bound' (Act c) k slots slots' heap heap' s t h h' = command_pair c k slots slots' heap heap' s t h h'
  renamed_step bound bound' (AfterHead l) k slots slots' heap heap' s t h h' = sure _ _ _ (refl, s, t) h.1 h'.1
  renamed_step bound bound' (AfterBody l) k slots slots' heap heap' s t h h' = sure _ _ _ (refl, s, t) h h'
  renamed_step bound bound' (AfterStep l) k slots slots' heap heap' s t h h' = sure _ _ _ (refl, s, t) h h'
