-- Executions from one calling state are the same but for the numbers of new blocks, where both go on in
-- the same way.
use Rattle.std.proofs.Common.{◌≡◌, ℕ, zero, suc, Option, Some, None, List, [], ◌∷◌, ◌++◌, map, slice_get, refl, sym, ap, ap₂, ◌∙◌, subst, IsSomeAnd, append_assoc, append-nil}
use Rattle.std.proofs.lemmas.List.{append_cancel_left, map-append}
use Rattle.px_terms.specs.Types.{cell_types}
use Rattle.px_core.specs.BodyTree.{BodyTree}
use Rattle.px_meaning.specs.Values.{ValueType, Int, Pointer, BlockType, Value, Word, Null, Block, Unwritten}
use Rattle.px_meaning.specs.Heaps.{HeapMap, HeapBlock, HeapBlockState, Live, Freed, HasBlockType, IsCell, AreCells, IsBlockOf, IsWellTyped}
use Rattle.px_meaning.specs.Calls.{Ending, Returned, Failed, IsCallingState}
use Rattle.px_meaning.specs.Events.{Event, unnumbered}
use Rattle.px_core.specs.Control.{Item, acts}
use Rattle.px_meaning.specs.Steps.{Next, Goes, Ends}
use Rattle.px_meaning.specs.CoreCalls.{CoreProgram, Behind, Runs, CallsWithin, SeenCalls, CoreEvents, after, first_slots}
use Rattle.px_meaning.specs.CoreLaws.{EndsAlike}
use Rattle.px_meaning.proofs.Steps.{Across}
use Rattle.px_meaning.proofs.Seen.{calls_across}
use Rattle.px_meaning.proofs.Determined.{after_begin}
use Rattle.px_meaning.proofs.TypedHeaps.{written_cells}
use Rattle.px_meaning.proofs.Renamed.{Renaming, SameValue, SameValues, SameState, SamePlaces, Tied, Within, same_first}
use Rattle.px_meaning.proofs.RenamedSteps.{SameEnding, SameNext, AlikeBut, AgreeBut, renamed_step}

module _ (P : CoreProgram) where
  abbrev On : ℕ → List Event → Ending → HeapMap → List Item → List Value → HeapMap → List Event → Type 0
  On n t ending end k slots heap so_far = Runs unnumbered None P n k slots heap so_far t ending end

  -- the whole is the same, and the ending but for numbers
  abbrev Same : Renaming → List Event → List Event → List Event → List Event → Ending → Ending → HeapMap → HeapMap → Type 1
  Same R s t p q d e m n = (s ≡ t) × (p ≡ q) × ((S : Renaming) × Within R S × SameEnding S d e × Tied S m n)

  abbrev AgreeFor : ℕ → ℕ → Type 1
  AgreeFor i j = (R : Renaming) (k : List Item) (slots slots' : List Value) (heap heap' : HeapMap) → SameValues R slots slots' → Tied R heap heap' →
      (so_far s t : List Event) (d e : Ending) (m n : HeapMap) →
      Runs unnumbered None P i k slots heap so_far s d m → Runs unnumbered None P j k slots' heap' so_far t e n → (p q : List Event) → s ++ p ≡ t ++ q → Same R s t p q d e m n

  wider : (R S : Renaming) → Within R S → (s t p q : List Event) (d e : Ending) (m n : HeapMap) → Same S s t p q d e m n → Same R s t p q d e m n
  wider R S f s t p q d e m n (st, pq, (T, g, de, mn)) = (st, pq, (T, λ a b r. g a b (f a b r), de, mn))

  ended : (R : Renaming) (so_far s t : List Event) (d e d' e' : Ending) (m n m' n' : HeapMap) → SameEnding R d' e' → Tied R m' n' →
      (s ≡ so_far) × (d ≡ d') × (m ≡ m') → (t ≡ so_far) × (e ≡ e') × (n ≡ n') → (p q : List Event) → s ++ p ≡ t ++ q → Same R s t p q d e m n
  ended R so_far s t d e d' e' m n m' n' same tied (s1, d1, m1) (t1, e1, n1) p q eq =
      let st : s ≡ t = s1 ∙ sym t1 in (
        st,
        append_cancel_left s p q (eq ∙ ap (λ u. u ++ q) (sym st)),
        (
          R,
          λ a b r. r,
          subst (λ u. SameEnding R u e) (sym d1) (subst (λ u. SameEnding R d' u) (sym e1) same),
          subst (λ u. Tied R u n) (sym m1) (subst (λ u. Tied R m' u) (sym n1) tied),
        ),
      )

  after_agree : (i j : ℕ) → AgreeFor i j → (R : Renaming) (so_far s t : List Event) (d e : Ending) (m n : HeapMap) (a : List Event) (x y : Next) → SameNext R x y →
      Behind (On i s d m) so_far s d m a x → Behind (On j t e n) so_far t e n a y → (p q : List Event) → s ++ p ≡ t ++ q → Same R s t p q d e m n
  after_agree i j agree R so_far s t d e m n a (Goes k slots heap) (Goes k' slots' heap') (kk, same, tied) h h' p q eq =
      agree R k slots slots' heap heap' same tied (after so_far a) s t d e m n h (subst (λ u. Runs unnumbered None P j u slots' heap' (after so_far a) t e n) (sym kk) h') p q eq
  after_agree i j agree R so_far s t d e m n a (Ends d' m') (Ends e' n') (same, tied) h h' p q eq = ended R (after so_far a) s t d e d' e' m n m' n' same tied h h' p q eq
  after_agree i j agree R so_far s t d e m n a (Goes k slots heap) (Ends e' n') same h h' p q eq = absurd same
  after_agree i j agree R so_far s t d e m n a (Ends d' m') (Goes k slots heap) same h h' p q eq = absurd same

  whole : (so_far a r p : List Event) → (so_far ++ (a ++ r)) ++ p ≡ so_far ++ (a ++ (r ++ p))
  whole so_far a r p = append_assoc so_far (a ++ r) p ∙ ap (λ u. so_far ++ u) (append_assoc a r p)

  alike_agree : (i j : ℕ) → AgreeFor i j → (R : Renaming) (so_far s t : List Event) (d e : Ending) (m n : HeapMap) →
      AlikeBut R (Behind (On i s d m) so_far s d m) (Behind (On j t e n) so_far t e n) → (p q : List Event) → s ++ p ≡ t ++ q → Same R s t p q d e m n
  alike_agree i j agree R so_far s t d e m n (a, b, x, y, h, h', same) p q eq =
      let (r, s1) = after_begin unnumbered None P i so_far s d m a x h in
      let (r', t1) = after_begin unnumbered None P j so_far t e n b y h' in
      let joined : so_far ++ (a ++ (r ++ p)) ≡ so_far ++ (b ++ (r' ++ q)) =
      sym (whole so_far a r p) ∙ (ap (λ u. u ++ p) (sym s1) ∙ (eq ∙ (ap (λ u. u ++ q) t1 ∙ whole so_far b r' q))) in
      let (ab, rest, (S, f, xy)) = same (r ++ p) (r' ++ q) (append_cancel_left so_far (a ++ (r ++ p)) (b ++ (r' ++ q)) joined) in
      wider R S f s t p q d e m n
      (after_agree i j agree S so_far s t d e m n a x y xy h (subst (λ u. Behind (On j t e n) so_far t e n u y) (sym ab) h') p q eq)

  called_agree : (i j : ℕ) → AgreeFor i j → (o : Option BodyTree) (R : Renaming) (arguments arguments' : List Value) (heap heap' : HeapMap) → SameValues R arguments arguments' → Tied R heap heap' →
      (s t : List Event) (d e : Ending) (m n : HeapMap) →
      IsSomeAnd o (λ b. Runs unnumbered None P i (acts b.commands []) (first_slots b.slots arguments) heap [] s d m) →
      IsSomeAnd o (λ b. Runs unnumbered None P j (acts b.commands []) (first_slots b.slots arguments') heap' [] t e n) →
      (p q : List Event) → s ++ p ≡ t ++ q → Same R s t p q d e m n
  called_agree i j agree None R arguments arguments' heap heap' same tied s t d e m n c c' p q eq = absurd c
  called_agree i j agree (Some b) R arguments arguments' heap heap' same tied s t d e m n c c' p q eq =
      agree R (acts b.commands []) (first_slots b.slots arguments) (first_slots b.slots arguments') heap heap' (same_first R b.slots arguments arguments' same) tied [] s t d e m n c c' p q eq

  calls_agree : (i j : ℕ) → AgreeFor i j → AgreeBut (CallsWithin unnumbered None P i) (CallsWithin unnumbered None P j)
  calls_agree i j agree R f arguments arguments' heap heap' same tied s t d e m n c c' p q eq =
      called_agree i j agree (P.bodies f) R arguments arguments' heap heap' same tied s t d e m n c c' p q eq

  runs_agree : (i j : ℕ) → AgreeFor i j
  runs_agree zero j R k slots slots' heap heap' same tied so_far s t d e m n h h' p q eq = absurd h
  runs_agree (suc i) zero R k slots slots' heap heap' same tied so_far s t d e m n h h' p q eq = absurd h'
  runs_agree (suc i) (suc j) R [] slots slots' heap heap' same tied so_far s t d e m n h h' p q eq =
      ended R so_far s t d e (Returned Unwritten) (Returned Unwritten) m n heap heap' tt tied h h' p q eq
  runs_agree (suc i) (suc j) R (c ∷ k) slots slots' heap heap' same tied so_far s t d e m n h h' p q eq =
      alike_agree i j (runs_agree i j) R so_far s t d e m n
      (renamed_step P.types (CallsWithin unnumbered None P i) (CallsWithin unnumbered None P j) (calls_agree i j (runs_agree i j))
      (Behind (On i s d m) so_far s d m) (Behind (On j t e n) so_far t e n) R None None c k slots slots' heap heap' same tied h h')
      p q eq

  pub seen_agree : AgreeBut (SeenCalls unnumbered None P) (SeenCalls unnumbered None P)
  seen_agree R f arguments arguments' heap heap' same tied s t d e m n (i, c) (j, c') p q eq =
      calls_agree i j (runs_agree i j) R f arguments arguments' heap heap' same tied s t d e m n c c' p q eq

-- ---- the start

-- a number stands for itself, where the heap has such a block
abbrev pub itself : HeapMap → Renaming
itself h m n = (m ≡ n) × ((b : HeapBlock) × (h m ≡ Some b))

same_cell : (h : HeapMap) (t : ValueType) (v : Value) → IsCell h t v → SameValue (itself h) v v
same_cell h t (Word z) p = refl
same_cell h t Null p = tt
same_cell h t Unwritten p = tt
same_cell h Int (Block n) p = absurd p
same_cell h (Pointer t) (Block n) p = (refl, there (h n) p)
  where
    there : (o : Option HeapBlock) → HasBlockType t.0 o → (b : HeapBlock) × (o ≡ Some b)
    there None p = absurd p
    there (Some b) p = (b, refl)

pub same_cells : (h : HeapMap) (ts : List ValueType) (vs : List Value) → AreCells h ts vs → SameValues (itself h) vs vs
same_cells h [] [] p = tt
same_cells h (t ∷ ts) (v ∷ vs) p = (same_cell h t v p.0, same_cells h ts vs p.1)
same_cells h [] (v ∷ vs) p = absurd p
same_cells h (t ∷ ts) [] p = absurd p

same_state : (h : HeapMap) (o : Option BlockType) (s : HeapBlockState) → IsBlockOf h o s → SameState (itself h) s s
same_state h None s p = absurd p
same_state h (Some t) (Live cells) p = same_cells h (cell_types t) cells p
same_state h (Some t) Freed p = tt

pub tied_itself : (types : List BlockType) (h : HeapMap) → IsWellTyped types h → Tied (itself h) h h
tied_itself types h w = record {
  left = λ m n n' p q. sym p.0 ∙ q.0;
  right = λ m m' n p q. p.0 ∙ sym q.0;
  blocks = λ m n p. subst (λ u. SamePlaces (itself h) (h m) (h u)) p.0
      (subst (λ o. SamePlaces (itself h) o o) (sym p.1.1) (refl, same_state h (slice_get types p.1.0.block_type) p.1.0.state (w.typed m p.1.0 p.1.1)));
}

-- ---- events

to_unnumbered : Across (λ (e : Event). e) unnumbered (λ events t. map unnumbered events ≡ t)
to_unnumbered = record {
  none = refl;
  one = λ e. refl;
  join = λ a b a' b' p q. map-append unnumbered a b ∙ ap₂ (λ x y. x ++ y) p q;
}

pub alike : (S : Renaming) (d e : Ending) → SameEnding S d e → EndsAlike d e
alike S (Returned v) (Returned w) p = tt
alike S (Failed kind at) (Failed kind' at') p = p
alike S (Returned v) (Failed kind at) p = absurd p
alike S (Failed kind at) (Returned v) p = absurd p

pub traces_whole : (P : CoreProgram) (f : ℕ) (parameters : List ValueType) (arguments : List Value) (heap : HeapMap) → IsCallingState P.types parameters arguments heap →
    (s t more : List Event) (d e : Ending) (m n : HeapMap) → CoreEvents P f arguments heap s d m → CoreEvents P f arguments heap t e n →
    map unnumbered t ≡ map unnumbered s ++ more → (more ≡ []) × EndsAlike d e
traces_whole P f parameters arguments heap state s t more d e m n h h' eq =
    let (s', s1, g) = calls_across (λ (e : Event). e) unnumbered (λ events t. map unnumbered events ≡ t) to_unnumbered None P f arguments heap s d m h in
    let (t', t1, g') = calls_across (λ (e : Event). e) unnumbered (λ events t. map unnumbered events ≡ t) to_unnumbered None P f arguments heap t e n h' in
    let cells = same_cells heap parameters arguments (written_cells heap parameters arguments state.written) in
    let whole : s' ++ more ≡ t' ++ [] = ap (λ u. u ++ more) (sym s1) ∙ (sym eq ∙ (t1 ∙ sym (append-nil t'))) in
    let (st, pq, (S, f', de, mn)) = seen_agree P (itself heap) f arguments arguments heap heap cells (tied_itself P.types heap state.well_typed) s' t' d e m n g g' more [] whole in
    (pq, alike S d e de)
