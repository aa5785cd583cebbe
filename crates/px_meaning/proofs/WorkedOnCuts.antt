-- No execution has a worked trace without its last mark.
use Rattle.std.proofs.Common.{◌≡◌, ℕ, zero, suc, List, [], ◌∷◌, ◌++◌, map, refl, sym, ap, ◌∙◌, inl, inr, Some, None, pos, append-nil, arith}
use Rattle.std.proofs.lemmas.List.{map-append}
use Rattle.px_base.specs.declared.trace.Mark.{Mark}
use Rattle.px_base.specs.declared.trace.MarkKind.{MarkKind}
use Rattle.px_base.specs.declared.trace.MarkKind.TheVariants.{Then, Else, Iter, NoBlock, Got, Input, Access, Freed, Enter}
use Rattle.px_base.specs.declared.trace.Kind.TheVariants.{UseAfterFree, DoubleFree, NullDereference, UninitialisedRead}
use Rattle.px_meaning.specs.Values.{ValueType, Int, Pointer, Value, Word, Null, Block, Unwritten}
use Rattle.px_meaning.specs.Heaps.{HeapMap}
use Rattle.px_meaning.specs.Calls.{error, Ending, Returned, Failed, IsCallingState}
use Rattle.px_meaning.specs.Manifest.{IsManifest}
use Rattle.px_meaning.specs.Events.{marks, mark, mark_of, unnumbered}
use Rattle.px_meaning.specs.TypedProgram.{TypedProgram}
use Rattle.px_meaning.specs.TreeCalls.{TreeCalls, TreeEvents}
use Rattle.px_meaning.specs.WorkedBodies.{at, empty_heap, until_freed, two_turns}
use Rattle.px_meaning.specs.WorkedTrees.{freed_too_early_tree, freed_by_callee_program, wraps_tree, reads_input_tree, freed_in_loop_tree, unset_local_tree}
use Rattle.px_meaning.specs.WorkedList.{list_program, node}
use Rattle.px_meaning.specs.WorkedCuts.{NoneAlong, push_bug, pushing_block, dropped, before_second_free, second_free, WorkedCuts}
use Rattle.px_meaning.proofs.Worked.{HasNoInput, plain_events, empty_state, ten_low, ten_high, less_0, less_1}
use Rattle.px_meaning.proofs.WorkedOnList.{enough}
use Rattle.px_meaning.proofs.TreeDetermined.{tree_events_agree}
use Rattle.px_meaning.proofs.WorkedOnTrees.{wraps_fails, after_free_fails, in_callee_fails, in_loop_fails}
use Rattle.px_meaning.proofs.TreeEvents.{trace_has_events}
use Rattle.px_meaning.proofs.TreeMore.{tree_calls_wider}
use Rattle.px_meaning.proofs.RenamedTreeRuns.{tree_traces_whole}

-- a trace without inputs is no proper beginning of another
cut_short : (P : TypedProgram) (f : ℕ) (parameters : List ValueType) (arguments : List Value) (heap : HeapMap) → IsCallingState P.types parameters arguments heap → (t more : List Mark) →
    HasNoInput t → HasNoInput (t ++ more) → (d e : Ending) (m n : HeapMap) → TreeCalls P f arguments heap t d m → TreeCalls P f arguments heap (t ++ more) e n → map (λ m. marks m) more ≡ []
cut_short P f parameters arguments heap state t more plain plain' d e m n h h' =
    let (s, s1, g) = trace_has_events _ P f arguments heap t d m h in
    let (s', s1', g') = trace_has_events _ P f arguments heap (t ++ more) e n h' in
    let longer : map unnumbered s' ≡ map unnumbered s ++ map (λ m. marks m) more =
    plain_events s' (t ++ more) s1' plain' ∙ (map-append (λ m. marks m) t more ∙ ap (λ u. u ++ map (λ m. marks m) more) (sym (plain_events s t s1 plain))) in
    (tree_traces_whole P f parameters arguments heap state s s' (map (λ m. marks m) more) d e m n g g' longer).0

after_free_cut : NoneAlong freed_too_early_tree 0 until_freed
after_free_cut ending end h =
    let d : marks (mark Access (at 6 3)) ∷ [] ≡ [] = cut_short freed_too_early_tree 0 [] [] empty_heap empty_state until_freed (mark Access (at 6 3) ∷ [])
    ((λ e. cc), ((λ e. cc), ((λ e. cc), ((λ e. cc), tt)))) ((λ e. cc), ((λ e. cc), ((λ e. cc), ((λ e. cc), ((λ e. cc), tt)))))
    ending (Failed (error UseAfterFree) (at 6 3)) end after_free_fails.0 h after_free_fails.1 in cc

in_callee_cut : NoneAlong freed_by_callee_program 1 (mark Got (at 2 21) ∷ mark Else (at 2 45) ∷ mark (Enter (record { 0 = 0 })) (at 2 59) ∷ mark Freed (at 1 16) ∷ [])
in_callee_cut ending end h =
    let d : marks (mark Freed (at 1 24)) ∷ [] ≡ [] = cut_short freed_by_callee_program 1 [] [] empty_heap empty_state
    (mark Got (at 2 21) ∷ mark Else (at 2 45) ∷ mark (Enter (record { 0 = 0 })) (at 2 59) ∷ mark Freed (at 1 16) ∷ []) (mark Freed (at 1 24) ∷ [])
    ((λ e. cc), ((λ e. cc), ((λ e. cc), ((λ e. cc), tt)))) ((λ e. cc), ((λ e. cc), ((λ e. cc), ((λ e. cc), ((λ e. cc), tt)))))
    ending (Failed (error DoubleFree) (at 1 24)) end in_callee_fails.0 h in_callee_fails.1 in cc

wraps_cut : NoneAlong wraps_tree 0 (mark Then (at 1 53) ∷ [])
wraps_cut ending end h =
    let fails = wraps_fails [] empty_heap empty_state in
    let d : marks (mark Access (at 1 56)) ∷ [] ≡ [] = cut_short wraps_tree 0 [] [] empty_heap empty_state (mark Then (at 1 53) ∷ []) (mark Access (at 1 56) ∷ [])
    ((λ e. cc), tt) ((λ e. cc), ((λ e. cc), tt)) ending (Failed (error NullDereference) (at 1 56)) end fails.0 h fails.1 in cc

in_loop_cut : NoneAlong freed_in_loop_tree 0
    (mark Got (at 1 21) ∷ mark Else (at 1 45) ∷ mark Then (at 1 74) ∷ mark Iter (at 1 67) ∷ mark Freed (at 1 78) ∷ mark Then (at 1 74) ∷ mark Iter (at 1 67) ∷ [])
in_loop_cut ending end h =
    let d : marks (mark Freed (at 1 78)) ∷ [] ≡ [] = cut_short freed_in_loop_tree 0 [] [] empty_heap empty_state
    (mark Got (at 1 21) ∷ mark Else (at 1 45) ∷ mark Then (at 1 74) ∷ mark Iter (at 1 67) ∷ mark Freed (at 1 78) ∷ mark Then (at 1 74) ∷ mark Iter (at 1 67) ∷ []) (mark Freed (at 1 78) ∷ [])
    ((λ e. cc), ((λ e. cc), ((λ e. cc), ((λ e. cc), ((λ e. cc), ((λ e. cc), ((λ e. cc), tt)))))))
    ((λ e. cc), ((λ e. cc), ((λ e. cc), ((λ e. cc), ((λ e. cc), ((λ e. cc), ((λ e. cc), ((λ e. cc), tt))))))))
    ending (Failed (error DoubleFree) (at 1 78)) end in_loop_fails.0 h
    (tree_calls_wider mark_of freed_in_loop_tree (Some 2) None (λ made h. tt) 0 [] empty_heap two_turns (Failed (error DoubleFree) (at 1 78)) in_loop_fails.0 in_loop_fails.1.0) in cc

-- how many marks a trace has, and what the last is
abbrev count : List Mark → ℕ
count [] = 0
count (m ∷ ms) = suc (count ms)

abbrev last_kind : MarkKind → List Mark → MarkKind
last_kind k [] = k
last_kind k (m ∷ ms) = last_kind m.kind ms

two_is_not_three : (n : ℕ) → n ≡ 2 → n ≡ 3 → ⊥
two_is_not_three n e f = absurd (omega arith)

then_is_not_else : Then ≡ Else → ⊥
then_is_not_else e = cc

reads_input_cut : NoneAlong reads_input_tree 0 (mark Input (at 2 29) ∷ mark Then (at 2 38) ∷ [])
reads_input_cut ending end (zero, c) = absurd c
reads_input_cut ending end (suc n, (z, low, high, inl (e, h))) = two_is_not_three 2 refl (ap count h.0)
reads_input_cut ending end (suc n, (z, low, high, inr (e, h))) = then_is_not_else (ap (last_kind Then) h.0)

push_fails : IsManifest (TreeCalls list_program 0) list_program.types (Pointer node ∷ Int ∷ []) push_bug
push_fails (v ∷ Word z ∷ []) heap state = (heap, (9, inl (refl, refl, refl)))
push_fails [] heap state = absurd state.written
push_fails (v ∷ []) heap state = absurd state.written.1
push_fails (v ∷ Null ∷ rest) heap state = absurd state.written.1.0
push_fails (v ∷ Block n ∷ rest) heap state = absurd state.written.1.0
push_fails (v ∷ Unwritten ∷ rest) heap state = absurd state.written.1.0
push_fails (v ∷ Word z ∷ w ∷ rest) heap state = absurd state.written.1.1

push_cut : (arguments : List Value) (heap : HeapMap) → IsCallingState list_program.types (Pointer node ∷ Int ∷ []) arguments heap →
    (ending : Ending) (end : HeapMap) → ¬ TreeCalls list_program 0 arguments heap (mark NoBlock (at 7 35) ∷ []) ending end
push_cut arguments heap state ending end h =
    let fails = push_fails arguments heap state in
    let d : marks (mark Access (at 8 4)) ∷ [] ≡ [] = cut_short list_program 0 (Pointer node ∷ Int ∷ []) arguments heap state (mark NoBlock (at 7 35) ∷ []) (mark Access (at 8 4) ∷ [])
    ((λ e. cc), tt) ((λ e. cc), ((λ e. cc), tt)) ending (Failed (error NullDereference) (at 8 4)) end fails.0 h fails.1 in cc

list_frees : (end : HeapMap) × TreeEvents list_program 2 [] empty_heap (before_second_free ++ second_free) (Failed (error DoubleFree) (at 14 3)) end
list_frees = (
  _,
  (
    9,
    inl (
      less_0,
      (
        tt,
        (
          pushing_block 0,
          Returned (Block 0),
          _,
          inr (0, refl, (refl, (refl, (refl, refl, refl)))),
          inl (
            less_1,
            (
              tt,
              (
                pushing_block 1,
                Returned (Block 1),
                _,
                inr (1, refl, (refl, (refl, (refl, refl, refl)))),
                inr (
                  enough,
                  (
                    dropped,
                    Returned Unwritten,
                    _,
                    inr ((λ e. cc), (refl, (refl, refl, refl))),
                    (
                      pos 10,
                      ten_low,
                      ten_high,
                      inl (
                        refl,
                        (dropped, Failed (error DoubleFree) (at 14 3), _, inr ((λ e. cc), (refl, (refl, refl, refl))), (refl, refl, refl)),
                      ),
                    ),
                  ),
                ),
              ),
            ),
          ),
        ),
      ),
    ),
  ),
)

list_cut : (ending : Ending) (end : HeapMap) → ¬ TreeEvents list_program 2 [] empty_heap before_second_free ending end
list_cut ending end h =
    let (same, none, alike, heaps) = tree_events_agree list_program 2 [] empty_heap before_second_free (before_second_free ++ second_free) ending (Failed (error DoubleFree) (at 14 3)) end list_frees.0 h list_frees.1
    second_free [] (sym (append-nil (before_second_free ++ second_free))) in
    let d : second_free ≡ [] = none in cc

never_written : (t : List Mark) (ending : Ending) (end : HeapMap) → TreeCalls unset_local_tree 0 [] empty_heap t ending end → (t ≡ []) × (ending ≡ Failed (error UninitialisedRead) (at 1 26))
never_written t ending end (zero, c) = absurd c
never_written t ending end (suc n, c) = (c.0, c.1)

pub cuts : WorkedCuts
cuts = record {
  after_free = after_free_cut;
  in_callee = in_callee_cut;
  wrapping = wraps_cut;
  reading_input = reads_input_cut;
  in_loop = in_loop_cut;
  push = push_fails;
  push_cut = push_cut;
  list = list_frees;
  list_cut = list_cut;
  never_written = never_written;
}
