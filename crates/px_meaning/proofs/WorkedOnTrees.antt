-- The executions of the worked programs, as typed trees.
use Rattle.std.proofs.Common.{[], ◌∷◌, ◌++◌, refl, inl, inr, pos, arith}
use Rattle.px_base.specs.declared.trace.MarkKind.TheVariants.{Got, Else, Input, Freed, Access, Enter, Leave}
use Rattle.px_base.specs.declared.trace.Kind.TheVariants.{UseAfterFree, DoubleFree}
use Rattle.px_meaning.specs.Values.{One, Fields, Int, Word}
use Rattle.px_meaning.specs.Heaps.{HeapMap}
use Rattle.px_meaning.specs.Calls.{error, Returned, Failed}
use Rattle.px_meaning.specs.Manifest.{Bug, IsManifest}
use Rattle.px_meaning.specs.Events.{mark}
use Rattle.px_meaning.specs.TypedProgram.{TypedProgram}
use Rattle.px_meaning.specs.TreeCalls.{TreeCalls, BoundedTreeCalls}
use Rattle.px_meaning.specs.WorkedBodies.{at, empty_heap, unchecked_bug, wraps_bug, reads_input_bug, unset_local_bug, until_freed, two_turns}
use Rattle.px_meaning.specs.WorkedTrees.{unchecked_tree, freed_too_early_tree, freed_by_callee_program, wraps_tree, reads_input_tree, freed_in_loop_tree, unset_local_tree, erased_access_program, erased_access_bug, around_passed_program, member_of_null_tree, member_of_null_bug, member_of_unset_tree, member_of_unset_bug, member_kept_tree}
use Rattle.px_meaning.proofs.Worked.{below, ten_low, ten_high, less_0, less_1}

without : (P : TypedProgram) (bug : Bug) → ((heap : HeapMap) → (heap' : HeapMap) × TreeCalls P 0 [] heap bug.trace (Failed (error bug.kind) bug.site) heap') →
    IsManifest (TreeCalls P 0) (One Int ∷ []) [] bug
without P bug h [] heap state = h heap
without P bug h (a ∷ rest) heap state = absurd state.written

pub unchecked_fails : IsManifest (TreeCalls unchecked_tree 0) (One Int ∷ []) [] unchecked_bug
unchecked_fails = without unchecked_tree unchecked_bug (λ heap. (heap, (9, inl (refl, refl, refl))))

pub wraps_fails : IsManifest (TreeCalls wraps_tree 0) (One Int ∷ []) [] wraps_bug
wraps_fails = without wraps_tree wraps_bug (λ heap. (heap, (9, inl (below, (refl, refl, refl)))))

pub reads_input_fails : IsManifest (TreeCalls reads_input_tree 0) (One Int ∷ []) [] reads_input_bug
reads_input_fails = without reads_input_tree reads_input_bug (λ heap. (heap, (9, (pos 10, ten_low, ten_high, inl (refl, (refl, refl, refl))))))

pub unset_fails : IsManifest (TreeCalls unset_local_tree 0) (One Int ∷ []) [] unset_local_bug
unset_fails = without unset_local_tree unset_local_bug (λ heap. (heap, (9, (refl, refl, refl))))

pub after_free_fails : (end : HeapMap) × TreeCalls freed_too_early_tree 0 [] empty_heap (until_freed ++ mark Access (at 6 3) ∷ []) (Failed (error UseAfterFree) (at 6 3)) end
after_free_fails = (_, (9, inr (0, refl, inr ((λ e. cc), (refl, (refl, (refl, (refl, refl, refl))))))))

pub in_callee_fails : (end : HeapMap) × TreeCalls freed_by_callee_program 1 [] empty_heap
    (mark Got (at 2 21) ∷ mark Else (at 2 45) ∷ mark (Enter (record { 0 = 0 })) (at 2 59) ∷ mark Freed (at 1 16) ∷ mark Freed (at 1 24) ∷ [])
    (Failed (error DoubleFree) (at 1 24)) end
in_callee_fails = (
  _,
  (
    9,
    inr (
      0,
      refl,
      inr (
        (λ e. cc),
        (mark Freed (at 1 16) ∷ mark Freed (at 1 24) ∷ [], Failed (error DoubleFree) (at 1 24), _, (refl, (refl, (refl, refl, refl))), (refl, refl, refl)),
      ),
    ),
  ),
)

pub in_loop_fails : (end : HeapMap) × BoundedTreeCalls 2 freed_in_loop_tree 0 [] empty_heap two_turns (Failed (error DoubleFree) (at 1 78)) end
in_loop_fails = (
  _,
  (
    (
      9,
      inr (
        0,
        refl,
        inr (
          (λ e. cc),
          inl (
            less_0,
            (
              omega arith,
              (
                refl,
                inl (less_1, (omega arith, (refl, (refl, refl, refl)))),
              ),
            ),
          ),
        ),
      ),
    ),
    omega arith,
  ),
)

pub erased_access_fails : IsManifest (TreeCalls erased_access_program 1) (One Int ∷ []) [] erased_access_bug
erased_access_fails [] heap state = (heap, (9, (refl, refl, refl)))
erased_access_fails (a ∷ rest) heap state = absurd state.written

pub around_passed_returns : (end : HeapMap) × TreeCalls around_passed_program 1 [] empty_heap
    (mark Input (at 2 27) ∷ mark Input (at 2 41) ∷ mark (Enter (record { 0 = 0 })) (at 2 22) ∷ mark Leave (at 2 22) ∷ []) (Returned (Word (pos 7))) end
around_passed_returns = (
  _,
  (
    9,
    (pos 10, ten_low, ten_high, (pos 10, ten_low, ten_high, ([], Returned (Word (pos 7)), _, (refl, refl, refl), (refl, refl, refl)))),
  ),
)

pub member_of_null_fails : IsManifest (TreeCalls member_of_null_tree 0) (Fields (Int ∷ []) ∷ []) [] member_of_null_bug
member_of_null_fails [] heap state = (heap, (9, (pos 10, ten_low, ten_high, (refl, refl, refl))))
member_of_null_fails (a ∷ rest) heap state = absurd state.written

pub member_of_unset_fails : IsManifest (TreeCalls member_of_unset_tree 0) (Fields (Int ∷ []) ∷ []) [] member_of_unset_bug
member_of_unset_fails [] heap state = (heap, (9, (refl, refl, refl)))
member_of_unset_fails (a ∷ rest) heap state = absurd state.written

pub member_kept_returns : (end : HeapMap) × TreeCalls member_kept_tree 0 [] empty_heap
    (mark Got (at 2 29) ∷ mark Access (at 2 56) ∷ mark Input (at 2 72) ∷ mark Access (at 2 66) ∷ mark Access (at 2 91) ∷ []) (Returned (Word (pos 7))) end
member_kept_returns = (_, (9, inr (0, refl, (refl, (pos 10, ten_low, ten_high, (refl, (refl, (refl, refl, refl))))))))
