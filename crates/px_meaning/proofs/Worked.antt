-- The executions of the worked programs.
use Rattle.std.proofs.Common.{◌≡◌, ◌≢◌, ℕ, zero, suc, List, [], ◌∷◌, ◌++◌, map, refl, sym, ap, ap₂, ◌∙◌, subst, inl, inr, pos, negsuc, ◌+ℤ◌, ◌<ℤ◌, ◌≤ℤ◌, None, Some, rules, arith}
use Rattle.std.specs.Prelude.{⊤}
use Rattle.std.specs.Int.{w32, int_wrap}
use Rattle.std.proofs.lemmas.List.{map-append}
use Rattle.px_base.specs.declared.trace.Mark.{Mark}
use Rattle.px_base.specs.declared.trace.MarkKind.TheVariants.{Got, Else, Freed, Access, Enter, Input}
use Rattle.px_base.specs.declared.trace.Kind.TheVariants.{UseAfterFree, DoubleFree}
use Rattle.px_meaning.specs.Values.{ValueType, Value, BlockType, One, Int}
use Rattle.px_meaning.specs.Heaps.{HeapMap}
use Rattle.px_meaning.specs.Calls.{error, Ending, Failed, IsCallingState}
use Rattle.px_meaning.specs.Manifest.{Bug, IsManifest}
use Rattle.px_meaning.specs.Events.{Event, marks, reads, makes, mark, mark_of, unnumbered}
use Rattle.px_meaning.specs.CoreCalls.{CoreProgram, CoreCalls, CoreCallsWithin}
use Rattle.px_meaning.proofs.Seen.{calls_across, to_events}
use Rattle.px_meaning.proofs.RenamedRuns.{traces_whole}
use Rattle.px_meaning.specs.WorkedBodies.{at, the_only, program, empty_heap, FailsAlong, unchecked, unchecked_bug, wraps, wraps_bug, reads_input, reads_input_bug, unset_local, unset_local_bug, freed_too_early, until_freed, freed_by_callee, freed_in_loop, two_turns, passes_unset}

-- a procedure without parameters has no arguments
without : (P : CoreProgram) (types : List BlockType) (bug : Bug) → ((heap : HeapMap) → (heap' : HeapMap) × CoreCalls P 0 [] heap bug.trace (Failed (error bug.kind) bug.site) heap') →
    IsManifest (CoreCalls P 0) types [] bug
without P types bug h [] heap state = h heap
without P types bug h (a ∷ rest) heap state = absurd state.written

pub unchecked_fails : IsManifest (CoreCalls (the_only unchecked) 0) (One Int ∷ []) [] unchecked_bug
unchecked_fails = without (the_only unchecked) (One Int ∷ []) unchecked_bug (λ heap. (heap, (30, inl (refl, refl, refl))))

wrapped_low : int_wrap w32 (pos 2147483647 +ℤ pos 1) ≡ negsuc 2147483647
unfolding int_wrap
wrapped_low = refl

pub below : int_wrap w32 (pos 2147483647 +ℤ pos 1) <ℤ pos 0
below = subst (λ z. z <ℤ pos 0) (sym wrapped_low) low
  where
    low : negsuc 2147483647 <ℤ pos 0
    low = search rules

pub wraps_fails : IsManifest (CoreCalls (the_only wraps) 0) (One Int ∷ []) [] wraps_bug
wraps_fails = without (the_only wraps) (One Int ∷ []) wraps_bug (λ heap. (heap, (30, inl (below, inl (refl, (refl, refl, refl))))))

pub ten_low : negsuc 0 ≤ℤ pos 10
ten_low = search rules

pub ten_high : pos 10 ≤ℤ pos 255
ten_high = search rules

pub reads_input_fails : IsManifest (CoreCalls (the_only reads_input) 0) (One Int ∷ []) [] reads_input_bug
reads_input_fails = without (the_only reads_input) (One Int ∷ []) reads_input_bug (λ heap. (heap, (30, (pos 10, ten_low, ten_high, inl (refl, inl (refl, (refl, refl, refl)))))))

pub unset_fails : IsManifest (CoreCalls (the_only unset_local) 0) (One Int ∷ []) [] unset_local_bug
unset_fails = without (the_only unset_local) (One Int ∷ []) unset_local_bug (λ heap. (heap, (30, (refl, refl, refl))))

pub after_free_fails : FailsAlong (the_only freed_too_early) 0 (until_freed ++ mark Access (at 6 3) ∷ []) (Failed (error UseAfterFree) (at 6 3))
after_free_fails = (_, (30, inr (0, refl, inr ((λ e. cc), inr (refl, (refl, (refl, (refl, (refl, refl, refl)))))))))

pub in_callee_fails : FailsAlong (program freed_by_callee) 1
    (mark Got (at 2 21) ∷ mark Else (at 2 45) ∷ mark (Enter (record { 0 = 0 })) (at 2 59) ∷ mark Freed (at 1 16) ∷ mark Freed (at 1 24) ∷ [])
    (Failed (error DoubleFree) (at 1 24))
in_callee_fails = (
  _,
  (
    30,
    inr (
      0,
      refl,
      inr (
        (λ e. cc),
        inr (
          refl,
          ((tt, tt), (mark Freed (at 1 16) ∷ mark Freed (at 1 24) ∷ [], Failed (error DoubleFree) (at 1 24), _, (refl, (refl, (refl, refl, refl))), (refl, refl, refl))),
        ),
      ),
    ),
  ),
)

pub less_0 : pos 0 <ℤ pos 2
less_0 = search rules

wrapped_one : int_wrap w32 (pos 0 +ℤ pos 1) ≡ pos 1
unfolding int_wrap
wrapped_one = refl

pub less_1 : int_wrap w32 (pos 0 +ℤ pos 1) <ℤ pos 2
less_1 = subst (λ z. z <ℤ pos 2) (sym wrapped_one) low
  where
    low : pos 1 <ℤ pos 2
    low = search rules

pub in_loop_fails : (end : HeapMap) × CoreCallsWithin 2 (the_only freed_in_loop) 0 [] empty_heap two_turns (Failed (error DoubleFree) (at 1 78)) end
in_loop_fails = (
  _,
  (
    (
      60,
      inr (
        0,
        refl,
        inr (
          (λ e. cc),
          inr (
            refl,
            inl (
              less_0,
              inl (
                refl,
                (
                  omega arith,
                  (
                    refl,
                    inl (less_1, inl (refl, (omega arith, (refl, (refl, refl, refl))))),
                  ),
                ),
              ),
            ),
          ),
        ),
      ),
    ),
    omega arith,
  ),
)

-- ---- traces without inputs

abbrev pub HasNoInput : List Mark → Type 0
HasNoInput [] = ⊤
HasNoInput (m ∷ ms) = (m.kind ≢ Input) × HasNoInput ms

plain_event : (e : Event) → (mark_of e).kind ≢ Input → unnumbered e ≡ marks (mark_of e)
plain_event (marks m) f = refl
plain_event (reads site z) f = absurd (f refl)
plain_event (makes site n) f = refl

pub plain_events : (es : List Event) (t : List Mark) → map mark_of es ≡ t → HasNoInput t → map unnumbered es ≡ map (λ m. marks m) t
plain_events es t e f = subst (λ u. map unnumbered es ≡ map (λ m. marks m) u) e (go es (subst HasNoInput (sym e) f))
  where
    go : (es : List Event) → HasNoInput (map mark_of es) → map unnumbered es ≡ map (λ m. marks m) (map mark_of es)
    go [] f = refl
    go (e ∷ es) f = ap₂ (λ x y. x ∷ y) (plain_event e f.0) (go es f.1)

-- a trace without inputs has no execution beyond another's
cut_short : (P : CoreProgram) (f : ℕ) (parameters : List ValueType) (arguments : List Value) (heap : HeapMap) → IsCallingState P.types parameters arguments heap → (t more : List Mark) →
    HasNoInput t → HasNoInput (t ++ more) → (d e : Ending) (m n : HeapMap) → CoreCalls P f arguments heap t d m → CoreCalls P f arguments heap (t ++ more) e n → map (λ m. marks m) more ≡ []
cut_short P f parameters arguments heap state t more plain plain' d e m n h h' =
    let (s, s1, g) = calls_across mark_of (λ (e : Event). e) (λ t events. map mark_of events ≡ t) to_events None P f arguments heap t d m h in
    let (s', s1', g') = calls_across mark_of (λ (e : Event). e) (λ t events. map mark_of events ≡ t) to_events None P f arguments heap (t ++ more) e n h' in
    let longer : map unnumbered s' ≡ map unnumbered s ++ map (λ m. marks m) more =
    plain_events s' (t ++ more) s1' plain' ∙ (map-append (λ m. marks m) t more ∙ ap (λ u. u ++ map (λ m. marks m) more) (sym (plain_events s t s1 plain))) in
    (traces_whole P f parameters arguments heap state s s' (map (λ m. marks m) more) d e m n g g' longer).0

pub empty_state : IsCallingState (One Int ∷ []) [] [] empty_heap
empty_state = record {
  well_typed = record { finite = (0, λ n above. refl); typed = λ n b e. let d : None ≡ Some b = e in cc };
  written = tt;
}

pub never_passed : (t : List Mark) (ending : Ending) (end : HeapMap) → ¬ CoreCalls (the_only passes_unset) 0 [] empty_heap t ending end
never_passed t ending end (zero, h) = absurd h
never_passed t ending end (suc zero, h) = absurd h
never_passed t ending end (suc (suc n), h) = absurd h.0.0

pub not_before_access : (ending : Ending) (end : HeapMap) → ¬ CoreCalls (the_only freed_too_early) 0 [] empty_heap until_freed ending end
not_before_access ending end h =
    let d : marks (mark Access (at 6 3)) ∷ [] ≡ [] = cut_short (the_only freed_too_early) 0 [] [] empty_heap empty_state until_freed (mark Access (at 6 3) ∷ [])
    ((λ e. cc), ((λ e. cc), ((λ e. cc), ((λ e. cc), tt)))) ((λ e. cc), ((λ e. cc), ((λ e. cc), ((λ e. cc), ((λ e. cc), tt)))))
    ending (Failed (error UseAfterFree) (at 6 3)) end after_free_fails.0 h after_free_fails.1 in cc
