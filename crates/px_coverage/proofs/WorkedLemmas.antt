-- What the tables of small procedures cover.
use Rattle.std.proofs.Common.{◌≡◌, ◌≢◌, ℕ, zero, suc, ◌≤◌, Some, None, cond, List, [], ◌∷◌, ◌++◌, length, pos, slice_get, refl, sym, ap, ◌∙◌, subst, inl, inr, arith}
use Rattle.std.proofs.lemmas.List.Elements.{All-nil}
use Rattle.std.proofs.lemmas.Option.{same_Some}
use Rattle.px_base.specs.declared.trace.Mark.{Mark}
use Rattle.px_base.specs.declared.trace.MarkKind.TheVariants as mark
use Rattle.px_base.specs.declared.trace.Kind.TheVariants.{DoubleFree, DivisionByZero}
use Rattle.px_terms.specs.Valuations.{Valuation}
use Rattle.px_terms.specs.Conjuncts.{IsTrueUnder}
use Rattle.px_terms.specs.declared.types.Value.{Value}
use Rattle.px_terms.specs.declared.types.Value.TheVariants as value
use Rattle.px_entry.specs.declared.entries.Entry.{Entry}
use Rattle.px_entry.specs.declared.tables.Cause.TheVariants.{Nodes}
use Rattle.px_callgraph.specs.WorkedPaths.{site, mark_at, two_frees}
use Rattle.px_meaning.specs.Heaps.{HeapMap, HeapBlock, no_blocks, only_block, IsBlockOf, IsWellTyped, AreWritten}
use Rattle.px_meaning.specs.Steps.{freed_block}
use Rattle.px_meaning.specs.Calls.{error, Ending, Returned, Failed}
use Rattle.px_meaning.specs.CoreCalls.{after, CoreCallsWithin, CallsWithin}
use Rattle.px_meaning.specs.Events.{mark_of}
use Rattle.px_meaning.specs.Triples.{values_from, ending_of}
use Rattle.px_soundness.proofs.AtomHeaps.{absent}
use Rattle.px_soundness.specs.WorkedTriples.{freed_twice, ten_over, by_other}
use Rattle.px_coverage.specs.Covered.{Execution, IsOf, IsCovered}
use Rattle.px_coverage.specs.WorkedCovers.{returns_at_once, program_of, CoversJob, a_table, nothing, of_null, with_its_caller, CoversCaller, called, dropped_call, WorkedCovers}
use Rattle.px_meaning.proofs.Joins.{same_or_other}

-- ---- a body that returns at once

nowhere : Valuation
nowhere x = value.Unwritten

no_arguments : (arguments : List Value) (before : HeapMap) → AreWritten before [] arguments → arguments ≡ values_from nowhere 0 (length arguments)
no_arguments [] before w = refl
no_arguments (a ∷ rest) before w = absurd w

returned : CoversJob returns_at_once (a_table (nothing ∷ []) [])
returned arguments before state trace ending after ((n, runs), few) = by n runs
  where
    e : Execution
    e = record { arguments = arguments; before = before; trace = trace; ending = ending; after = after }

    by : (n : ℕ) → CallsWithin mark_of (Some 3) (program_of returns_at_once) n 0 arguments before trace ending after → IsCovered e (a_table (nothing ∷ []) [])
    by zero h = absurd h
    by (suc zero) h = absurd h
    by (suc (suc n)) (t, end, heap) = inl (
      0,
      nothing,
      omega arith,
      refl,
      record {
        valuation = nowhere;
        satisfies = record { fits = record { sorts = λ x i h. absent h; made = λ x y i j h. absent h; types = λ x y i j s t b h. absent h }; true_of = All-nil (IsTrueUnder nowhere) };
        given = no_arguments arguments before state.written;
        trace = t;
        ending = end;
        found = no_blocks;
        left = no_blocks;
        rest = before;
        finds = (tt, refl);
        leaves = (tt, refl);
        apart_before = λ n. inl refl;
        apart_after = λ n. inl refl;
        begins = refl;
        ends = heap;
      },
    )

-- ---- tables without rows, and with a drop of all traces

no_types : IsWellTyped returns_at_once.types no_blocks
no_types = record { finite = (0, λ n l. refl); typed = λ n b e. absent e }

empty : ¬ CoversJob returns_at_once (a_table [] [])
empty covers = elim (covers [] no_blocks (record { well_typed = no_types; written = tt }) [] (Returned value.Unwritten) no_blocks ((3, (refl, refl, refl)), omega arith)) [
  | inl (k, x, l, is, h) ↦ (let n : ⊥ = omega arith in n)
  | inr (k, x, l, is, h) ↦ (let n : ⊥ = omega arith in n)
]

spent : CoversJob two_frees (a_table [] (record { trace = []; cause = Nodes 1 } ∷ []))
spent arguments before state trace ending after calls = inr (0, record { trace = []; cause = Nodes 1 }, omega arith, refl, (trace, refl))

-- ---- a block that was freed before the call

abbrev a_freed_block : HeapMap
a_freed_block = only_block 1 (freed_block 0)

at_one : (n : ℕ) (b : HeapBlock) → a_freed_block n ≡ Some b → b ≡ freed_block 0
at_one n b e = elim (same_or_other n 1) [
  | inl is ↦ sym (same_Some _ _ (ap (λ q. cond q (Some (freed_block 0)) None) (sym is.1) ∙ e))
  | inr is ↦ absent (ap (λ q. cond q (Some (freed_block 0)) None) (sym is.1) ∙ e)
]

typed : IsWellTyped two_frees.types a_freed_block
typed = record {
  finite = (2, λ n l. beyond n l);
  typed = λ n b e. subst (λ (z : HeapBlock). IsBlockOf a_freed_block (slice_get two_frees.types z.block_type) z.state) (sym (at_one n b e)) tt;
}
  where
    beyond : (n : ℕ) → 2 ≤ n → a_freed_block n ≡ None
    beyond n l = elim (same_or_other n 1) [
      | inl is ↦ absurd (let f : n ≡ 1 = is.0 in let g : ⊥ = omega arith in g)
      | inr is ↦ ap (λ q. cond q (Some (freed_block 0)) None) is.1
    ]

abbrev one_mark : List Mark
one_mark = mark_at mark.Freed 16 ∷ []

fails : CoreCallsWithin 3 (program_of two_frees) 0 (value.Block 1 ∷ []) a_freed_block one_mark (Failed (error DoubleFree) (site 16)) a_freed_block
fails = ((3, (refl, (refl, refl, refl))), omega arith)

without_freed : ¬ CoversJob two_frees (a_table (of_null ∷ freed_twice ∷ []) [])
without_freed covers = by (covers (value.Block 1 ∷ []) a_freed_block (record { well_typed = typed; written = (refl, tt) }) one_mark (Failed (error DoubleFree) (site 16)) a_freed_block fails)
  where
    e : Execution
    e = record { arguments = value.Block 1 ∷ []; before = a_freed_block; trace = one_mark; ending = Failed (error DoubleFree) (site 16); after = a_freed_block }

    none : (x : Entry) → IsOf e x → x.trace ≢ one_mark → ⊥
    none x h other = other (sym h.trace)

    longer : length freed_twice.trace ≡ length one_mark → ⊥
    longer same = cc

    by : IsCovered e (a_table (of_null ∷ freed_twice ∷ []) []) → ⊥
    by (inr (k, x, l, is, h)) = let n : ⊥ = omega arith in n
    by (inl (zero, x, l, is, h)) = none x h (subst (λ (y : Entry). y.trace ≢ one_mark) is (λ same. let f : of_null.trace ≡ one_mark = same in cc))
    by (inl (suc zero, x, l, is, h)) = none x h (subst (λ (y : Entry). y.trace ≢ one_mark) is (λ same. longer (ap length same)))
    by (inl (suc (suc k), x, l, is, h)) = let n : ⊥ = omega arith in n

-- ---- a division by 0

abbrev divided_by_zero : Ending
divided_by_zero = Failed (error DivisionByZero) (site 23)

zero_fails : CoreCallsWithin 3 (program_of ten_over) 0 (value.Word (pos 0) ∷ []) no_blocks [] divided_by_zero no_blocks
zero_fails = ((3, (refl, refl, refl)), omega arith)

without_zero : ¬ CoversJob ten_over (a_table (by_other ∷ []) [])
without_zero covers = by (covers (value.Word (pos 0) ∷ []) no_blocks (record { well_typed = no_types; written = (omega arith, tt) }) [] divided_by_zero no_blocks zero_fails)
  where
    returns : (u : Value) → divided_by_zero ≡ Returned u → ⊥
    returns u same = cc

    by : IsCovered (record { arguments = value.Word (pos 0) ∷ []; before = no_blocks; trace = []; ending = divided_by_zero; after = no_blocks }) (a_table (by_other ∷ []) []) → ⊥
    by (inr (k, x, l, is, h)) = let n : ⊥ = omega arith in n
    by (inl (zero, x, l, is, h)) = returns _ (h.ending ∙ ap (λ (y : Entry). ending_of h.valuation y.exit y.result) (sym is))
    by (inl (suc k, x, l, is, h)) = let n : ⊥ = omega arith in n

-- ---- a call

abbrev both_marks : List Mark
both_marks = mark_at (mark.Enter returns_at_once.proc) 14 ∷ mark_at mark.Leave 14 ∷ []

-- it goes in and comes back, and nothing changes
caller_runs : (n : ℕ) (arguments : List Value) (before : HeapMap) (trace : List Mark) (ending : Ending) (end : HeapMap) → CallsWithin mark_of (Some 3) with_its_caller n 1 arguments before trace ending end →
    (trace ≡ both_marks) × (ending ≡ Returned value.Unwritten) × (end ≡ before)
caller_runs zero arguments before trace ending end h = absurd h
caller_runs (suc zero) arguments before trace ending end (written, (t, ended, heap, calls, back)) = absurd calls
caller_runs (suc (suc zero)) arguments before trace ending end (written, (t, ended, heap, calls, back)) = absurd calls
caller_runs (suc (suc (suc n))) arguments before trace ending end (written, (t, Returned v, heap, calls, back)) =
    (back.0 ∙ ap (λ z. after [] (mark_at (mark.Enter returns_at_once.proc) 14 ∷ (z ++ mark_at mark.Leave 14 ∷ []))) calls.0, back.1, back.2 ∙ calls.2)
caller_runs (suc (suc (suc n))) arguments before trace ending end (written, (t, Failed kind at, heap, calls, back)) = other calls.1
  where
    other : {Q : Type 0} → Failed kind at ≡ Returned value.Unwritten → Q
    other e = cc

through_call : CoversCaller (a_table (called ∷ []) [])
through_call arguments before state trace ending end ((n, runs), few) =
    let (t, ended, heap) = caller_runs n arguments before trace ending end runs in
    inl (
      0,
      called,
      omega arith,
      refl,
      record {
        valuation = nowhere;
        satisfies = record { fits = record { sorts = λ x i h. absent h; made = λ x y i j h. absent h; types = λ x y i j s t b h. absent h }; true_of = All-nil (IsTrueUnder nowhere) };
        given = no_arguments arguments before state.written;
        trace = t;
        ending = ended;
        found = no_blocks;
        left = no_blocks;
        rest = before;
        finds = (tt, refl);
        leaves = (tt, refl);
        apart_before = λ n. inl refl;
        apart_after = λ n. inl refl;
        begins = refl;
        ends = heap;
      },
    )

without_marks : ¬ CoversCaller (a_table (nothing ∷ []) [])
without_marks covers = by (covers [] no_blocks (record { well_typed = no_types; written = tt }) both_marks (Returned value.Unwritten) no_blocks ((4, (tt, ([], Returned value.Unwritten, no_blocks, (refl, refl, refl), (refl, refl, refl)))), omega arith))
  where
    no_trace : both_marks ≡ [] → ⊥
    no_trace same = cc

    by : IsCovered (record { arguments = []; before = no_blocks; trace = both_marks; ending = Returned value.Unwritten; after = no_blocks }) (a_table (nothing ∷ []) []) → ⊥
    by (inr (k, x, l, is, h)) = let n : ⊥ = omega arith in n
    by (inl (zero, x, l, is, h)) = no_trace (h.trace ∙ ap (λ (y : Entry). y.trace) (sym is))
    by (inl (suc k, x, l, is, h)) = let n : ⊥ = omega arith in n

handed_on : CoversCaller (a_table [] (dropped_call ∷ []))
handed_on arguments before state trace ending end ((n, runs), few) = inr (0, dropped_call, omega arith, refl, (mark_at mark.Leave 14 ∷ [], (caller_runs n arguments before trace ending end runs).0))

pub worked : WorkedCovers
worked = record { returned = returned; empty = empty; spent = spent; without_freed = without_freed; without_zero = without_zero; through_call = through_call; without_marks = without_marks; handed_on = handed_on }
