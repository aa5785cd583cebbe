use Rattle.std.proofs.Common.{rules, ◌≡◌, ℕ, zero, suc, pos, Some, List, [], ◌∷◌, inl, inr, refl, sym, subst}
use Rattle.std.specs.Prelude.{FitsSigned}
use Rattle.std.specs.Int.{w32}
use Rattle.std.proofs.lemmas.Option.{same_Some}
use Rattle.px_core.specs.Constants.{HasConstantsInRange}
use Rattle.px_entry.specs.declared.entries.Entry.{Entry}
use Rattle.px_entry.specs.declared.derivations.Rule.TheVariants as rule
use Rattle.px_entry.specs.declared.derivations.Step.{Step}
use Rattle.px_callgraph.specs.JobTree.{callee_in}
use Rattle.px_callgraph.specs.Calls.{entry_in}
use Rattle.px_callgraph.specs.Alternatives.{ways, act}
use Rattle.px_callgraph.specs.WorkedStates.{proc}
use Rattle.px_callgraph.specs.WorkedDerivations.{a_step, alone}
use Rattle.px_callgraph.specs.WorkedPaths.{two_frees}
use Rattle.px_callgraph.specs.Callees.{NamedIn}
use Rattle.px_soundness.specs.Laws.{IsEntryOf, HasTrueTables}
use Rattle.px_soundness.specs.WorkedTriples.{freed_twice, calls_it, program, ten_over, divides}
use Rattle.px_soundness.proofs.AtomHeaps.{absent}
use Rattle.px_soundness.proofs.Entries.{course_sound}
use Rattle.px_soundness.proofs.Valid.{P}
use Rattle.px_soundness.proofs.LostBlocks.{lost_block}
use Rattle.px_soundness.proofs.laws.worked_triples.Goals as goal

in_range : HasConstantsInRange two_frees.body
in_range = (tt, (tt, (tt, (tt, tt))))

nobody : (f : ℕ) → NamedIn f two_frees.body.commands → ⊥
nobody f (inl h) = h
nobody f (inr (inl h)) = h
nobody f (inr (inr (inl h))) = h
nobody f (inr (inr (inr (inl h)))) = h
nobody f (inr (inr (inr (inr h)))) = h

tables : HasTrueTables (P program.bodies two_frees) two_frees
tables f n x named is = absurd (nobody f.0 named)

in_range_too : HasConstantsInRange calls_it.body
in_range_too = (tt, ((tt, tt), tt))

abbrev null_steps : List Step
null_steps = alone rule.ReadWritten ∷ alone rule.FreeNull ∷ alone rule.ReadWritten ∷ alone rule.FreeNull ∷ alone rule.End ∷ []

abbrev live_steps : List Step
live_steps = alone rule.ReadWritten ∷ alone rule.MissingLive ∷ a_step rule.Free (0 ∷ []) ∷ alone rule.ReadWritten ∷ a_step rule.FreeTwice (0 ∷ []) ∷ alone rule.End ∷ []

abbrev freed_steps : List Step
freed_steps = alone rule.ReadWritten ∷ alone rule.MissingFreed ∷ a_step rule.FreeTwice (0 ∷ []) ∷ alone rule.End ∷ []

-- the callee's entry derives, so the caller's table is true
derived : IsEntryOf program (proc 0) two_frees.body freed_twice
unfolding ways act
derived = course_sound program.bodies two_frees in_range refl tables live_steps 5 _ _ _ _ (20, refl)

true_at : (n : ℕ) (x : Entry) → entry_in (callee_in calls_it.callees (proc 0)) n ≡ Some x → IsEntryOf program (proc 0) two_frees.body x
true_at zero x e = subst (IsEntryOf program (proc 0) two_frees.body) (same_Some _ _ e) derived
true_at (suc n) x e = absent e

only_callee : (f : ℕ) → NamedIn f calls_it.body.commands → 0 ≡ f
only_callee f (inl h) = absurd h
only_callee f (inr (inl h)) = h
only_callee f (inr (inr h)) = absurd h

true_tables : HasTrueTables (P program.bodies calls_it) calls_it
true_tables f n x named is =
    let same : 0 ≡ f.0 = only_callee f.0 named in
    let at_zero : entry_in (callee_in calls_it.callees (proc 0)) n ≡ Some x = subst (λ m. entry_in (callee_in calls_it.callees (record { 0 = m })) n ≡ Some x) (sym same) is in
    (two_frees.body, subst (λ m. program.bodies m ≡ Some two_frees.body) same refl, subst (λ m. IsEntryOf program (record { 0 = m }) two_frees.body x) same (true_at n x at_zero))

-- the first entry of the callee, and a block that the path hasn't met
abbrev call_steps : List Step
call_steps = alone rule.ReadWritten ∷ a_step rule.Call (0 ∷ 0 ∷ []) ∷ alone rule.End ∷ []

ten_fits : FitsSigned w32 (pos 10)
ten_fits = search rules

in_range_over : HasConstantsInRange ten_over.body
in_range_over = (tt, ((ten_fits, tt), (tt, tt)))

calls_nobody : (f : ℕ) → NamedIn f ten_over.body.commands → ⊥
calls_nobody f (inl h) = h
calls_nobody f (inr (inl h)) = h
calls_nobody f (inr (inr (inl h))) = h
calls_nobody f (inr (inr (inr h))) = h

no_tables : HasTrueTables (P divides.bodies ten_over) ten_over
no_tables f n x named is = absurd (calls_nobody f.0 named)

abbrev over_zero_steps : List Step
over_zero_steps = alone rule.ReadWritten ∷ alone rule.DivideZero ∷ alone rule.End ∷ []

abbrev over_other_steps : List Step
over_other_steps = alone rule.ReadWritten ∷ alone rule.Divide ∷ alone rule.End ∷ []

pub returns : goal.returns
unfolding ways act
returns c = record {
  null = (course_sound program.bodies two_frees in_range refl tables null_steps 4 _ _ _ _ (20, refl)).valid;
  live = derived.valid;
  freed_before = (course_sound program.bodies two_frees in_range refl tables freed_steps 3 _ _ _ _ (20, refl)).valid;
  lost = lost_block;
  called = (course_sound program.bodies calls_it in_range_too refl true_tables call_steps 2 _ _ _ _ (20, refl)).valid;
  over_zero = (course_sound divides.bodies ten_over in_range_over refl no_tables over_zero_steps 2 _ _ _ _ (20, refl)).valid;
  over_other = (course_sound divides.bodies ten_over in_range_over refl no_tables over_other_steps 2 _ _ _ _ (20, refl)).valid;
}
