-- The worked tables of two procedures.
use Rattle.std.proofs.Common.{◌≡◌, ℕ, zero, suc, ◌<◌, List, [], ◌∷◌, true, inl, inr, refl, sym, subst, arith}
use Rattle.std.specs.Prelude.{Any, All, AllPairs}
use Rattle.std.proofs.lemmas.List.Elements.{All-nil, All-cons}
use Rattle.px_base.specs.declared.trace.ProcId.{ProcId}
use Rattle.px_core.specs.BodyTree.{BodyTree}
use Rattle.px_entry.specs.declared.tables.Cause.TheVariants as cause
use Rattle.px_entry.proofs.Lists.{each_all}
use Rattle.px_callgraph.specs.declared.jobs.Callee.{Callee}
use Rattle.px_callgraph.specs.declared.jobs.Callee.TheVariants as callee
use Rattle.px_callgraph.specs.JobTree.{JobTree}
use Rattle.px_callgraph.specs.Alternatives.{ways, act}
use Rattle.px_callgraph.specs.ActsLeft.{acts_left}
use Rattle.px_callgraph.specs.Callees.{IsCallee, Reaches, by_call, by_calls, AreTogether}
use Rattle.px_callgraph.specs.WorkedStates.{proc}
use Rattle.px_symexec.specs.Prefixes.{prefixes}
use Rattle.px_symexec.specs.Tables.{Misses}
use Rattle.px_symexec.specs.One.{IsLeftOut, IsTabled, IsKnown, IsJob, IsTableIn}
use Rattle.px_symexec.specs.WorkedTables.{HasTable}
use Rattle.px_symexec.specs.WorkedOne.{calls_itself, calls_three, two_bodies, two_procedures, drops_call, two_tables, WorkedOne}
use Rattle.px_symexec.proofs.PlaceLists.{found_nothing}
use Rattle.px_symexec.proofs.WorkedTableLemmas.{by_rows}

abbrev job_with : ℕ → BodyTree → List (ProcId × Callee) → JobTree
job_with f body callees = record {
  proc = proc f;
  body = body;
  types = two_procedures.types;
  callees = callees;
  limits = two_procedures.limits;
  kinds = [];
  ticket = 0;
}

abbrev first_job : JobTree
first_job = job_with 0 calls_itself ((proc 0, callee.Cycle) ∷ [])

abbrev second_job : JobTree
second_job = job_with 1 calls_three ((proc 0, callee.Table (drops_call 1 (cause.Cycle (proc 0)))) ∷ (proc 2, callee.LeftOut) ∷ (proc 3, callee.Unknown) ∷ [])

-- ---- tables

first_table : HasTable first_job 1 (drops_call 1 (cause.Cycle (proc 0)))
unfolding prefixes ways act acts_left
first_table =
    by_rows first_job 1 (true ∷ []) (Misses _ ∷ []) [] (found_nothing.not_refuted, tt) (_, _, refl, refl, refl) (omega arith) (omega arith) refl

second_table : HasTable second_job 1 (drops_call 2 (cause.Dropped (proc 0)))
unfolding prefixes ways act acts_left
second_table =
    by_rows second_job 1 (true ∷ []) (Misses _ ∷ []) [] (found_nothing.not_refuted, tt) (_, _, refl, refl, refl) (omega arith) (omega arith) refl

-- ---- who is left out, and who is together

not_out : (f : ℕ) → f < 2 → ¬ IsLeftOut two_procedures f
not_out f l (zero, p, k, e, i) = named e i
  where
    named : proc 2 ≡ p → p.0 ≡ f → ⊥
    named e i = let q : ◌≡◌ {A = ℕ} 2 f = subst (λ (z : ProcId). z.0 ≡ f) (sym e) i in omega (arith, q, l)
not_out f l (suc k, p, m, e, i) = omega (arith, m)

tabled : (f : ℕ) → f < 2 → IsTabled two_procedures f
tabled f l = (l, not_out f l)

out : IsLeftOut two_procedures 2
out = (0, proc 2, (let l : 0 < 1 = omega arith in l), refl, refl)

not_three : ¬ IsLeftOut two_procedures 3
not_three (zero, p, k, e, i) = named e i
  where
    named : proc 2 ≡ p → p.0 ≡ 3 → ⊥
    named e i = let q : ◌≡◌ {A = ℕ} 2 3 = subst (λ (z : ProcId). z.0 ≡ 3) (sym e) i in omega (arith, q)
not_three (suc k, p, m, e, i) = omega (arith, m)

-- f calls nobody but itself
itself : (f g : ℕ) → f ≡ 0 → IsCallee two_bodies f g → g ≡ 0
itself zero g e (inl i) = sym i
itself zero g e (inr i) = absurd i
itself (suc f) g e c = let n : ⊥ = omega (arith, e) in absurd n

only_itself : (f h : ℕ) → f ≡ 0 → Reaches two_bodies f h → h ≡ 0
only_itself f h e (by_call c) = itself f h e c
only_itself f h e (by_calls {g} c r) = only_itself g h (itself f g e c) r

together : AreTogether two_bodies 0 0
together = (by_call (inl refl), by_call (inl refl))

apart : ¬ AreTogether two_bodies 1 0
apart (r, s) = let e : ◌≡◌ {A = ℕ} 1 0 = only_itself 0 1 refl s in omega (arith, e)

-- ---- jobs

abbrev Known : Type 0
Known = ProcId × Callee

first_is_job : IsJob two_procedures two_tables 0 first_job
first_is_job = record {
  proc = refl;
  body = refl;
  types = refl;
  limits = refl;
  kinds = refl;
  rising = λ i k d l m. (let n : ⊥ = omega (arith, l, m) in absurd n);
  all = λ g c. (0, (proc 0, callee.Cycle), (let l : 0 < 1 = omega arith in l), refl, sym (itself 0 g refl c));
  each = All-cons (λ (c : Known). IsCallee two_bodies 0 c.0.0 × IsKnown two_procedures two_tables 0 c.0.0 c.1) (proc 0, callee.Cycle) [] (inl refl, (tabled 0 (omega arith), together)) (All-nil _);
}

rising_three : AllPairs (λ (c d : Known). c.0.0 < d.0.0) second_job.callees
rising_three zero (suc zero) d l m = omega arith
rising_three zero (suc (suc zero)) d l m = omega arith
rising_three (suc zero) (suc (suc zero)) d l m = omega arith
rising_three i zero d l m = let n : ⊥ = omega (arith, l) in absurd n
rising_three i (suc (suc (suc k))) d l m = let n : ⊥ = omega (arith, m) in absurd n
rising_three (suc i) (suc zero) d l m = let n : ⊥ = omega (arith, l) in absurd n
rising_three (suc (suc i)) (suc (suc zero)) d l m = let n : ⊥ = omega (arith, l) in absurd n

all_three : (g : ℕ) → IsCallee two_bodies 1 g → Any (λ (c : Known). c.0.0 ≡ g) second_job.callees
all_three g (inl e) = (0, (proc 0, _), (let l : 0 < 3 = omega arith in l), refl, e)
all_three g (inr (inl e)) = (1, (proc 2, _), (let l : 1 < 3 = omega arith in l), refl, e)
all_three g (inr (inr (inl e))) = (2, (proc 3, _), (let l : 2 < 3 = omega arith in l), refl, e)
all_three g (inr (inr (inr e))) = absurd e

abbrev IsGiven : Known → Type 0
IsGiven c = IsCallee two_bodies 1 c.0.0 × IsKnown two_procedures two_tables 1 c.0.0 c.1

each_three : All IsGiven second_job.callees
each_three =
    each_all IsGiven second_job.callees (
      (inl refl, (tabled 0 (omega arith), apart, refl)),
      ((inr (inl refl), out), ((inr (inr (inl refl)), ((λ l. let n : ⊥ = omega (arith, l) in n), not_three)), tt)),
    )

second_is_job : IsJob two_procedures two_tables 1 second_job
second_is_job = record { proc = refl; body = refl; types = refl; limits = refl; kinds = refl; rising = rising_three; all = all_three; each = each_three }

pub worked_one : WorkedOne
worked_one = record { two = by }
  where
    by : (f : ℕ) → IsTableIn two_procedures two_tables f (two_tables f)
    by zero = (tabled 0 (omega arith), first_job, first_is_job, first_table.is_table)
    by (suc zero) = (tabled 1 (omega arith), second_job, second_is_job, second_table.is_table)
    by (suc (suc f)) = λ t. let l : suc (suc f) < 2 = t.0 in omega (arith, l)
