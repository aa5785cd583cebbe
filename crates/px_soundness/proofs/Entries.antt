-- Entries that derive.
use Rattle.std.proofs.Common.{◌≡◌, ℕ, zero, suc, Bool, true, false, not, Option, Some, List, [], ◌∷◌, length, refl, sym, ap, subst}
use Rattle.std.specs.List.{list_all}
use Rattle.std.proofs.lemmas.Bool.{and_parts}
use Rattle.px_base.specs.declared.trace.ProcId.{ProcId}
use Rattle.px_terms.specs.declared.types.Value.{Value}
use Rattle.px_terms.specs.declared.variables.VarInfo.{VarInfo}
use Rattle.px_terms.specs.declared.conjuncts.Content.{Content}
use Rattle.px_core.specs.BodyTree.{BodyTree}
use Rattle.px_core.specs.Constants.{HasConstantsInRange}
use Rattle.px_entry.specs.declared.entries.Entry.{Entry}
use Rattle.px_entry.specs.declared.entries.Exit.{Exit}
use Rattle.px_entry.specs.declared.derivations.Step.{Step}
use Rattle.px_entry.specs.Sorts.{is_given_sort}
use Rattle.px_entry.specs.Regular.{are_given, is_regular}
use Rattle.px_callgraph.specs.declared.states.State.{State}
use Rattle.px_callgraph.specs.JobTree.{JobTree, callee_in}
use Rattle.px_callgraph.specs.Commands.{argument_contents}
use Rattle.px_callgraph.specs.Calls.{entry_in}
use Rattle.px_callgraph.specs.declared.outcomes.StepOutcome.TheVariants.{Next}
use Rattle.px_callgraph.specs.Alternatives.{start}
use Rattle.px_callgraph.specs.Derivations.{Derives, RunsTo, comes_to}
use Rattle.px_meaning.specs.CoreCalls.{CoreProgram, CoreCalls}
use Rattle.px_meaning.specs.Triples.{IsValid}
use Rattle.px_entry.proofs.Lists.{Each}
use Rattle.px_check.specs.Answers.{entry_of, job_of}
use Rattle.px_callgraph.specs.Callees.{NamedIn}
use Rattle.px_soundness.specs.Laws.{IsJobOf, IsEntryOf, HasTrueTables, EntriesAreValid, IsBuilt, BuiltEntriesAreValid, CheckedAreValid}
use Rattle.px_soundness.proofs.Paths.{path}
use Rattle.px_soundness.proofs.RegularEnds.{end_regular}
use Rattle.px_soundness.proofs.Valid.{P, calls, start_well_formed, entry_at, entry_is, end_valid}
use Rattle.px_soundness.proofs.EntryParts.{given_of}
use Rattle.px_soundness.proofs.CallEntered.{call_good}
use Rattle.px_soundness.proofs.DerivedAgain.{derived_again}

-- ---- parameters are as many as arguments

given_or_none : (n : ℕ) (vars : List VarInfo) → list_all (λ (i : VarInfo). not (is_given_sort i.sort)) vars ≡ true → are_given (suc n) vars ≡ true → ⊥
given_or_none n [] e f = let g : false ≡ true = f in cc
given_or_none n (i ∷ vars) e f = both (is_given_sort i.sort) (and_parts (is_given_sort i.sort) (are_given n vars) f).0 (and_parts (not (is_given_sort i.sort)) (list_all (λ (i : VarInfo). not (is_given_sort i.sort)) vars) e).0
  where
    both : (b : Bool) → b ≡ true → not b ≡ true → ⊥
    both true e f = let g : false ≡ true = f in cc
    both false e f = let g : false ≡ true = e in cc

same_given : (m n : ℕ) (vars : List VarInfo) → are_given m vars ≡ true → are_given n vars ≡ true → m ≡ n
same_given zero zero vars e f = refl
same_given zero (suc n) vars e f = absurd (given_or_none n vars e f)
same_given (suc m) zero vars e f = absurd (given_or_none m vars f e)
same_given (suc m) (suc n) [] e f = cc
same_given (suc m) (suc n) (i ∷ vars) e f =
    ap suc (same_given m n vars (and_parts (is_given_sort i.sort) (are_given m vars) e).1 (and_parts (is_given_sort i.sort) (are_given n vars) f).1)

-- ---- entries

pub any_steps : (steps : List Step) → Each (λ (st : Step). Unit {0}) steps
any_steps [] = tt
any_steps (st ∷ steps) = (tt, any_steps steps)

module _ (bodies : ℕ → Option BodyTree) (j : JobTree) (range : HasConstantsInRange j.body) (kept : bodies j.proc.0 ≡ Some j.body) (tables : HasTrueTables (P bodies j) j) where
  valid_of : (proc : ProcId) (args : List Content) → NamedIn proc.0 j.body.commands → (n : ℕ) (x : Entry) → entry_in (callee_in j.callees proc) n ≡ Some x → is_regular j.types (length args) x ≡ true → IsValid (calls bodies j proc.0) (length args) x
  valid_of proc args named n x is regular =
      let (b, body, entry) = tables proc n x named is in
      subst (λ m. IsValid (CoreCalls (P bodies j) proc.0) m x)
      (same_given (length b.parameters) (length args) x.vars (given_of j.types (length b.parameters) x entry.regular.regular) (given_of j.types (length args) x regular)) entry.valid

  pub course_sound : (steps : List Step) (place : ℕ) (t : State) (e : Exit) (r : Option Content) (model : List Value) → RunsTo j steps (comes_to place t e r []) → IsEntryOf (P bodies j) j.proc j.body (entry_at j t e r model)
  course_sound steps place t e r model (n, run) =
      let (p, well_typed, well, complete) = path j (calls bodies j) t e r (λ st. Unit {0})
      (λ s k to proc arguments site st a allowed is h leads.
      call_good j (calls bodies j) s k to proc arguments site h (λ m x. valid_of proc (argument_contents s arguments) h.keeps.0.1 m x) st.choices a leads)
      n 0 steps (Next (start j)) place [] (any_steps steps) run (refl, start_well_formed j range) in
      record {
        proc = refl;
        regular = end_regular j t well_typed complete e r model well;
        valid = end_valid bodies j range kept t e r p well_typed well model;
      }

  entry_sound : (x : Entry) (steps : List Step) → Derives j x steps → IsEntryOf (P bodies j) j.proc j.body x
  entry_sound x steps d = subst (IsEntryOf (P bodies j) j.proc j.body) (entry_is j d.state d.exit d.result x d.is_end) (course_sound steps d.place d.state d.exit d.result x.model d.runs)

pub entries_valid : EntriesAreValid
entries_valid P' j x steps of tables d = (
  subst (λ ts. IsEntryOf (let Q : CoreProgram = record { types = ts; bodies = P'.bodies } in Q) j.proc j.body x) of.types
      (entry_sound P'.bodies j of.constants of.body (subst (λ ts. HasTrueTables (let Q : CoreProgram = record { types = ts; bodies = P'.bodies } in Q) j) (sym of.types) tables) x steps d),
  d.is_end.satisfied,
)

job_of_built : (depth : ℕ) (P' : CoreProgram) (j : JobTree) → IsBuilt depth P' j → IsJobOf P' j
job_of_built zero P' j b = absurd b
job_of_built (suc depth) P' j b = b.0

-- tables that are built from below are true
true_tables : (depth : ℕ) (P' : CoreProgram) (j : JobTree) → IsBuilt depth P' j → HasTrueTables P' j
true_tables zero P' j b f n x named is = absurd b
true_tables (suc depth) P' j b f n x named is =
    let (k, same, below, steps, d) = b.1 f n x named is in
    let job : IsJobOf P' k = job_of_built depth P' k below in
    (k.body, subst (λ (g : ProcId). P'.bodies g.0 ≡ Some k.body) same job.body, subst (λ g. IsEntryOf P' g k.body x) same (entries_valid P' k x steps job (true_tables depth P' k below) d).0)

pub built_valid : BuiltEntriesAreValid
built_valid P' j x steps depth b d = entries_valid P' j x steps (job_of_built depth P' j b) (true_tables depth P' j b) d

pub checked_valid : CheckedAreValid
checked_valid = record {
  derives = λ c. derived_again (job_of c) (entry_of c) c.derived;
  valid = λ P' c of tables. let (steps, d) = derived_again (job_of c) (entry_of c) c.derived in entries_valid P' (job_of c) (entry_of c) steps of tables d;
}
