-- The entries of what is found: what holds of one where it holds of those in the tables that its job knows holds of all.
use Rattle.std.proofs.Common.{◌≡◌, ℕ, ◌<◌, Bool, true, false, nat_eq, List, [], ◌∷◌, length, map, slice_get, Option, Some, None, refl, sym, ap, ◌∙◌, subst}
use Rattle.std.specs.Prelude.{option_map, option_and_then}
use Rattle.std.proofs.lemmas.Bool.{eqb-true}
use Rattle.std.proofs.lemmas.Option.{slice_get_within, slice_get-map, none-some, same_Some}
use Rattle.px_base.specs.LimitNumbers.{LimitNumbers}
use Rattle.px_base.specs.declared.trace.ProcId.{ProcId}
use Rattle.px_entry.specs.declared.entries.Entry.{Entry}
use Rattle.px_entry.specs.declared.derivations.Step.{Step}
use Rattle.px_entry.specs.declared.tables.Gap.{Gap}
use Rattle.px_entry.specs.declared.tables.Table.{Table}
use Rattle.px_entry.proofs.Lists.{Each, all_each}
use Rattle.px_syntax.specs.ProgramTree.{ProgramTree}
use Rattle.px_callgraph.specs.declared.jobs.Callee.{Callee}
use Rattle.px_callgraph.specs.declared.jobs.Callee.TheVariants as callee
use Rattle.px_callgraph.specs.JobTree.{JobTree, callee_in}
use Rattle.px_callgraph.specs.Callees.{IsCallee, AreTogether}
use Rattle.px_callgraph.specs.Calls.{entry_in}
use Rattle.px_callgraph.specs.Derivations.{Derives}
use Rattle.px_symexec.specs.One.{Work, IsTabled, IsKnown, IsJob}
use Rattle.px_check.specs.declared.checked.Checked.{Checked}
use Rattle.px_check.specs.Answers.{entry_of, job_of}
use Rattle.px_pieces.specs.declared.findings.Part.{Part}
use Rattle.px_pieces.specs.declared.findings.Part.TheVariants.{Tabled, LeftOut}
use Rattle.px_pieces.specs.Found.{Found, table_of, tables_in}
use Rattle.px_pieces.specs.Pieces.{AreOf}
use Rattle.px_findings.specs.Found.{work_of, AreCertified}
use Rattle.px_truth.proofs.ByCallees.{by_callees}
use Rattle.px_soundness.proofs.WellTyped.{each_get}

-- ---- what a job knows of a procedure

-- an entry that the job of f finds in the table of g
pub record KnownEntry (w : Work) (tables : ℕ → Option Table) (f : ℕ) (g : ProcId) (k : ℕ) (x : Entry) : Type 0 where
  pub calls : IsCallee w.bodies f g.0
  pub tabled : IsTabled w g.0
  pub apart : ¬ AreTogether w.bodies f g.0
  pub table : Table
  pub is : tables g.0 ≡ Some table
  pub at_place : slice_get table.entries k ≡ Some x

module _ (w : Work) (tables : ℕ → Option Table) (f : ℕ) where
  abbrev Knows : ProcId × Callee → Type 0
  Knows c = IsCallee w.bodies f c.0.0 × IsKnown w tables f c.0.0 c.1

  by_callee : (g : ProcId) (c : Callee) (k : ℕ) (x : Entry) → IsCallee w.bodies f g.0 → IsKnown w tables f g.0 c → entry_in c k ≡ Some x → KnownEntry w tables f g k x
  by_callee g (callee.Table t) k x calls known e = record { calls = calls; tabled = known.0; apart = known.1; table = t; is = known.2; at_place = e }
  by_callee g callee.Cycle k x calls known e = absurd (none-some x e)
  by_callee g callee.LeftOut k x calls known e = absurd (none-some x e)
  by_callee g callee.Unknown k x calls known e = absurd (none-some x e)

  known_in : (cs : List (ProcId × Callee)) → Each Knows cs → (g : ProcId) (k : ℕ) (x : Entry) → entry_in (callee_in cs g) k ≡ Some x → KnownEntry w tables f g k x
  known_in [] h g k x e = absurd (none-some x e)
  known_in (c ∷ cs) h g k x e = by (nat_eq c.0.0 g.0) refl (known_in cs h.1 g k x) e
    where
      by : (b : Bool) → nat_eq c.0.0 g.0 ≡ b → (entry_in (callee_in cs g) k ≡ Some x → KnownEntry w tables f g k x) →
          entry_in (elim b as (λ _. Callee) [ true ↦ c.1 | false ↦ callee_in cs g ]) k ≡ Some x → KnownEntry w tables f g k x
      by true same rest e =
          let s : c.0.0 ≡ g.0 = eqb-true c.0.0 g.0 same in
          by_callee g c.1 k x (subst (IsCallee w.bodies f) s h.0.0) (subst (λ n. IsKnown w tables f n c.1) s h.0.1) e
      by false same rest e = rest e

  pub known_entry : (j : JobTree) → IsJob w tables f j → (g : ProcId) (k : ℕ) (x : Entry) → entry_in (callee_in j.callees g) k ≡ Some x → KnownEntry w tables f g k x
  known_entry j job = known_in j.callees (all_each Knows j.callees job.each)

-- ---- the entries of a part

-- an entry of the table of the procedure with this number, as it was checked
pub record FoundEntry (f : Found) (n : ℕ) (x : Entry) : Type 0 where
  pub checked : List Checked
  pub drops : List Gap
  pub part : slice_get f.parts n ≡ Some (Tabled checked drops)
  pub place : ℕ
  pub one : Checked
  pub at_place : slice_get checked place ≡ Some one
  pub is : entry_of one ≡ x

pub mapped_at : {A B : Type 0} (v : A → B) (xs : List A) (k : ℕ) (y : B) → slice_get (map v xs) k ≡ Some y → (x : A) × (slice_get xs k ≡ Some x) × (v x ≡ y)
mapped_at {A} {B} v xs k y e = by (slice_get xs k) refl (sym (slice_get-map v xs k) ∙ e)
  where
    by : (o : Option A) → slice_get xs k ≡ o → option_map v o ≡ Some y → (x : A) × (slice_get xs k ≡ Some x) × (v x ≡ y)
    by None is e = absurd (none-some y e)
    by (Some x) is e = (x, is, same_Some _ _ e)

-- a table that is known is that of a part
pub part_of : (f : Found) (n : ℕ) (t : Table) → tables_in f n ≡ Some t → (checked : List Checked) × (drops : List Gap) × (slice_get f.parts n ≡ Some (Tabled checked drops)) × (map entry_of checked ≡ t.entries)
part_of f n t e = by (slice_get f.parts n) refl e
  where
    by : (o : Option Part) → slice_get f.parts n ≡ o → option_and_then table_of o ≡ Some t →
        (checked : List Checked) × (drops : List Gap) × (slice_get f.parts n ≡ Some (Tabled checked drops)) × (map entry_of checked ≡ t.entries)
    by None is e = absurd (none-some t e)
    by (Some LeftOut) is e = absurd (none-some t e)
    by (Some (Tabled checked drops)) is e = (checked, drops, is, ap (λ (u : Table). u.entries) (same_Some _ _ e))

-- what is known of a callee was found
pub found_of_known : (w : Work) (f : Found) (n : ℕ) (g : ProcId) (k : ℕ) (x : Entry) → KnownEntry w (tables_in f) n g k x → FoundEntry f g.0 x
found_of_known w f n g k x known =
    let (checked, drops, part, entries) = part_of f g.0 known.table known.is in
    let (one, at', is) = mapped_at entry_of checked k x (subst (λ (xs : List Entry). slice_get xs k ≡ Some x) (sym entries) known.at_place) in
    record { checked = checked; drops = drops; part = part; place = k; one = one; at_place = at'; is = is }

module _ (P : ProgramTree) (limits : LimitNumbers) (kinds : List ℕ) (f : Found) (found : AreCertified P limits kinds f) where
  abbrev Works : Work
  Works = work_of P limits kinds

  -- it derives from the job of its procedure
  pub record FoundJob (n : ℕ) (x : Entry) : Type 0 where
    pub job : JobTree
    pub is_job : IsJob Works (tables_in f) n job
    pub steps : List Step
    pub derives : Derives job x steps

  pub found_job : ((c : Checked) → (steps : List Step) × Derives (job_of c) (entry_of c) steps) → (n : ℕ) (x : Entry) → FoundEntry f n x → FoundJob n x
  found_job derived n x e =
      let (j, job, of) = found.checked n e.checked e.drops e.part in
      let own : job_of e.one ≡ j = each_get (λ c. job_of c ≡ j) e.checked e.place e.one (each_of e.checked j of) e.at_place in
      let (steps, d) = derived e.one in
      record { job = j; is_job = job; steps = steps; derives = subst (λ y. Derives j y steps) e.is (subst (λ i. Derives i (entry_of e.one) steps) own d) }
    where
      each_of : (checked : List Checked) (j : JobTree) → AreOf j checked → Each (λ c. job_of c ≡ j) checked
      each_of [] j h = tt
      each_of (c ∷ checked) j h = (h.0, each_of checked j h.1)

  pub found_kept : (n : ℕ) (x : Entry) → FoundEntry f n x → n < length P.procedures
  found_kept n x e = subst (λ m. n < m) found.all (slice_get_within f.parts n (Tabled e.checked e.drops) e.part)

  -- what holds of each found entry, where it holds of those that its job knows
  pub found_hold : ((c : Checked) → (steps : List Step) × Derives (job_of c) (entry_of c) steps) → (Q : ℕ → Entry → Type 0) →
      ((n : ℕ) (x : Entry) → FoundEntry f n x → (j : FoundJob n x) → ((g : ProcId) (k : ℕ) (y : Entry) → entry_in (callee_in j.job.callees g) k ≡ Some y → Q g.0 y) → Q n x) →
      (n : ℕ) (x : Entry) → FoundEntry f n x → Q n x
  found_hold derived Q next n x e = by_callees Works.bodies Works.kept (λ m. (y : Entry) → FoundEntry f m y → Q m y) step n (found_kept n x e) x e
    where
      step : (m : ℕ) → m < Works.kept → ((g : ℕ) → IsCallee Works.bodies m g → g < Works.kept → ¬ AreTogether Works.bodies m g → (y : Entry) → FoundEntry f g y → Q g y) → (y : Entry) → FoundEntry f m y → Q m y
      step m l below y h =
          let j = found_job derived m y h in
          next m y h j
          (λ g k z at'.
          let known = known_entry Works (tables_in f) m j.job j.is_job g k z at' in
          below g.0 known.calls known.tabled.0 known.apart z (found_of_known Works f m g k z known))
