-- An error that an entry has which looks manifest is shown for at least one procedure: where it isn't shown for the entry's
-- own, its trace is in a call of a procedure that has the error too, and so on, each below the one before.
use Rattle.std.proofs.Common.{◌≡◌, ℕ, ◌<◌, Bool, true, false, ◌&&◌, List, map, slice_get, Option, Some, None, refl, sym, ap, ◌∙◌, subst}
use Rattle.std.specs.Prelude.{option_map, Contains}
use Rattle.std.specs.List.{list_any}
use Rattle.std.proofs.lemmas.Option.{slice_get_within, slice_get-map}
use Rattle.px_base.specs.LimitNumbers.{LimitNumbers}
use Rattle.px_base.specs.declared.trace.ProcId.{ProcId}
use Rattle.px_base.specs.declared.trace.Kind.{Kind}
use Rattle.px_base.specs.declared.trace.Site.{Site}
use Rattle.px_entry.specs.declared.entries.Entry.{Entry}
use Rattle.px_entry.specs.declared.derivations.Step.{Step}
use Rattle.px_entry.specs.declared.tables.Gap.{Gap}
use Rattle.px_syntax.specs.ProgramTree.{ProgramTree}
use Rattle.px_callgraph.specs.Callees.{IsCallee, AreTogether}
use Rattle.px_callgraph.specs.Derivations.{Derives}
use Rattle.px_symexec.specs.One.{Work}
use Rattle.px_check.specs.declared.checked.Checked.{Checked}
use Rattle.px_check.specs.Answers.{entry_of, job_of}
use Rattle.px_pieces.specs.declared.findings.Part.{Part}
use Rattle.px_pieces.specs.declared.findings.Part.TheVariants.{Tabled, LeftOut}
use Rattle.px_pieces.specs.Found.{Found, tables_in}
use Rattle.px_findings.specs.Found.{work_of, AreCertified}
use Rattle.px_text_report.specs.declared.shown.Bug.{Bug}
use Rattle.px_text_report.specs.Known.{tabled, left_out, known_of, known}
use Rattle.px_text_report.specs.Calls.{open_call}
use Rattle.px_text_report.specs.Bugs.{same_kind, same_site, same_error, has_error_too, is_inner, all_bugs}
use Rattle.px_text_report.specs.Laws.{HasBug, HasBugAt, BugsAreOfEntries}
use Rattle.px_text_report.proofs.BugLemmas.{contains_get, same_there}
use Rattle.px_truth.proofs.EnteredCalls.{FitsExit, TablesFit}
use Rattle.px_truth.proofs.DerivedCalls.{derived_fits, open_of}
use Rattle.px_truth.proofs.ByCallees.{by_callees}
use Rattle.px_truth.proofs.FoundEntries.{known_entry, FoundEntry, mapped_at, found_of_known, FoundJob, found_job, found_hold}

-- ---- the same error

never : {A : Type 0} → false ≡ true → A
never e = absurd (no e)
  where
    no : false ≡ true → ⊥
    no e = cc

abbrev is_shown : Kind → Site → List Bug → Bool
is_shown kind site bugs = list_any (λ (d : Bug). same_kind kind d.kind && same_site site d.site) bugs

-- ---- the entry that has a bug

pub known_part : (f : Found) (n : ℕ) (entries : List Entry) (drops : List Gap) → slice_get (known f) n ≡ Some (tabled entries drops) →
    (checked : List Checked) × (slice_get f.parts n ≡ Some (Tabled checked drops)) × (map entry_of checked ≡ entries)
known_part f n entries drops e = by (mapped_at known_of f.parts n (tabled entries drops) e)
  where
    same : (x y : List Entry) (d g : List Gap) → tabled x d ≡ tabled y g → (x ≡ y) × (d ≡ g)
    same x y d g e = (cc, cc)

    no : left_out ≡ tabled entries drops → ⊥
    no e = cc

    by : (p : Part) × (slice_get f.parts n ≡ Some p) × (known_of p ≡ tabled entries drops) →
        (checked : List Checked) × (slice_get f.parts n ≡ Some (Tabled checked drops)) × (map entry_of checked ≡ entries)
    by (LeftOut, at', is) = absurd (no is)
    by (Tabled checked gaps, at', is) =
        let (x, d) = same (map entry_of checked) entries gaps drops is in (checked, subst (λ z. slice_get f.parts n ≡ Some (Tabled checked z)) d at', x)

-- an entry of a table is one that was found
pub table_entry : (f : Found) (n : ℕ) (xs : List Entry) (drops : List Gap) (x : Entry) → slice_get (known f) n ≡ Some (tabled xs drops) → Contains xs x → FoundEntry f n x
table_entry f n xs drops x table within =
    let (checked, part, entries) = known_part f n xs drops table in
    let (k, at') = contains_get xs x within in
    let (one, there, is) = mapped_at entry_of checked k x (subst (λ (ys : List Entry). slice_get ys k ≡ Some x) (sym entries) at') in
    record { checked = checked; drops = drops; part = part; place = k; one = one; at_place = there; is = is }

pub bug_entry : (f : Found) (n : ℕ) (b : Bug) (h : HasBugAt (known f) n b) → FoundEntry f n h.entry
bug_entry f n b h = table_entry f n h.entries h.drops h.entry h.table h.within

-- ---- errors that are shown

module _ (bugs : BugsAreOfEntries) (derived : (c : Checked) → (steps : List Step) × Derives (job_of c) (entry_of c) steps)
    (P : ProgramTree) (limits : LimitNumbers) (kinds : List ℕ) (f : Found) (found : AreCertified P limits kinds f) where
  abbrev Works : Work
  Works = work_of P limits kinds

  -- the traces of found entries are as derivations ask for
  found_fit : (n : ℕ) (x : Entry) → FoundEntry f n x → FitsExit x.exit x.trace
  found_fit = found_hold P limits kinds f found derived (λ n x. FitsExit x.exit x.trace) (λ n x e j below. derived_fits j.job below x j.steps j.derives)

  tables_fit : (n : ℕ) (x : Entry) (j : FoundJob P limits kinds f found n x) → TablesFit j.job
  tables_fit n x j g k y at' = found_fit g.0 y (found_of_known Works f n g k y (known_entry Works (tables_in f) n j.job j.is_job g k y at'))

  abbrev IsShown : Bug → Type 0
  IsShown b = list_any (same_error b) (all_bugs (known f)) ≡ true

  abbrev AreShown : ℕ → Type 0
  AreShown n = (b : Bug) → HasBugAt (known f) n b → IsShown b

  -- an inner error is one of a procedure below
  shown_below : (n : ℕ) → ((g : ℕ) → IsCallee Works.bodies n g → g < Works.kept → ¬ AreTogether Works.bodies n g → AreShown g) → (b : Bug) (h : HasBugAt (known f) n b) →
      (o : Option ProcId) → open_call b.trace ≡ o → has_error_too (known f) b o ≡ true → IsShown b
  shown_below n below b h None opened is = never is
  shown_below n below b h (Some g) opened is =
      let (c, there, error) = bugs.of_entry (known f) g b is in
      let j = found_job P limits kinds f found derived n h.entry (bug_entry f n b h) in
      let (k, y, at', exit) = open_of j.job (tables_fit n h.entry j) h.entry j.steps b.kind b.site g j.derives h.has.ends (ap open_call (sym h.has.trace) ∙ opened) in
      let met = known_entry Works (tables_in f) n j.job j.is_job g k y at' in
      same_there b c (all_bugs (known f)) error (below g.0 met.calls met.tabled.0 met.apart c there)

  all_shown : (n : ℕ) → n < Works.kept → AreShown n
  all_shown = by_callees Works.bodies Works.kept AreShown step
    where
      step : (n : ℕ) → n < Works.kept → ((g : ℕ) → IsCallee Works.bodies n g → g < Works.kept → ¬ AreTogether Works.bodies n g → AreShown g) → AreShown n
      step n l below b h = by (is_inner (known f) b) refl
        where
          by : (inner : Bool) → is_inner (known f) b ≡ inner → IsShown b
          by false is = bugs.shown (known f) n b h is
          by true is = shown_below n below b h (open_call b.trace) refl is

  pub errors_shown : (n : ℕ) (checked : List Checked) (drops : List Gap) (x : Entry) (b : Bug) → slice_get f.parts n ≡ Some (Tabled checked drops) → Contains (map entry_of checked) x → HasBug x b → IsShown b
  errors_shown n checked drops x b part within has =
      let l : n < Works.kept = subst (λ m. n < m) found.all (slice_get_within f.parts n (Tabled checked drops) part) in
      all_shown n l b
      (record { entries = map entry_of checked; drops = drops; table = slice_get-map known_of f.parts n ∙ ap (option_map known_of) part; entry = x; within = within; has = has })
