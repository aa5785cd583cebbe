-- What the bugs of a report are.
use Rattle.std.specs.Prelude.{◌≡◌, ℕ, true, false, List, All, Contains, Some, slice_get}
use Rattle.std.specs.List.{list_any}
use Rattle.px_base.specs.declared.trace.ProcId.{ProcId}
use Rattle.px_entry.specs.declared.entries.Entry.{Entry}
use Rattle.px_entry.specs.declared.entries.Exit.TheVariants.{Error}
use Rattle.px_entry.specs.declared.tables.Gap.{Gap}
use Rattle.px_manifest.specs.LooksManifest.{looks_manifest}
use Rattle.px_text_report.specs.declared.shown.Bug.{Bug}
use Rattle.px_text_report.specs.Known.{Known, tabled}
use Rattle.px_text_report.specs.Bugs.{same_error, has_error, is_inner, bugs_of, all_bugs}

-- an entry has this bug: it looks manifest, and ends in it
pub record HasBug (x : Entry) (b : Bug) : Type 0 where
  pub looks : looks_manifest x ≡ true
  pub ends : x.exit ≡ Error b.kind b.site
  pub proc : b.proc ≡ x.proc
  pub trace : b.trace ≡ x.trace

-- an entry of the table of the procedure with this number has this bug
pub record HasBugAt (parts : List Known) (n : ℕ) (b : Bug) : Type 0 where
  pub entries : List Entry
  pub drops : List Gap
  pub table : slice_get parts n ≡ Some (tabled entries drops)
  pub entry : Entry
  pub within : Contains entries entry
  pub has : HasBug entry b

-- The bugs of a report are those that the entries of the tables have and that aren't inner.
pub record BugsAreOfEntries : Type 0 where
  -- each is one that an entry of some procedure has, and isn't inner
  pub sound : (parts : List Known) → All (λ b. ((n : ℕ) × HasBugAt parts n b) × (is_inner parts b ≡ false)) (all_bugs parts)
  -- of each such bug that an entry has, one of its kind at its site is there for its procedure
  pub complete : (parts : List Known) (n : ℕ) (b : Bug) (h : HasBugAt parts n b) → is_inner parts b ≡ false →
      list_any (same_error b) (bugs_of parts (tabled h.entries h.drops)) ≡ true
  -- and so in the report
  pub shown : (parts : List Known) (n : ℕ) (b : Bug) → HasBugAt parts n b → is_inner parts b ≡ false → list_any (same_error b) (all_bugs parts) ≡ true
  -- a procedure has an error exactly where an entry of its table has a bug of that kind at that site
  pub of_entry : (parts : List Known) (g : ProcId) (b : Bug) → has_error parts g b ≡ true → (c : Bug) × HasBugAt parts g.0 c × (same_error b c ≡ true)
  pub has : (parts : List Known) (g : ProcId) (b c : Bug) → HasBugAt parts g.0 c → same_error b c ≡ true → has_error parts g b ≡ true
