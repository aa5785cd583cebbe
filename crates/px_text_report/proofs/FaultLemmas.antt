-- Inner bugs, by the errors that are kept of each table.
use Rattle.std.proofs.Common.{◌≡◌, ℕ, zero, suc, Bool, true, false, not, ◌&&◌, ◌||◌, List, [], ◌∷◌, ◌++◌, if◌then◌else◌, cond, refl, sym, ap, ap₂, ◌∙◌, append-nil}
use Rattle.std.specs.Prelude.{flat_map, filter, Option, None, Some, slice_index_or}
use Rattle.std.specs.List.{list_any}
use Rattle.std.proofs.lemmas.Bool.{and_parts}
use Rattle.std.proofs.lemmas.List.Elements.{filter-append}
use Rattle.std.proofs.lemmas.List.Folds.{list_any-append}
use Rattle.px_base.specs.declared.trace.ProcId.{ProcId}
use Rattle.px_entry.specs.declared.entries.Entry.{Entry}
use Rattle.px_entry.specs.declared.entries.Exit.{Exit}
use Rattle.px_entry.specs.declared.entries.Exit.TheVariants.{Ok, Error}
use Rattle.px_manifest.specs.LooksManifest.{looks_manifest}
use Rattle.px_text_report.specs.declared.faults.Fault.{Fault}
use Rattle.px_text_report.specs.declared.shown.Bug.{Bug}
use Rattle.px_text_report.specs.Known.{Known, tabled, left_out}
use Rattle.px_text_report.specs.Calls.{open_call}
use Rattle.px_text_report.specs.Firsts.{firsts, others}
use Rattle.px_text_report.specs.Bugs.{same_kind, same_site, same_error, bug_with, bug_of, entry_bugs, has_error_too, is_inner, bugs_of, all_bugs}
use Rattle.px_text_report.specs.Faults.{same_fault, fault_with, fault_of, faults_of, all_faults, has_fault, is_bug_of, is_outer, outer_bug_of, outer_bugs_of}
use Rattle.px_text_report.proofs.FirstLemmas.{any_firsts}
use Rattle.px_text_report.proofs.BugLemmas.{kind_is, site_is}

-- ---- of one entry

abbrev pub bug_at : Entry → Fault → Bug
bug_at x e = record { proc = x.proc; kind = e.kind; site = e.site; trace = x.trace }

its_bug : (x : Entry) (f : Fault) → f ∷ [] ≡ fault_of x → bug_of x ≡ bug_at x f ∷ []
its_bug x f = by (looks_manifest x) x.exit
  where
    by : (b : Bool) (e : Exit) → f ∷ [] ≡ (if b then fault_with e else []) → (if b then bug_with x e else []) ≡ bug_at x f ∷ []
    by true Ok h = cc
    by true (Error kind site) h = ap (λ z. bug_at x z ∷ []) (same h)
      where
        same : f ∷ [] ≡ record { kind = kind; site = site } ∷ [] → record { kind = kind; site = site } ≡ f
        same g = cc
    by false e h = cc

-- a bug that is inner, or one of whose error is there, isn't added
module _ (faults : List (List Fault)) (x : Entry) (bugs : List Bug) (f : Fault) (its : f ∷ [] ≡ fault_of x) where
  abbrev own : Bug
  own = bug_at x f

  adds : outer_bug_of faults x ≡ cond (not (has_fault faults f (open_call x.trace))) (own ∷ []) []
  adds = ap (filter (is_outer faults)) (its_bug x f its)

  pub inner_not_added : has_fault faults f (open_call x.trace) ≡ true → bugs ≡ bugs ++ others same_error bugs (outer_bug_of faults x)
  inner_not_added inner = sym (ap (λ z. bugs ++ others same_error bugs z) (adds ∙ ap (λ p. cond (not p) (own ∷ []) []) inner) ∙ append-nil bugs)

  pub there_not_added : list_any (is_bug_of f) bugs ≡ true → bugs ≡ bugs ++ others same_error bugs (outer_bug_of faults x)
  there_not_added there = sym (ap (λ z. bugs ++ others same_error bugs z) adds ∙ ap (λ z. bugs ++ z) (by (has_fault faults f (open_call x.trace))) ∙ append-nil bugs)
    where
      by : (p : Bool) → others same_error bugs (cond (not p) (own ∷ []) []) ≡ []
      by true = refl
      by false = ap (λ z. if z then [] else own ∷ []) there

-- ---- of a table

abbrev error_of : Bug → Fault
error_of b = record { kind = b.kind; site = b.site }

-- what is the same as an error is of its kind at its site
share : (e x : Fault) (these : List Fault) → same_fault e x ≡ true → list_any (same_fault x) these ≡ true → list_any (same_fault e) these ≡ true
share e x these same there =
    let p = and_parts (same_kind e.kind x.kind) (same_site e.site x.site) same in
    ap₂ (λ k s. list_any (λ y. same_kind k y.kind && same_site s y.site) these) (kind_is e.kind x.kind p.0) (site_is e.site x.site p.1) ∙ there

one_error : (b : Bug) (x : Entry) → list_any (same_fault (error_of b)) (fault_of x) ≡ list_any (same_error b) (bug_of x)
one_error b x = by (looks_manifest x) x.exit
  where
    by : (q : Bool) (e : Exit) → list_any (same_fault (error_of b)) (if q then fault_with e else []) ≡ list_any (same_error b) (if q then bug_with x e else [])
    by true Ok = refl
    by true (Error kind site) = refl
    by false e = refl

all_errors : (b : Bug) (entries : List Entry) → list_any (same_fault (error_of b)) (flat_map fault_of entries) ≡ list_any (same_error b) (flat_map bug_of entries)
all_errors b [] = refl
all_errors b (x ∷ entries) =
    list_any-append (same_fault (error_of b)) (fault_of x) (flat_map fault_of entries)
    ∙ ap₂ (λ p q. p || q) (one_error b x) (all_errors b entries)
    ∙ sym (list_any-append (same_error b) (bug_of x) (flat_map bug_of entries))

its_errors : (b : Bug) (k : Known) → list_any (same_fault (error_of b)) (faults_of k) ≡ list_any (same_error b) (entry_bugs k)
its_errors b (tabled entries drops) = any_firsts same_fault (error_of b) (share (error_of b)) (flat_map fault_of entries) ∙ all_errors b entries
its_errors b left_out = refl

-- ---- of all tables

at_number : (parts : List Known) (n : ℕ) → slice_index_or (all_faults parts) n [] ≡ faults_of (slice_index_or parts n left_out)
at_number [] n = refl
at_number (k ∷ parts) zero = refl
at_number (k ∷ parts) (suc n) = at_number parts n

module _ (parts : List Known) where
  abbrev faults : List (List Fault)
  faults = all_faults parts

  same_inner : (b : Bug) (g : Option ProcId) → has_fault faults (error_of b) g ≡ has_error_too parts b g
  same_inner b None = refl
  same_inner b (Some g) = ap (list_any (same_fault (error_of b))) (at_number parts g.0) ∙ its_errors b (slice_index_or parts g.0 left_out)

  outer : (b : Bug) → is_outer faults b ≡ not (is_inner parts b)
  outer b = ap not (same_inner b (open_call b.trace))

  outer_ones : (bugs : List Bug) → filter (is_outer faults) bugs ≡ filter (λ b. not (is_inner parts b)) bugs
  outer_ones [] = refl
  outer_ones (b ∷ bugs) = ap₂ (λ p rest. cond p (b ∷ rest) rest) (outer b) (outer_ones bugs)

  of_entries : (entries : List Entry) → flat_map (outer_bug_of faults) entries ≡ filter (λ b. not (is_inner parts b)) (flat_map bug_of entries)
  of_entries [] = refl
  of_entries (x ∷ entries) =
      ap₂ (λ a b. a ++ b) (outer_ones (bug_of x)) (of_entries entries) ∙ sym (filter-append (λ b. not (is_inner parts b)) (bug_of x) (flat_map bug_of entries))

  of_one : (k : Known) → outer_bugs_of faults k ≡ bugs_of parts k
  of_one (tabled entries drops) = ap (firsts same_error) (of_entries entries)
  of_one left_out = refl

  of_each : (ks : List Known) → flat_map (outer_bugs_of faults) ks ≡ flat_map (bugs_of parts) ks
  of_each [] = refl
  of_each (k ∷ ks) = ap₂ (λ a b. a ++ b) (of_one k) (of_each ks)

  -- the bugs that aren't inner by the errors of each table are those of the report
  pub all_outer : flat_map (outer_bugs_of faults) parts ≡ all_bugs parts
  all_outer = of_each parts
