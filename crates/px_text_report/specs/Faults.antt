-- The errors of tables without their traces, as the code keeps them.
use Rattle.std.specs.Prelude.{◌&&◌, not, Bool, false, List, [], ◌∷◌, map, filter, flat_map, if◌then◌else◌, slice_index_or, Option, None, Some}
use Rattle.std.specs.List.{list_any}
use Rattle.px_base.specs.declared.trace.ProcId.{ProcId}
use Rattle.px_entry.specs.declared.entries.Entry.{Entry}
use Rattle.px_entry.specs.declared.entries.Exit.{Exit}
use Rattle.px_entry.specs.declared.entries.Exit.TheVariants.{Ok, Error}
use Rattle.px_manifest.specs.LooksManifest.{looks_manifest}
use Rattle.px_text_report.specs.declared.faults.Fault.{Fault}
use Rattle.px_text_report.specs.declared.shown.Bug.{Bug}
use Rattle.px_text_report.specs.Known.{Known, tabled, left_out}
use Rattle.px_text_report.specs.Calls.{open_call}
use Rattle.px_text_report.specs.Firsts.{firsts}
use Rattle.px_text_report.specs.Bugs.{same_kind, same_site, same_error, bug_of}

abbrev pub same_fault : Fault → Fault → Bool
same_fault a b = same_kind a.kind b.kind && same_site a.site b.site

-- a bug is of this error
abbrev pub is_bug_of : Fault → Bug → Bool
is_bug_of e b = same_kind e.kind b.kind && same_site e.site b.site

abbrev pub fault_with : Exit → List Fault
fault_with Ok = []
fault_with (Error kind site) = record { kind = kind; site = site } ∷ []

-- the error of an entry that looks manifest
abbrev pub fault_of : Entry → List Fault
fault_of x = if looks_manifest x then fault_with x.exit else []

-- those of these entries, each once
abbrev pub table_faults : List Entry → List Fault
table_faults entries = firsts same_fault (flat_map fault_of entries)

abbrev pub faults_of : Known → List Fault
faults_of (tabled entries drops) = table_faults entries
faults_of left_out = []

-- those of each kept procedure
abbrev pub all_faults : List Known → List (List Fault)
all_faults parts = map faults_of parts

-- ---- by the errors of each kept procedure

abbrev pub has_fault : List (List Fault) → Fault → Option ProcId → Bool
has_fault faults e None = false
has_fault faults e (Some g) = list_any (same_fault e) (slice_index_or faults g.0 [])

-- the bug of an entry that looks manifest and isn't inner
abbrev pub is_outer : List (List Fault) → Bug → Bool
is_outer faults b = not (has_fault faults (record { kind = b.kind; site = b.site }) (open_call b.trace))

abbrev pub outer_bug_of : List (List Fault) → Entry → List Bug
outer_bug_of faults x = filter (is_outer faults) (bug_of x)

-- of these entries the first such bug for each kind and site
abbrev pub table_bugs : List (List Fault) → List Entry → List Bug
table_bugs faults entries = firsts same_error (flat_map (outer_bug_of faults) entries)

abbrev pub outer_bugs_of : List (List Fault) → Known → List Bug
outer_bugs_of faults (tabled entries drops) = table_bugs faults entries
outer_bugs_of faults left_out = []
