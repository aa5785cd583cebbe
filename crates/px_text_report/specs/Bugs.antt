-- Which bugs a report has.
use Rattle.std.specs.Prelude.{◌&&◌, not, Bool, true, false, nat_eq, List, [], ◌∷◌, filter, flat_map, if◌then◌else◌, Option, None, Some}
use Rattle.std.specs.List.{list_any}
use Rattle.px_base.specs.declared.trace.ProcId.{ProcId}
use Rattle.px_base.specs.declared.trace.Site.{Site}
use Rattle.px_base.specs.declared.trace.Kind.{Kind}
use Rattle.px_base.specs.declared.trace.Kind.TheVariants.{NullDereference, UseAfterFree, DoubleFree, UninitialisedRead, DivisionByZero}
use Rattle.px_entry.specs.declared.entries.Entry.{Entry}
use Rattle.px_entry.specs.declared.entries.Exit.{Exit}
use Rattle.px_entry.specs.declared.entries.Exit.TheVariants.{Ok, Error}
use Rattle.px_manifest.specs.LooksManifest.{looks_manifest}
use Rattle.px_text_report.specs.declared.shown.Bug.{Bug}
use Rattle.px_text_report.specs.Known.{Known, tabled, left_out, known_at}
use Rattle.px_text_report.specs.Calls.{open_call}
use Rattle.px_text_report.specs.Firsts.{firsts}

abbrev pub same_kind : Kind → Kind → Bool
same_kind NullDereference NullDereference = true
same_kind UseAfterFree UseAfterFree = true
same_kind DoubleFree DoubleFree = true
same_kind UninitialisedRead UninitialisedRead = true
same_kind DivisionByZero DivisionByZero = true
same_kind a b = false

abbrev pub same_site : Site → Site → Bool
same_site a b = nat_eq a.file b.file && (nat_eq a.line b.line && nat_eq a.column b.column)

-- of the same kind at the same site
abbrev pub same_error : Bug → Bug → Bool
same_error a b = same_kind a.kind b.kind && same_site a.site b.site

abbrev pub bug_with : Entry → Exit → List Bug
bug_with x Ok = []
bug_with x (Error kind site) = record { proc = x.proc; kind = kind; site = site; trace = x.trace } ∷ []

-- the bug of an entry that looks manifest
abbrev pub bug_of : Entry → List Bug
bug_of x = if looks_manifest x then bug_with x x.exit else []

-- the bugs of the entries of a table
abbrev pub entry_bugs : Known → List Bug
entry_bugs (tabled entries drops) = flat_map bug_of entries
entry_bugs left_out = []

-- a procedure has the error of this bug: an entry of its table looks manifest and ends in it
abbrev pub has_error : List Known → ProcId → Bug → Bool
has_error parts g b = list_any (same_error b) (entry_bugs (known_at parts g.0))

abbrev pub has_error_too : List Known → Bug → Option ProcId → Bool
has_error_too parts b None = false
has_error_too parts b (Some g) = has_error parts g b

-- a bug is inner: the first call that its trace leaves open is of a procedure that has the error too
abbrev pub is_inner : List Known → Bug → Bool
is_inner parts b = has_error_too parts b (open_call b.trace)

-- those of a procedure: for each kind and site the first that isn't inner
abbrev pub bugs_of : List Known → Known → List Bug
bugs_of parts x = firsts same_error (filter (λ b. not (is_inner parts b)) (entry_bugs x))

-- of each kept procedure, in order
abbrev pub all_bugs : List Known → List Bug
all_bugs parts = flat_map (bugs_of parts) parts
