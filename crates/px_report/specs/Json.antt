-- A report as one JSON object, and its text.
use Rattle.std.specs.Prelude.{◌≡◌, ℕ, List, [], ◌∷◌, ◌++◌, map, codes, Some}
use Rattle.std.specs.Str.Lossy.{utf8_lossy}
use Rattle.serde_json.specs.Data.{Data, number, unsigned, string, array, object, Members, member, no_members, put}
use Rattle.serde_json.specs.Read.{read}
use Rattle.serde_json.specs.View.{items_of}
use Rattle.serde_json.specs.Written.{compact_text}
use Rattle.px_base.specs.declared.trace.Site.{Site}
use Rattle.px_base.specs.declared.trace.Mark.{Mark}
use Rattle.px_syntax.specs.declared.program.Left.{Left}
use Rattle.px_syntax.specs.ProgramTree.{ProgramTree}
use Rattle.px_text_report.specs.declared.shown.Bug.{Bug}
use Rattle.px_text_report.specs.declared.drops.Dropped.{Dropped}
use Rattle.px_text_report.specs.declared.reports.Report.{Report}
use Rattle.px_text_report.specs.Places.{line_feed, name_at}
use Rattle.px_text_report.specs.BugTexts.{kind_text, mark_text}
use Rattle.px_text_report.specs.LeftOut.{left_name}

-- the members of an object, in this order
abbrev pub members : List (List ℕ × Data) → Members
members [] = no_members
members (m ∷ rest) = member m.0 m.1 (members rest)

abbrev pub json_object : List (List ℕ × Data) → Data
json_object fields = object (members fields)

abbrev pub json_list : List Data → Data
json_list all = array (items_of all)

abbrev pub json_number : ℕ → Data
json_number n = number (unsigned n)

-- a text; what isn't UTF-8 in it is replaced
abbrev pub json_text : List ℕ → Data
json_text bytes = string (utf8_lossy bytes)

abbrev pub mark_object : ProgramTree → Mark → Data
mark_object P m = json_object (
    (codes "column", json_number m.site.column)
    ∷ (codes "file", json_text (name_at P.files m.site.file))
    ∷ (codes "line", json_number m.site.line)
    ∷ (codes "mark", json_text (mark_text P.names m.kind))
    ∷ [])

abbrev pub bug_object : ProgramTree → Bug → Data
bug_object P b = json_object (
    (codes "column", json_number b.site.column)
    ∷ (codes "file", json_text (name_at P.files b.site.file))
    ∷ (codes "kind", json_text (kind_text b.kind))
    ∷ (codes "line", json_number b.site.line)
    ∷ (codes "procedure", json_text (name_at P.names b.proc.0))
    ∷ (codes "trace", json_list (map (mark_object P) b.trace))
    ∷ [])

abbrev pub dropped_object : ProgramTree → Dropped → Data
dropped_object P d = json_object (
    (codes "cause", json_text d.cause)
    ∷ (codes "count", json_number d.count)
    ∷ (codes "procedure", json_text (name_at P.names d.proc.0))
    ∷ [])

abbrev pub left_object : ProgramTree → Left → Data
left_object P l = json_object (
    (codes "column", json_number l.site.column)
    ∷ (codes "file", json_text (name_at P.files l.site.file))
    ∷ (codes "line", json_number l.site.line)
    ∷ (codes "name", json_text (left_name P.names l.proc))
    ∷ (codes "word", json_text l.word)
    ∷ [])

abbrev pub whole_object : Data → Data → Data → ℕ → Data
whole_object bugs dropped left procedures = json_object (
    (codes "bugs", bugs)
    ∷ (codes "dropped", dropped)
    ∷ (codes "left_out", left)
    ∷ (codes "procedures", json_number procedures)
    ∷ [])

-- its lists are in the order of the text
abbrev pub report_object : ProgramTree → Report → Data
report_object P r = whole_object
    (json_list (map (bug_object P) r.bugs)) (json_list (map (dropped_object P) r.dropped)) (json_list (map (left_object P) r.left_out)) r.procedures

-- members with the column, the file and the line of a place
abbrev pub with_place : List (List ℕ) → Site → Members → Members
with_place files site ms =
    put (codes "line") (json_number site.line) (put (codes "file") (json_text (name_at files site.file)) (put (codes "column") (json_number site.column) ms))

-- the object, compact, and a newline
abbrev pub report_json : ProgramTree → Report → List ℕ
report_json P r = compact_text (report_object P r) ++ line_feed

-- a text is the JSON of this, and a newline
abbrev pub ReadsAs : List ℕ → Data → Type 0
ReadsAs text d = (line : List ℕ) × (text ≡ line ++ line_feed) × (read line ≡ Some d)
