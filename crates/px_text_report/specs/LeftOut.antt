-- What is left out, and as it is printed.
use Rattle.std.specs.Prelude.{ℕ, List, [], ◌∷◌, ◌++◌, codes, if◌then◌else◌, Option, Some, None}
use Rattle.px_base.specs.declared.trace.Site.{Site}
use Rattle.px_base.specs.declared.trace.ProcId.{ProcId}
use Rattle.px_syntax.specs.declared.program.Left.{Left}
use Rattle.px_syntax.specs.ProgramTree.{ProgramTree, ProcedureTree}
use Rattle.px_text_report.specs.Places.{line_feed, name_at, place_text, comes_before}
use Rattle.px_text_report.specs.Known.{Known, tabled, left_out}

-- why a kept procedure has no table: its body has too many commands
abbrev pub left_word : Known → Option (List ℕ)
left_word (tabled entries drops) = None
left_word left_out = Some (codes "size")

abbrev pub left_with : ProcedureTree → Option (List ℕ) → List Left
left_with p None = []
left_with p (Some word) = record { proc = Some p.proc; site = p.site; word = word } ∷ []

-- the kept procedures that have none
abbrev pub without_table : List ProcedureTree → List Known → List Left
without_table (p ∷ ps) (x ∷ parts) = left_with p (left_word x) ++ without_table ps parts
without_table _ _ = []

-- the first items, up to the first that doesn't come before the place
abbrev pub those_before : Site → List Left → List Left
those_before site [] = []
those_before site (y ∷ ys) = if comes_before y.site site then y ∷ those_before site ys else []

abbrev pub those_after : Site → List Left → List Left
those_after site [] = []
those_after site (y ∷ ys) = if comes_before y.site site then those_after site ys else y ∷ ys

-- two lists in the order of their places, put together in that order
abbrev pub by_place : List Left → List Left → List Left
by_place [] ys = ys
by_place (x ∷ xs) ys = those_before x.site ys ++ (x ∷ by_place xs (those_after x.site ys))

-- ---- the text

abbrev pub left_name : List (List ℕ) → Option ProcId → List ℕ
left_name names None = codes "(item)"
left_name names (Some proc) = name_at names proc.0

-- left out NAME at FILE:L:C: WORD
abbrev pub left_line : ProgramTree → Left → List ℕ
left_line P left =
    codes "left out " ++ (left_name P.names left.proc ++ (codes " at " ++ (place_text P.files left.site ++ (codes ": " ++ (left.word ++ line_feed)))))

abbrev pub left_lines : ProgramTree → List Left → List ℕ
left_lines P [] = []
left_lines P (l ∷ rest) = left_line P l ++ left_lines P rest
