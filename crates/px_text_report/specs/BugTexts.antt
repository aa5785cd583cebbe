-- Bugs and their marks, as they are printed.
use Rattle.std.specs.Prelude.{ℕ, List, [], ◌∷◌, ◌++◌, codes}
use Rattle.px_base.specs.declared.trace.Mark.{Mark}
use Rattle.px_base.specs.declared.trace.MarkKind.{MarkKind}
use Rattle.px_base.specs.declared.trace.MarkKind.TheVariants.{Then, Else, Iter, Done, Got, NoBlock, Input, Access, Freed, FreeNull, Enter, Leave}
use Rattle.px_base.specs.declared.trace.Kind.{Kind}
use Rattle.px_base.specs.declared.trace.Kind.TheVariants.{NullDereference, UseAfterFree, DoubleFree, UninitialisedRead, DivisionByZero}
use Rattle.px_syntax.specs.ProgramTree.{ProgramTree}
use Rattle.px_text_report.specs.declared.shown.Bug.{Bug}
use Rattle.px_text_report.specs.Places.{line_feed, name_at, place_text}

abbrev pub kind_text : Kind → List ℕ
kind_text NullDereference = codes "null dereference"
kind_text UseAfterFree = codes "use after free"
kind_text DoubleFree = codes "double free"
kind_text UninitialisedRead = codes "uninitialised read"
kind_text DivisionByZero = codes "division by zero"

abbrev pub mark_text : List (List ℕ) → MarkKind → List ℕ
mark_text names Then = codes "true"
mark_text names Else = codes "false"
mark_text names Iter = codes "iteration"
mark_text names Done = codes "loop left"
mark_text names Got = codes "allocated"
mark_text names NoBlock = codes "allocation failed"
mark_text names Input = codes "input"
mark_text names Access = codes "access"
mark_text names Freed = codes "free"
mark_text names FreeNull = codes "free of null"
mark_text names (Enter procedure) = codes "call " ++ name_at names procedure.0
mark_text names Leave = codes "return"

abbrev pub mark_line : ProgramTree → Mark → List ℕ
mark_line P mark = codes "  " ++ (place_text P.files mark.site ++ (codes ": " ++ (mark_text P.names mark.kind ++ line_feed)))

abbrev pub mark_lines : ProgramTree → List Mark → List ℕ
mark_lines P [] = []
mark_lines P (m ∷ trace) = mark_line P m ++ mark_lines P trace

-- FILE:L:C: KIND in PROCEDURE, and a line for each mark
abbrev pub bug_text : ProgramTree → Bug → List ℕ
bug_text P b =
    place_text P.files b.site ++ (codes ": " ++ (kind_text b.kind ++ (codes " in " ++ (name_at P.names b.proc.0 ++ (line_feed ++ mark_lines P b.trace)))))

abbrev pub bug_texts : ProgramTree → List Bug → List ℕ
bug_texts P [] = []
bug_texts P (b ∷ bugs) = bug_text P b ++ bug_texts P bugs
