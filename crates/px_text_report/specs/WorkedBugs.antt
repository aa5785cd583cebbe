-- Which bugs are inner, worked by hand.
use Rattle.std.specs.Prelude.{◌≡◌, ℕ, List, [], ◌∷◌, None, Some}
use Rattle.px_base.specs.declared.trace.ProcId.{ProcId}
use Rattle.px_base.specs.declared.trace.Site.{Site}
use Rattle.px_base.specs.declared.trace.Mark.{Mark}
use Rattle.px_base.specs.declared.trace.MarkKind.{MarkKind}
use Rattle.px_base.specs.declared.trace.MarkKind.TheVariants.{NoBlock, Access, Freed, Enter, Leave}
use Rattle.px_base.specs.declared.trace.Kind.{Kind}
use Rattle.px_base.specs.declared.trace.Kind.TheVariants.{NullDereference, DoubleFree}
use Rattle.px_entry.specs.declared.entries.Entry.{Entry}
use Rattle.px_entry.specs.declared.entries.Exit.TheVariants.{Error}
use Rattle.px_text_report.specs.declared.shown.Bug.{Bug}
use Rattle.px_text_report.specs.Known.{Known, tabled, left_out}
use Rattle.px_text_report.specs.Calls.{open_call}
use Rattle.px_text_report.specs.Bugs.{all_bugs}

abbrev pub procedure : ℕ → ProcId
procedure n = record { 0 = n }

abbrev pub on_line : ℕ → Site
on_line n = record { file = 0; line = n; column = 1 }

abbrev pub mark : MarkKind → ℕ → Mark
mark kind line = record { kind = kind; site = on_line line }

-- an entry that looks manifest
abbrev pub fails : ℕ → Kind → ℕ → List Mark → Entry
fails n kind line trace = record {
  proc = procedure n;
  trace = trace;
  exit = Error kind (on_line line);
  result = None;
  vars = [];
  pure = [];
  pre = [];
  post = [];
  model = [];
}

abbrev pub bug : ℕ → Kind → ℕ → List Mark → Bug
bug n kind line trace = record { proc = procedure n; kind = kind; site = on_line line; trace = trace }

-- ---- a list that is pushed to, and dropped twice: 0 pushes, 1 drops, 2 does both

abbrev pub no_block : List Mark
no_block = mark NoBlock 7 ∷ mark Access 8 ∷ []

abbrev pub first_push : List Mark
first_push = mark (Enter (procedure 0)) 20 ∷ no_block

abbrev pub second_push : List Mark
second_push = mark (Enter (procedure 0)) 20 ∷ mark Access 8 ∷ mark Leave 20 ∷ mark (Enter (procedure 0)) 21 ∷ no_block

abbrev pub second_drop : List Mark
second_drop = mark (Enter (procedure 1)) 22 ∷ mark Freed 14 ∷ mark Leave 22 ∷ mark (Enter (procedure 1)) 23 ∷ mark Freed 14 ∷ []

-- the one that drops has a double free for a block that it is handed freed alone, so it has no error
abbrev pub pushed_and_dropped : List Known
pushed_and_dropped =
    tabled (fails 0 NullDereference 8 no_block ∷ []) []
    ∷ tabled [] []
    ∷ tabled (fails 2 NullDereference 8 first_push ∷ fails 2 NullDereference 8 second_push ∷ fails 2 DoubleFree 14 second_drop ∷ []) []
    ∷ []

-- ---- 0 calls 1, which calls 2: the error is 2's, and 1 hasn't it

abbrev pub through : List Mark
through = mark (Enter (procedure 1)) 1 ∷ mark (Enter (procedure 2)) 2 ∷ mark Access 3 ∷ []

abbrev pub by_itself : List Mark
by_itself = mark (Enter (procedure 2)) 2 ∷ mark Access 3 ∷ []

abbrev pub chain : Known → List Known
chain of_first = of_first ∷ tabled [] [] ∷ tabled (fails 2 NullDereference 3 (mark Access 3 ∷ []) ∷ []) [] ∷ []

pub record WorkedBugs : Type 0 where
  -- the first call that is open, also where it is after calls that returned, or calls on
  pub none_open : open_call (mark (Enter (procedure 1)) 1 ∷ mark (Enter (procedure 2)) 2 ∷ mark Leave 2 ∷ mark Leave 1 ∷ []) ≡ None
  pub outer_open : open_call through ≡ Some (procedure 1)
  pub second_open : open_call second_push ≡ Some (procedure 0)
  pub outer_left : open_call (mark (Enter (procedure 1)) 1 ∷ mark (Enter (procedure 2)) 2 ∷ mark Leave 2 ∷ []) ≡ Some (procedure 1)
  -- the null dereference is printed for the procedure that pushes alone, and the double free for the one that calls
  pub push : all_bugs pushed_and_dropped ≡ bug 0 NullDereference 8 no_block ∷ bug 2 DoubleFree 14 second_drop ∷ []
  -- the outermost call is asked, whose procedure hasn't the error, and not the innermost, which has it
  pub outermost : all_bugs (chain (tabled (fails 0 NullDereference 3 through ∷ []) [])) ≡ bug 0 NullDereference 3 through ∷ bug 2 NullDereference 3 (mark Access 3 ∷ []) ∷ []
  -- it is inner where the callee has it; the first entry that isn't inner is printed
  pub first_outer : all_bugs (chain (tabled (fails 0 NullDereference 3 by_itself ∷ fails 0 NullDereference 3 through ∷ []) [])) ≡ bug 0 NullDereference 3 through ∷ bug 2 NullDereference 3 (mark Access 3 ∷ []) ∷ []
  -- what calls one that has no table, or isn't kept, isn't inner
  pub not_kept : all_bugs (left_out ∷ tabled (fails 1 NullDereference 3 (mark (Enter (procedure 0)) 1 ∷ mark Access 3 ∷ []) ∷ fails 1 DoubleFree 3 (mark (Enter (procedure 9)) 1 ∷ mark Access 3 ∷ []) ∷ []) [] ∷ [])
      ≡ bug 1 NullDereference 3 (mark (Enter (procedure 0)) 1 ∷ mark Access 3 ∷ []) ∷ bug 1 DoubleFree 3 (mark (Enter (procedure 9)) 1 ∷ mark Access 3 ∷ []) ∷ []
