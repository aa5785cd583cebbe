-- Which leaks are told, worked by hand.
use Rattle.std.specs.Prelude.{◌≡◌, ℕ, List, [], ◌∷◌, Option, None, Some}
use Rattle.px_base.specs.declared.trace.Mark.{Mark}
use Rattle.px_base.specs.declared.trace.MarkKind.TheVariants.{Got, NoBlock, Freed, Enter, Leave}
use Rattle.px_base.specs.declared.trace.Kind.TheVariants.{DoubleFree}
use Rattle.px_terms.specs.declared.types.ValueType.TheVariants.{Pointer}
use Rattle.px_terms.specs.declared.variables.Sort.{Sort}
use Rattle.px_terms.specs.declared.variables.Sort.TheVariants as sort
use Rattle.px_terms.specs.declared.variables.VarInfo.{VarInfo}
use Rattle.px_terms.specs.declared.conjuncts.Place.TheVariants as place
use Rattle.px_terms.specs.declared.conjuncts.Content.{Content}
use Rattle.px_terms.specs.declared.conjuncts.Content.TheVariants.{Unwritten, Place}
use Rattle.px_entry.specs.declared.atoms.Atom.{Atom}
use Rattle.px_entry.specs.declared.atoms.AtomState.{AtomState}
use Rattle.px_entry.specs.declared.atoms.AtomState.TheVariants as atom
use Rattle.px_entry.specs.declared.entries.Entry.{Entry}
use Rattle.px_entry.specs.declared.entries.Exit.{Exit}
use Rattle.px_entry.specs.declared.entries.Exit.TheVariants.{Ok, Error}
use Rattle.px_text_report.specs.Known.{tabled}
use Rattle.px_text_report.specs.WorkedBugs.{procedure, on_line, mark}
use Rattle.px_leak.specs.declared.told.Leak.{Leak}
use Rattle.px_leak.specs.Leaks.{all_leaks}

-- ---- entries whose blocks are all of one type

abbrev pub var_of : Sort → VarInfo
var_of s = record { sort = s; value = Pointer (record { 0 = 0 }) }

abbrev pub made : VarInfo
made = var_of sort.Made

abbrev pub to : ℕ → Content
to x = Place (place.Var (record { 0 = x }))

abbrev pub holding : List Content → AtomState
holding cells = atom.Live cells

abbrev pub block : ℕ → AtomState → Atom
block x state = record { place = record { 0 = x }; block = record { 0 = 0 }; state = state }

-- an entry that ends so, with what is left
abbrev pub ending : ℕ → Exit → List Mark → Option Content → List VarInfo → List Atom → Entry
ending n exit trace result vars post = record {
  proc = procedure n;
  trace = trace;
  exit = exit;
  result = result;
  vars = vars;
  pure = [];
  pre = [];
  post = post;
  model = [];
}

abbrev pub returning : ℕ → List Mark → Option Content → List VarInfo → List Atom → Entry
returning n trace result vars post = ending n Ok trace result vars post

-- the leaks of one procedure with one entry
abbrev pub leaks_in : Entry → List Leak
leaks_in x = all_leaks (tabled (x ∷ []) [] ∷ [])

abbrev pub leak : ℕ → ℕ → List Mark → ℕ → Leak
leak n line trace blocks = record { proc = procedure n; site = on_line line; trace = trace; blocks = blocks }

-- ---- a block that is got on line 1, and one on line 2

abbrev pub one_got : List Mark
one_got = mark Got 1 ∷ []

abbrev pub two_got : List Mark
two_got = mark Got 1 ∷ mark Got 2 ∷ []

-- ---- 0 gives a block, 1 calls it and loses the block; 2 calls one that loses a block of its own

abbrev pub got_in_call : List Mark
got_in_call = mark (Enter (procedure 0)) 5 ∷ mark Got 1 ∷ mark Leave 5 ∷ []

abbrev pub giver : Entry
giver = returning 0 one_got (Some (to 0)) (made ∷ []) (block 0 (holding (Unwritten ∷ [])) ∷ [])

abbrev pub loser : Entry
loser = returning 0 one_got None (made ∷ []) (block 0 (holding (Unwritten ∷ [])) ∷ [])

abbrev pub caller : Entry
caller = returning 1 got_in_call None (made ∷ []) (block 0 (holding (Unwritten ∷ [])) ∷ [])

-- two blocks of one site, the first in a call and the second not
abbrev pub got_twice : List Mark
got_twice = mark (Enter (procedure 0)) 5 ∷ mark Got 1 ∷ mark Leave 5 ∷ mark Got 1 ∷ []

abbrev pub twice : Entry
twice = returning 1 got_twice None (made ∷ made ∷ []) (block 0 (holding []) ∷ block 1 (holding []) ∷ [])

pub record WorkedLeaks : Type 0 where
  -- a live block that the result doesn't reach
  pub forgotten : leaks_in loser ≡ leak 0 1 one_got 1 ∷ []
  -- one that it is
  pub given : leaks_in giver ≡ []
  -- one that was freed
  pub freed : leaks_in (returning 0 (mark Got 1 ∷ mark Freed 2 ∷ []) None (made ∷ []) (block 0 atom.Freed ∷ [])) ≡ []
  -- a failed allocation has no block
  pub failed : leaks_in (returning 0 (mark NoBlock 1 ∷ []) None [] []) ≡ []
  -- a path that ends in an error, or that is given a block, or that finds one
  pub error : leaks_in (ending 0 (Error DoubleFree (on_line 3)) one_got None (made ∷ []) (block 0 (holding []) ∷ [])) ≡ []
  pub finds : leaks_in (record loser { pre = block 7 (holding []) ∷ [] }) ≡ []
  -- the result is a block whose cell leads to another; and the other way round, where the block that isn't the result is lost
  pub through : leaks_in (returning 0 two_got (Some (to 0)) (made ∷ made ∷ []) (block 0 (holding (to 1 ∷ [])) ∷ block 1 (holding (Unwritten ∷ [])) ∷ [])) ≡ []
  pub from : leaks_in (returning 0 two_got (Some (to 1)) (made ∷ made ∷ []) (block 0 (holding (to 1 ∷ [])) ∷ block 1 (holding (Unwritten ∷ [])) ∷ [])) ≡ leak 0 1 two_got 1 ∷ []
  -- a cycle of blocks that lead to each other alone: both are lost, in the order of their marks, whatever the order of atoms
  pub cycle : leaks_in (returning 0 two_got None (made ∷ made ∷ []) (block 1 (holding (to 0 ∷ [])) ∷ block 0 (holding (to 1 ∷ [])) ∷ [])) ≡ leak 0 1 two_got 2 ∷ leak 0 2 two_got 2 ∷ []
  -- what only the cell of a freed block led to
  pub behind_freed : leaks_in (returning 0 two_got (Some (to 0)) (made ∷ made ∷ []) (block 0 atom.Freed ∷ block 1 (holding []) ∷ [])) ≡ leak 0 2 two_got 1 ∷ []
  -- a block that a callee gives and the caller loses is the caller's leak, at the callee's site
  pub of_callee : all_leaks (tabled (giver ∷ []) [] ∷ tabled (caller ∷ []) [] ∷ []) ≡ leak 1 1 got_in_call 1 ∷ []
  -- where the callee loses one of this site too, the callee's is told alone
  pub inner : all_leaks (tabled (giver ∷ loser ∷ []) [] ∷ tabled (caller ∷ []) [] ∷ []) ≡ leak 0 1 one_got 1 ∷ []
  -- but where one of two blocks of a site isn't in a call
  pub half_inner : all_leaks (tabled (loser ∷ []) [] ∷ tabled (twice ∷ []) [] ∷ []) ≡ leak 0 1 one_got 1 ∷ leak 1 1 got_twice 2 ∷ []
  -- the first entry of a site alone
  pub once : all_leaks (tabled (loser ∷ returning 0 two_got None (made ∷ made ∷ []) (block 0 (holding []) ∷ block 1 (holding []) ∷ []) ∷ []) [] ∷ [])
      ≡ leak 0 1 one_got 1 ∷ leak 0 2 two_got 2 ∷ []
