-- Which blocks an entry loses.
use Rattle.std.specs.Prelude.{◌≡◌, ℕ, suc, ◌&&◌, not, Bool, true, false, nat_eq, List, [], ◌∷◌, ◌++◌, Contains, filter, if◌then◌else◌, Option, ⊤}
use Rattle.std.specs.List.{list_any}
use Rattle.px_base.specs.declared.trace.ProcId.{ProcId}
use Rattle.px_base.specs.declared.trace.Site.{Site}
use Rattle.px_base.specs.declared.trace.Mark.{Mark}
use Rattle.px_base.specs.declared.trace.MarkKind.{MarkKind}
use Rattle.px_base.specs.declared.trace.MarkKind.TheVariants.{Got}
use Rattle.px_terms.specs.declared.variables.VarInfo.{VarInfo}
use Rattle.px_entry.specs.declared.atoms.Atom.{Atom}
use Rattle.px_entry.specs.declared.atoms.AtomState.{AtomState}
use Rattle.px_entry.specs.declared.atoms.AtomState.TheVariants.{Live, Freed}
use Rattle.px_entry.specs.declared.entries.Entry.{Entry}
use Rattle.px_entry.specs.declared.entries.Exit.{Exit}
use Rattle.px_entry.specs.declared.entries.Exit.TheVariants.{Ok, Error}
use Rattle.px_entry.specs.Sorts.{is_made_sort}
use Rattle.px_manifest.specs.LooksManifest.{AsksNothing, asks_nothing}
use Rattle.px_text_report.specs.Calls.{open_after, outermost}
use Rattle.px_leak.specs.declared.got.Spot.{Spot}
use Rattle.px_leak.specs.declared.got.GotBlock.{GotBlock}
use Rattle.px_leak.specs.Reached.{IsReached, is_reached}

-- ---- the blocks that an entry got

abbrev pub spot_of : Option ProcId → Site → MarkKind → List Spot
spot_of call site Got = record { site = site; call = call } ∷ []
spot_of call site _ = []

-- where a trace got blocks, in order, where these calls are open before it, the innermost first
abbrev pub spots : List ProcId → List Mark → List Spot
spots calls [] = []
spots calls (m ∷ trace) = spot_of (outermost calls) m.site m.kind ++ spots (open_after calls m.kind) trace

-- the numbers of the made variables, in order, where the first has this number
abbrev pub made_from : ℕ → List VarInfo → List ℕ
made_from n [] = []
made_from n (i ∷ vars) = if is_made_sort i.sort then n ∷ made_from (suc n) vars else made_from (suc n) vars

-- the n-th of these variables and of these spots belong together
abbrev pub together : List ℕ → List Spot → List GotBlock
together (x ∷ xs) (s ∷ ss) = record { place = x; site = s.site; call = s.call } ∷ together xs ss
together _ _ = []

-- the blocks that an entry got, each with its variable, its site, and the outermost call that is open there
abbrev pub got_blocks : Entry → List GotBlock
got_blocks x = together (made_from 0 x.vars) (spots [] x.trace)

-- ---- those that it loses

abbrev pub IsLiveState : AtomState → Type 0
IsLiveState (Live cells) = ⊤
IsLiveState Freed = ⊥

-- An entry loses the block of a variable: it returns, and asks nothing of the state that it is called from; and the block is live
-- at its end, and isn't reached from the result.
pub record IsLost (x : Entry) (v : ℕ) : Type 0 where
  pub returns : x.exit ≡ Ok
  pub asks : AsksNothing x
  pub atom : Atom
  pub left : Contains x.post atom
  pub place : atom.place.0 ≡ v
  pub live : IsLiveState atom.state
  pub unreached : ¬ IsReached x v

abbrev pub is_return : Exit → Bool
is_return Ok = true
is_return (Error kind site) = false

abbrev pub is_live : AtomState → Bool
is_live (Live cells) = true
is_live Freed = false

abbrev pub is_live_at : ℕ → Atom → Bool
is_live_at v a = nat_eq a.place.0 v && is_live a.state

-- a live block that isn't reached
abbrev pub is_left : Entry → ℕ → Bool
is_left x v = list_any (is_live_at v) x.post && not (is_reached x v)

-- the blocks that an entry loses, in the order in which it got them
abbrev pub lost_blocks : Entry → List GotBlock
lost_blocks x = if is_return x.exit && asks_nothing x then filter (λ (g : GotBlock). is_left x g.place) (got_blocks x) else []
