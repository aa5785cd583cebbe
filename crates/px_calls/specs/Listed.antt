-- Whether one way is listed at a place of a call.
use Rattle.std.specs.Prelude.{ℕ, Bool, true, false, not, ◌&&◌, nat_eq, nat_lt, List, [], ◌∷◌, length, slice_get}
use Rattle.std.specs.List.{list_any}
use Rattle.px_terms.specs.declared.conjuncts.Place.{Place}
use Rattle.px_entry.specs.declared.atoms.Atom.{Atom}
use Rattle.px_entry.specs.declared.entries.Entry.{Entry}
use Rattle.px_entry.specs.declared.tables.Gap.{Gap}
use Rattle.px_entry.specs.Sorts.{is_some_and}
use Rattle.px_entry.specs.Cases.{is_match, is_freed, may_be_missing}
use Rattle.px_callgraph.specs.declared.states.State.{State}
use Rattle.px_callgraph.specs.declared.states.Way.{Way}
use Rattle.px_callgraph.specs.declared.states.Way.TheVariants as way

-- an entry of a table may be chosen, or a drop, where there are drops
abbrev pub is_choice : List Entry → List Gap → Way → Bool
is_choice entries drops (way.Entry n) = nat_lt n (length entries)
is_choice entries drops way.Drop = elim drops [ [] ↦ false | _ ∷ _ ↦ true ]
is_choice entries drops _ = false

-- the block that an entry requires may be met so, where its place is this one
abbrev pub is_meeting : State → List ℕ → Place → Atom → Way → Bool
is_meeting s used a p (way.Atom n) = is_some_and (slice_get s.atoms n) (λ (b : Atom). not (list_any (nat_eq n) used) && is_match s.vars a p.block (is_freed p.state) b)
is_meeting s used a p way.Missing = may_be_missing s.vars a
is_meeting s used a p _ = false
