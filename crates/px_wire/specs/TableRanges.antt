-- Whether what tables name is there.
use Rattle.std.specs.Prelude.{ℕ, Option, Some, None, Bool, true, ◌&&◌, nat_lt, length}
use Rattle.std.specs.List.{list_all}
use Rattle.px_base.specs.Bounds.{most_variables}
use Rattle.px_terms.specs.declared.conjuncts.Content.{Content}
use Rattle.px_entry.specs.declared.atoms.AtomState.{AtomState}
use Rattle.px_entry.specs.declared.atoms.AtomState.TheVariants.{Live, Freed}
use Rattle.px_entry.specs.declared.atoms.Atom.{Atom}
use Rattle.px_entry.specs.declared.entries.Entry.{Entry}
use Rattle.px_entry.specs.declared.tables.Cause.{Cause}
use Rattle.px_entry.specs.declared.tables.Cause.TheVariants.{Undecided}
use Rattle.px_entry.specs.declared.tables.Gap.{Gap}
use Rattle.px_entry.specs.declared.tables.Table.{Table}
use Rattle.px_wire.specs.TermRanges.{var_info_within, content_within, conj_within}

-- of v variables and t block types
abbrev pub atom_state_within : ℕ → AtomState → Bool
atom_state_within v (Live cells) = list_all (content_within v) cells
atom_state_within v Freed = true

abbrev pub atom_within : ℕ → ℕ → Atom → Bool
atom_within v t a = nat_lt a.place.0 v && (nat_lt a.block.0 t && atom_state_within v a.state)

abbrev pub result_within : ℕ → Option Content → Bool
result_within v None = true
result_within v (Some c) = content_within v c

-- an entry mentions its own variables
abbrev pub entry_within : ℕ → Entry → Bool
entry_within t e =
    list_all (var_info_within t) e.vars
    && (result_within (length e.vars) e.result
    && (list_all (conj_within (length e.vars)) e.pure
    && (list_all (atom_within (length e.vars) t) e.pre
    && list_all (atom_within (length e.vars) t) e.post)))

-- an undecided path may have as many variables as any
abbrev pub cause_within : Cause → Bool
cause_within (Undecided conjuncts) = list_all (conj_within most_variables) conjuncts
cause_within _ = true

abbrev pub gap_within : Gap → Bool
gap_within g = cause_within g.cause

abbrev pub table_within : ℕ → Table → Bool
table_within t table = list_all (entry_within t) table.entries && list_all gap_within table.drops
