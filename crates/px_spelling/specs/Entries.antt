-- Atoms and entries, in a spelling of polynomials.
use Rattle.std.specs.Prelude.{ℕ, List, [], ◌∷◌, ◌++◌, Option, IfSome, ◌==◌, if◌then◌else◌, ⊤}
use Rattle.px_base.specs.Bounds.{most_marks, most_conjuncts, most_atoms, most_variables}
use Rattle.px_base.specs.declared.trace.ProcId.{ProcId}
use Rattle.px_base.specs.declared.trace.Mark.{Mark}
use Rattle.px_terms.specs.declared.types.TypeId.{TypeId}
use Rattle.px_terms.specs.declared.variables.Var.{Var}
use Rattle.px_terms.specs.declared.variables.VarInfo.{VarInfo}
use Rattle.px_terms.specs.declared.types.Value.{Value}
use Rattle.px_terms.specs.declared.conjuncts.Content.{Content}
use Rattle.px_terms.specs.declared.conjuncts.Conj.{Conj}
use Rattle.px_entry.specs.declared.atoms.AtomState.{AtomState}
use Rattle.px_entry.specs.declared.atoms.AtomState.TheVariants as A
use Rattle.px_entry.specs.declared.atoms.Atom.{Atom}
use Rattle.px_entry.specs.declared.entries.Exit.{Exit}
use Rattle.px_entry.specs.declared.entries.Exit.TheVariants as X
use Rattle.px_entry.specs.declared.entries.Entry.{Entry}
use Rattle.px_spelling.specs.Reading.{Reader, ◌>>=◌, ◌<*>◌, done, nothing}
use Rattle.px_spelling.specs.Numbers.{u8_at}
use Rattle.px_spelling.specs.Lists.{list_bytes, IsList, list_at, any_number, option_bytes, option_at}
use Rattle.px_spelling.specs.Traces.{proc_id_bytes, IsProcId, proc_id_at, site_bytes, IsSite, site_at, mark_bytes, IsMark, mark_at, kind_bytes, IsKind, kind_at}
use Rattle.px_spelling.specs.Types.{type_id_bytes, IsTypeId, type_id_at, var_bytes, IsVar, var_at, var_info_bytes, IsVarInfo, var_info_at, value_bytes, IsValue, value_at}
use Rattle.px_spelling.specs.Polynomials.{PolynomialSpelling}
use Rattle.px_spelling.specs.Conjuncts.{content_bytes, IsContent, content_at, conj_bytes, IsConj, conj_at}

-- what is known of a block
abbrev pub atom_state_bytes : PolynomialSpelling → AtomState → List ℕ
atom_state_bytes p (A.Live a) = 0 ∷ list_bytes (content_bytes p) a
atom_state_bytes p A.Freed = 1 ∷ []

abbrev pub IsAtomState : PolynomialSpelling → AtomState → Type 0
IsAtomState p (A.Live a) = IsList (IsContent p) any_number a
IsAtomState p A.Freed = ⊤

unfoldable pub atom_state_with : PolynomialSpelling → ℕ → Reader AtomState
atom_state_with p tag =
    if tag == 0 then done A.Live <*> list_at (content_at p) any_number else (
    if tag == 1 then done A.Freed else nothing)

unfoldable pub atom_state_at : PolynomialSpelling → Reader AtomState
atom_state_at p = u8_at >>= atom_state_with p

-- a block
abbrev pub atom_bytes : PolynomialSpelling → Atom → List ℕ
atom_bytes p s = var_bytes s.place ++ type_id_bytes s.block ++ atom_state_bytes p s.state

abbrev pub IsAtom : PolynomialSpelling → Atom → Type 0
IsAtom p s = IsVar s.place × IsTypeId s.block × IsAtomState p s.state

abbrev pub atom_of : Var → TypeId → AtomState → Atom
atom_of place block state = record { place = place; block = block; state = state }

unfoldable pub atom_at : PolynomialSpelling → Reader Atom
atom_at p = done atom_of <*> var_at <*> type_id_at <*> atom_state_at p

-- how a path ends
abbrev pub exit_bytes : Exit → List ℕ
exit_bytes X.Ok = 0 ∷ []
exit_bytes (X.Error a b) = 1 ∷ (kind_bytes a ++ site_bytes b)

abbrev pub IsExit : Exit → Type 0
IsExit X.Ok = ⊤
IsExit (X.Error a b) = IsKind a × IsSite b

unfoldable pub exit_with : ℕ → Reader Exit
exit_with tag =
    if tag == 0 then done X.Ok else (
    if tag == 1 then done X.Error <*> kind_at <*> site_at else nothing)

unfoldable pub exit_at : Reader Exit
exit_at = u8_at >>= exit_with

-- an entry: the lists have at most as many items as a path may have
abbrev pub entry_bytes : PolynomialSpelling → Entry → List ℕ
entry_bytes p s = proc_id_bytes s.proc ++ list_bytes mark_bytes s.trace ++ exit_bytes s.exit ++ option_bytes (content_bytes p) s.result
    ++ list_bytes var_info_bytes s.vars ++ list_bytes (conj_bytes p) s.pure ++ list_bytes (atom_bytes p) s.pre
    ++ list_bytes (atom_bytes p) s.post ++ list_bytes value_bytes s.model

abbrev pub IsEntry : PolynomialSpelling → Entry → Type 0
IsEntry p s = IsProcId s.proc × IsList IsMark most_marks s.trace × IsExit s.exit × IfSome s.result (IsContent p)
    × IsList IsVarInfo most_variables s.vars × IsList (IsConj p) most_conjuncts s.pure × IsList (IsAtom p) most_atoms s.pre
    × IsList (IsAtom p) most_atoms s.post × IsList IsValue any_number s.model

abbrev pub entry_of : ProcId → List Mark → Exit → Option Content → List VarInfo → List Conj → List Atom → List Atom → List Value → Entry
entry_of proc trace exit result vars pure pre post model = record { proc = proc; trace = trace; exit = exit; result = result; vars = vars; pure = pure; pre = pre; post = post; model = model }

unfoldable pub entry_at : PolynomialSpelling → Reader Entry
entry_at p = done entry_of <*> proc_id_at <*> list_at mark_at most_marks <*> exit_at <*> option_at (content_at p)
    <*> list_at var_info_at most_variables <*> list_at (conj_at p) most_conjuncts <*> list_at (atom_at p) most_atoms
    <*> list_at (atom_at p) most_atoms <*> list_at value_at any_number
