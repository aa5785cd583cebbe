-- The polynomials that values mention, in the order in which they are spelled.
use Rattle.std.specs.Prelude.{List, [], ◌∷◌, ◌++◌, Option, Some, None}
use Rattle.std.specs.List.{flat_map}
use Rattle.px_terms.specs.Polynomials.{Polynomial}
use Rattle.px_terms.specs.declared.conjuncts.Content.{Content}
use Rattle.px_terms.specs.declared.conjuncts.Content.TheVariants as C
use Rattle.px_terms.specs.declared.conjuncts.Conj.{Conj}
use Rattle.px_terms.specs.declared.conjuncts.Conj.TheVariants as J
use Rattle.px_entry.specs.declared.atoms.AtomState.{AtomState}
use Rattle.px_entry.specs.declared.atoms.AtomState.TheVariants as A
use Rattle.px_entry.specs.declared.atoms.Atom.{Atom}
use Rattle.px_entry.specs.declared.entries.Entry.{Entry}
use Rattle.px_entry.specs.declared.tables.Cause.{Cause}
use Rattle.px_entry.specs.declared.tables.Cause.TheVariants.{Undecided}
use Rattle.px_entry.specs.declared.tables.Gap.{Gap}
use Rattle.px_entry.specs.declared.tables.Table.{Table}
use Rattle.px_callgraph.specs.declared.jobs.Callee.{Callee}
use Rattle.px_callgraph.specs.declared.jobs.Callee.TheVariants as K

abbrev pub content_mentions : Content → List Polynomial
content_mentions C.Unwritten = []
content_mentions (C.Word p) = p ∷ []
content_mentions (C.Place a) = []
content_mentions (C.Cell x) = []

abbrev pub result_mentions : Option Content → List Polynomial
result_mentions None = []
result_mentions (Some c) = content_mentions c

abbrev pub conj_mentions : Conj → List Polynomial
conj_mentions (J.Equal p) = p ∷ []
conj_mentions (J.Unequal p) = p ∷ []
conj_mentions (J.Less p q) = p ∷ q ∷ []
conj_mentions (J.AtMost p q) = p ∷ q ∷ []
conj_mentions (J.SamePlace a b) = []
conj_mentions (J.OtherPlace a b) = []
conj_mentions (J.Written x) = []
conj_mentions (J.Unwritten x) = []
conj_mentions (J.Quotient x p q) = p ∷ q ∷ []

abbrev pub atom_state_mentions : AtomState → List Polynomial
atom_state_mentions (A.Live cells) = flat_map content_mentions cells
atom_state_mentions A.Freed = []

abbrev pub atom_mentions : Atom → List Polynomial
atom_mentions a = atom_state_mentions a.state

abbrev pub entry_mentions : Entry → List Polynomial
entry_mentions e = result_mentions e.result ++ flat_map conj_mentions e.pure ++ flat_map atom_mentions e.pre ++ flat_map atom_mentions e.post

abbrev pub cause_mentions : Cause → List Polynomial
cause_mentions (Undecided conjuncts) = flat_map conj_mentions conjuncts
cause_mentions _ = []

abbrev pub gap_mentions : Gap → List Polynomial
gap_mentions g = cause_mentions g.cause

abbrev pub table_mentions : Table → List Polynomial
table_mentions t = flat_map entry_mentions t.entries ++ flat_map gap_mentions t.drops

abbrev pub callee_mentions : Callee → List Polynomial
callee_mentions (K.Table t) = table_mentions t
callee_mentions K.Cycle = []
callee_mentions K.LeftOut = []
callee_mentions K.Unknown = []
