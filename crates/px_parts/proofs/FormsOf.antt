-- Each value's bytes are one of its form.
use Rattle.std.proofs.Common.{◌≡◌, ℕ, List, [], ◌∷◌, ◌++◌, Option, Some, None, refl, subst}
use Rattle.std.specs.Prelude.{IfSome}
use Rattle.px_base.specs.Bounds.{most_marks, most_conjuncts, most_atoms, most_variables}
use Rattle.px_base.specs.declared.trace.Site.{Site}
use Rattle.px_base.specs.declared.trace.MarkKind.{MarkKind}
use Rattle.px_base.specs.declared.trace.MarkKind.TheVariants as M
use Rattle.px_base.specs.declared.trace.Mark.{Mark}
use Rattle.px_base.specs.declared.trace.Kind.{Kind}
use Rattle.px_base.specs.declared.trace.Kind.TheVariants as K
use Rattle.px_terms.specs.declared.types.ValueType.{ValueType}
use Rattle.px_terms.specs.declared.types.ValueType.TheVariants as V
use Rattle.px_terms.specs.declared.types.Value.{Value}
use Rattle.px_terms.specs.declared.types.Value.TheVariants as W
use Rattle.px_terms.specs.declared.variables.Sort.{Sort}
use Rattle.px_terms.specs.declared.variables.Sort.TheVariants as S
use Rattle.px_terms.specs.declared.variables.VarInfo.{VarInfo}
use Rattle.px_terms.specs.declared.variables.Var.{Var}
use Rattle.px_terms.specs.declared.conjuncts.Place.{Place}
use Rattle.px_terms.specs.declared.conjuncts.Place.TheVariants as P
use Rattle.px_terms.specs.declared.conjuncts.Content.{Content}
use Rattle.px_terms.specs.declared.conjuncts.Content.TheVariants as C
use Rattle.px_terms.specs.declared.conjuncts.Conj.{Conj}
use Rattle.px_terms.specs.declared.conjuncts.Conj.TheVariants as J
use Rattle.px_terms.specs.Words.{word}
use Rattle.px_terms.specs.Terms.{Term}
use Rattle.px_terms.specs.Polynomials.{Polynomial, most_monomials, most_degree}
use Rattle.px_entry.specs.declared.atoms.AtomState.{AtomState}
use Rattle.px_entry.specs.declared.atoms.AtomState.TheVariants as A
use Rattle.px_entry.specs.declared.atoms.Atom.{Atom}
use Rattle.px_entry.specs.declared.entries.Exit.{Exit}
use Rattle.px_entry.specs.declared.entries.Exit.TheVariants as X
use Rattle.px_entry.specs.declared.entries.Entry.{Entry}
use Rattle.px_entry.specs.declared.tables.LongKind.{LongKind}
use Rattle.px_entry.specs.declared.tables.LongKind.TheVariants as G
use Rattle.px_entry.specs.declared.tables.Cause.{Cause}
use Rattle.px_entry.specs.declared.tables.Cause.TheVariants as O
use Rattle.px_entry.specs.declared.tables.Gap.{Gap}
use Rattle.px_entry.specs.declared.derivations.Step.{Step}
use Rattle.px_entry.specs.declared.derivations.Derivation.{Derivation}
use Rattle.px_entry.specs.Rules.{rule_number}
use Rattle.px_spelling.specs.Numbers.{u32_bytes, IsU32, i32_bytes, u8_bytes, IsU8, u64_bytes}
use Rattle.px_spelling.specs.Lists.{list_bytes, IsList, any_number, option_bytes}
use Rattle.px_spelling.specs.Traces.{proc_id_bytes, site_bytes, mark_kind_bytes, mark_bytes, IsMark, kind_bytes}
use Rattle.px_spelling.specs.Types.{type_id_bytes, value_type_bytes, var_bytes, sort_bytes, var_info_bytes, IsVarInfo, value_bytes, IsValue}
use Rattle.px_spelling.specs.Conjuncts.{place_bytes, content_bytes, IsContent, conj_bytes, IsConj}
use Rattle.px_spelling.specs.Polynomials.{term_bytes, IsTerm, polynomial_bytes, IsPolynomialInRange, PolynomialSpelling}
use Rattle.px_spelling.specs.ByPlace.{place_in, found_bytes, IsFound}
use Rattle.px_spelling.specs.Entries.{exit_bytes, atom_state_bytes, IsAtomState, atom_bytes, IsAtom, entry_bytes, IsEntry}
use Rattle.px_spelling.specs.Tables.{long_kind_bytes, cause_bytes, IsCause, gap_bytes, IsGap}
use Rattle.px_spelling.specs.Derivations.{step_bytes, IsStep, derivation_bytes, IsDerivation}
use Rattle.px_parts.specs.declared.form.Spelled.{Spelled}
use Rattle.px_parts.specs.declared.form.Form.TheVariants as F
use Rattle.px_parts.specs.Places.{Naming, full, listed, spelling}
use Rattle.px_parts.specs.Forms.{polynomial_in, due, entry_dues, drop_dues, spelled_by}
use Rattle.px_spelling.proofs.Nine.{nine}
use Rattle.px_parts.proofs.Filling.{IsOne, AreDue, one_fills, two_fill, then_due, last_due, front_then, fixed, list_is_one}

-- ---- so many bytes

pub byte_form : (n : ℕ) → IsOne F.Byte (u8_bytes n)
byte_form n = fixed F.Byte (u8_bytes n) refl refl

pub word_form : (n : ℕ) → IsOne F.Word (u32_bytes n)
word_form n = fixed F.Word (u32_bytes n) refl refl

words_form : (most : ℕ) (ns : List ℕ) → IsList IsU32 most ns → IsOne F.Words (list_bytes u32_bytes ns)
words_form most ns fits = list_is_one F.Words F.Word u32_bytes IsU32 most refl (λ front. refl) (λ n h. word_form n) ns fits

pub ticket_form : (n : ℕ) → IsOne F.Ticket (u64_bytes n)
ticket_form n = fixed F.Ticket (u64_bytes n) refl refl

pub kinds_form : (ks : List ℕ) → IsList IsU8 any_number ks → IsOne F.Kinds (list_bytes u8_bytes ks)
kinds_form ks fits = list_is_one F.Kinds F.Byte u8_bytes IsU8 any_number refl (λ front. refl) (λ n h. byte_form n) ks fits

-- ---- marks

mark_with : (k : MarkKind) (site : Site) → IsOne F.Mark (mark_kind_bytes k ++ site_bytes site)
mark_with M.Then site = front_then F.Mark F.Site 1 (0 ∷ []) (site_bytes site) refl refl (one_fills F.Site (site_bytes site) (fixed F.Site (site_bytes site) refl refl))
mark_with M.Else site = front_then F.Mark F.Site 1 (1 ∷ []) (site_bytes site) refl refl (one_fills F.Site (site_bytes site) (fixed F.Site (site_bytes site) refl refl))
mark_with M.Iter site = front_then F.Mark F.Site 1 (2 ∷ []) (site_bytes site) refl refl (one_fills F.Site (site_bytes site) (fixed F.Site (site_bytes site) refl refl))
mark_with M.Done site = front_then F.Mark F.Site 1 (3 ∷ []) (site_bytes site) refl refl (one_fills F.Site (site_bytes site) (fixed F.Site (site_bytes site) refl refl))
mark_with M.Got site = front_then F.Mark F.Site 1 (4 ∷ []) (site_bytes site) refl refl (one_fills F.Site (site_bytes site) (fixed F.Site (site_bytes site) refl refl))
mark_with M.NoBlock site = front_then F.Mark F.Site 1 (5 ∷ []) (site_bytes site) refl refl (one_fills F.Site (site_bytes site) (fixed F.Site (site_bytes site) refl refl))
mark_with M.Input site = front_then F.Mark F.Site 1 (6 ∷ []) (site_bytes site) refl refl (one_fills F.Site (site_bytes site) (fixed F.Site (site_bytes site) refl refl))
mark_with M.Access site = front_then F.Mark F.Site 1 (7 ∷ []) (site_bytes site) refl refl (one_fills F.Site (site_bytes site) (fixed F.Site (site_bytes site) refl refl))
mark_with M.Freed site = front_then F.Mark F.Site 1 (8 ∷ []) (site_bytes site) refl refl (one_fills F.Site (site_bytes site) (fixed F.Site (site_bytes site) refl refl))
mark_with M.FreeNull site = front_then F.Mark F.Site 1 (9 ∷ []) (site_bytes site) refl refl (one_fills F.Site (site_bytes site) (fixed F.Site (site_bytes site) refl refl))
mark_with (M.Enter a) site =
    let call = proc_id_bytes a ++ site_bytes site in front_then F.Mark F.Call 1 (10 ∷ []) call refl refl (one_fills F.Call call (fixed F.Call call refl refl))
mark_with M.Leave site = front_then F.Mark F.Site 1 (11 ∷ []) (site_bytes site) refl refl (one_fills F.Site (site_bytes site) (fixed F.Site (site_bytes site) refl refl))

marks_form : (ms : List Mark) → IsList IsMark most_marks ms → IsOne F.Marks (list_bytes mark_bytes ms)
marks_form ms fits = list_is_one F.Marks F.Mark mark_bytes IsMark most_marks refl (λ front. refl) (λ m h. mark_with m.kind m.site) ms fits

failure : (k : Kind) (site : Site) → IsOne F.Failure (kind_bytes k ++ site_bytes site)
failure K.NullDereference site = fixed F.Failure (0 ∷ site_bytes site) refl refl
failure K.UseAfterFree site = fixed F.Failure (1 ∷ site_bytes site) refl refl
failure K.DoubleFree site = fixed F.Failure (2 ∷ site_bytes site) refl refl
failure K.UninitialisedRead site = fixed F.Failure (3 ∷ site_bytes site) refl refl
failure K.DivisionByZero site = fixed F.Failure (4 ∷ site_bytes site) refl refl

exit_form : (x : Exit) → IsOne F.Exit (exit_bytes x)
exit_form X.Ok = fixed F.Exit (0 ∷ []) refl refl
exit_form (X.Error a b) = front_then F.Exit F.Failure 1 (1 ∷ []) (kind_bytes a ++ site_bytes b) refl refl (one_fills F.Failure (kind_bytes a ++ site_bytes b) (failure a b))

-- ---- variables and values

type_form : (v : ValueType) → IsOne F.MaybeWord (value_type_bytes v)
type_form V.Int = fixed F.MaybeWord (0 ∷ []) refl refl
type_form (V.Pointer a) = front_then F.MaybeWord F.Word 1 (1 ∷ []) (type_id_bytes a) refl refl (one_fills F.Word (type_id_bytes a) (word_form a.0))

variable_with : (s : Sort) (v : ValueType) → IsOne F.Variable (sort_bytes s ++ value_type_bytes v)
variable_with S.Given v = front_then F.Variable F.MaybeWord 1 (0 ∷ []) (value_type_bytes v) refl refl (one_fills F.MaybeWord (value_type_bytes v) (type_form v))
variable_with S.Cell v = front_then F.Variable F.MaybeWord 1 (1 ∷ []) (value_type_bytes v) refl refl (one_fills F.MaybeWord (value_type_bytes v) (type_form v))
variable_with S.Input v = front_then F.Variable F.MaybeWord 1 (2 ∷ []) (value_type_bytes v) refl refl (one_fills F.MaybeWord (value_type_bytes v) (type_form v))
variable_with S.Made v = front_then F.Variable F.MaybeWord 1 (3 ∷ []) (value_type_bytes v) refl refl (one_fills F.MaybeWord (value_type_bytes v) (type_form v))

variables_form : (vs : List VarInfo) → IsList IsVarInfo most_variables vs → IsOne F.Variables (list_bytes var_info_bytes vs)
variables_form vs fits = list_is_one F.Variables F.Variable var_info_bytes IsVarInfo most_variables refl (λ front. refl) (λ v h. variable_with v.sort v.value) vs fits

value_form : (w : Value) → IsOne F.Value (value_bytes w)
value_form (W.Word a) = front_then F.Value F.Word 1 (0 ∷ []) (i32_bytes a) refl refl (one_fills F.Word (i32_bytes a) (word_form (word a)))
value_form W.Null = fixed F.Value (1 ∷ []) refl refl
value_form (W.Block a) = front_then F.Value F.Word 1 (2 ∷ []) (u32_bytes a) refl refl (one_fills F.Word (u32_bytes a) (word_form a))
value_form W.Unwritten = fixed F.Value (3 ∷ []) refl refl

values_form : (ws : List Value) → IsList IsValue any_number ws → IsOne F.Values (list_bytes value_bytes ws)
values_form ws fits = list_is_one F.Values F.Value value_bytes IsValue any_number refl (λ front. refl) (λ w h. value_form w) ws fits

-- ---- terms

term_form : (t : Term) → IsTerm t → IsOne F.Term (term_bytes t)
term_form t fits =
    let vars = list_bytes u32_bytes t.vars in
    front_then F.Term F.Words 1 (u32_bytes t.coefficient) vars refl refl (one_fills F.Words vars (words_form most_degree t.vars fits.1))

polynomial_form : (p : Polynomial) → IsPolynomialInRange p → IsOne F.Polynomial (polynomial_bytes p)
polynomial_form p fits =
    let terms = list_bytes term_bytes p.monomials in
    front_then F.Polynomial F.Terms 1 (u32_bytes p.constant) terms refl refl
    (one_fills F.Terms terms (list_is_one F.Terms F.Term term_bytes IsTerm most_monomials refl (λ front. refl) term_form p.monomials fits.1))

pub polynomials_form : (ps : List Polynomial) → IsList IsPolynomialInRange any_number ps → IsOne F.Polynomials (list_bytes polynomial_bytes ps)
polynomials_form ps fits = list_is_one F.Polynomials F.Polynomial polynomial_bytes IsPolynomialInRange any_number refl (λ front. refl) polynomial_form ps fits

place_form : (p : Place) → IsOne F.MaybeWord (place_bytes p)
place_form P.Null = fixed F.MaybeWord (0 ∷ []) refl refl
place_form (P.Var a) = front_then F.MaybeWord F.Word 1 (1 ∷ []) (var_bytes a) refl refl (one_fills F.Word (var_bytes a) (word_form a.0))

-- ---- kinds of drops

long_form : (k : LongKind) → IsOne F.Byte (long_kind_bytes k)
long_form G.Trace = byte_form 0
long_form G.Steps = byte_form 1
long_form G.Conjuncts = byte_form 2
long_form G.Atoms = byte_form 3
long_form G.Variables = byte_form 4
long_form G.Term = byte_form 5

-- ---- derivations

step_form : (s : Step) → IsStep s → IsOne F.Step (step_bytes s)
step_form s fits =
    let choices = list_bytes u32_bytes s.choices in
    front_then F.Step F.Words 1 (rule_number s.rule ∷ []) choices refl refl (one_fills F.Words choices (words_form any_number s.choices fits.1))

pub derivation_due : (d : Derivation) → IsDerivation d → AreDue (due F.Steps 1 ∷ []) (derivation_bytes d)
derivation_due d fits =
    last_due F.Steps 1 (derivation_bytes d) (one_fills F.Steps (derivation_bytes d)
    (list_is_one F.Steps F.Step step_bytes IsStep any_number refl (λ front. refl) step_form d.steps fits))

-- ---- what holds polynomials, in a spelling in which each is one of its form

module _ (s : Spelled) (p : PolynomialSpelling) (one : (x : Polynomial) → p.fits x → IsOne (polynomial_in s) (p.bytes_of x)) where
  content_form : (c : Content) → IsContent p c → IsOne (F.Content s) (content_bytes p c)
  content_form C.Unwritten fits = fixed (F.Content s) (0 ∷ []) refl refl
  content_form (C.Word a) fits = front_then (F.Content s) (polynomial_in s) 1 (1 ∷ []) (p.bytes_of a) refl refl (one_fills (polynomial_in s) (p.bytes_of a) (one a fits))
  content_form (C.Place a) fits = front_then (F.Content s) F.MaybeWord 1 (2 ∷ []) (place_bytes a) refl refl (one_fills F.MaybeWord (place_bytes a) (place_form a))
  content_form (C.Cell a) fits = front_then (F.Content s) F.Word 1 (3 ∷ []) (var_bytes a) refl refl (one_fills F.Word (var_bytes a) (word_form a.0))

  answer_form : (o : Option Content) → IfSome o (IsContent p) → IsOne (F.Answer s) (option_bytes (content_bytes p) o)
  answer_form None fits = fixed (F.Answer s) (0 ∷ []) refl refl
  answer_form (Some c) fits = front_then (F.Answer s) (F.Content s) 1 (1 ∷ []) (content_bytes p c) refl refl (one_fills (F.Content s) (content_bytes p c) (content_form c fits))

  quotient_form : (x : Var) (a b : Polynomial) → p.fits a → p.fits b → IsOne (F.Quotient s) (var_bytes x ++ p.bytes_of a ++ p.bytes_of b)
  quotient_form x a b first second =
      let both = p.bytes_of a ++ p.bytes_of b in
      front_then (F.Quotient s) (polynomial_in s) 2 (var_bytes x) both refl refl
      (two_fill (polynomial_in s) (p.bytes_of a) (p.bytes_of b) (one a first) (one b second))

  conjunct_form : (j : Conj) → IsConj p j → IsOne (F.Conjunct s) (conj_bytes p j)
  conjunct_form (J.Equal a) fits = front_then (F.Conjunct s) (polynomial_in s) 1 (0 ∷ []) (p.bytes_of a) refl refl (one_fills (polynomial_in s) (p.bytes_of a) (one a fits))
  conjunct_form (J.Unequal a) fits = front_then (F.Conjunct s) (polynomial_in s) 1 (1 ∷ []) (p.bytes_of a) refl refl (one_fills (polynomial_in s) (p.bytes_of a) (one a fits))
  conjunct_form (J.Less a b) fits =
      front_then (F.Conjunct s) (polynomial_in s) 2 (2 ∷ []) (p.bytes_of a ++ p.bytes_of b) refl refl
      (two_fill (polynomial_in s) (p.bytes_of a) (p.bytes_of b) (one a fits.0) (one b fits.1))
  conjunct_form (J.AtMost a b) fits =
      front_then (F.Conjunct s) (polynomial_in s) 2 (3 ∷ []) (p.bytes_of a ++ p.bytes_of b) refl refl
      (two_fill (polynomial_in s) (p.bytes_of a) (p.bytes_of b) (one a fits.0) (one b fits.1))
  conjunct_form (J.SamePlace a b) fits =
      front_then (F.Conjunct s) F.MaybeWord 2 (4 ∷ []) (place_bytes a ++ place_bytes b) refl refl (two_fill F.MaybeWord (place_bytes a) (place_bytes b) (place_form a) (place_form b))
  conjunct_form (J.OtherPlace a b) fits =
      front_then (F.Conjunct s) F.MaybeWord 2 (5 ∷ []) (place_bytes a ++ place_bytes b) refl refl (two_fill F.MaybeWord (place_bytes a) (place_bytes b) (place_form a) (place_form b))
  conjunct_form (J.Written a) fits = front_then (F.Conjunct s) F.Word 1 (6 ∷ []) (var_bytes a) refl refl (one_fills F.Word (var_bytes a) (word_form a.0))
  conjunct_form (J.Unwritten a) fits = front_then (F.Conjunct s) F.Word 1 (7 ∷ []) (var_bytes a) refl refl (one_fills F.Word (var_bytes a) (word_form a.0))
  conjunct_form (J.Quotient x a b) fits =
      let all = var_bytes x ++ p.bytes_of a ++ p.bytes_of b in front_then (F.Conjunct s) (F.Quotient s) 1 (8 ∷ []) all refl refl (one_fills (F.Quotient s) all (quotient_form x a b fits.1 fits.2))

  conjuncts_form : (js : List Conj) → IsList (IsConj p) most_conjuncts js → IsOne (F.Conjuncts s) (list_bytes (conj_bytes p) js)
  conjuncts_form js fits = list_is_one (F.Conjuncts s) (F.Conjunct s) (conj_bytes p) (IsConj p) most_conjuncts refl (λ front. refl) conjunct_form js fits

  -- ---- blocks

  state_form : (x : AtomState) → IsAtomState p x → IsOne (F.State s) (atom_state_bytes p x)
  state_form (A.Live a) fits =
      let contents = list_bytes (content_bytes p) a in
      front_then (F.State s) (F.Contents s) 1 (0 ∷ []) contents refl refl
      (one_fills (F.Contents s) contents (list_is_one (F.Contents s) (F.Content s) (content_bytes p) (IsContent p) any_number refl (λ front. refl) content_form a fits))
  state_form A.Freed fits = fixed (F.State s) (1 ∷ []) refl refl

  atom_form : (x : Atom) → IsAtom p x → IsOne (F.Atom s) (atom_bytes p x)
  atom_form x fits =
      front_then (F.Atom s) (F.State s) 1 (var_bytes x.place ++ type_id_bytes x.block) (atom_state_bytes p x.state) refl refl
      (one_fills (F.State s) (atom_state_bytes p x.state) (state_form x.state fits.2))

  atoms_form : (xs : List Atom) → IsList (IsAtom p) most_atoms xs → IsOne (F.Atoms s) (list_bytes (atom_bytes p) xs)
  atoms_form xs fits = list_is_one (F.Atoms s) (F.Atom s) (atom_bytes p) (IsAtom p) most_atoms refl (λ front. refl) atom_form xs fits

  -- ---- drops

  cause_form : (c : Cause) → IsCause p c → IsOne (F.Cause s) (cause_bytes p c)
  cause_form (O.Undecided a) fits = front_then (F.Cause s) (F.Conjuncts s) 1 (0 ∷ []) (list_bytes (conj_bytes p) a) refl refl (one_fills (F.Conjuncts s) (list_bytes (conj_bytes p) a) (conjuncts_form a fits))
  cause_form (O.Nodes a) fits = front_then (F.Cause s) F.Word 1 (1 ∷ []) (u32_bytes a) refl refl (one_fills F.Word (u32_bytes a) (word_form a))
  cause_form (O.Paths a) fits = front_then (F.Cause s) F.Word 1 (2 ∷ []) (u32_bytes a) refl refl (one_fills F.Word (u32_bytes a) (word_form a))
  cause_form (O.Long a) fits = front_then (F.Cause s) F.Byte 1 (3 ∷ []) (long_kind_bytes a) refl refl (one_fills F.Byte (long_kind_bytes a) (long_form a))
  cause_form (O.Unknown a) fits = front_then (F.Cause s) F.Word 1 (4 ∷ []) (proc_id_bytes a) refl refl (one_fills F.Word (proc_id_bytes a) (word_form a.0))
  cause_form (O.Cycle a) fits = front_then (F.Cause s) F.Word 1 (5 ∷ []) (proc_id_bytes a) refl refl (one_fills F.Word (proc_id_bytes a) (word_form a.0))
  cause_form (O.Dropped a) fits = front_then (F.Cause s) F.Word 1 (6 ∷ []) (proc_id_bytes a) refl refl (one_fills F.Word (proc_id_bytes a) (word_form a.0))
  cause_form (O.LeftOut a) fits = front_then (F.Cause s) F.Word 1 (7 ∷ []) (proc_id_bytes a) refl refl (one_fills F.Word (proc_id_bytes a) (word_form a.0))
  cause_form (O.Outside a) fits = front_then (F.Cause s) F.Word 1 (8 ∷ []) (u32_bytes a) refl refl (one_fills F.Word (u32_bytes a) (word_form a))

  drop_due : (g : Gap) → IsGap p g → AreDue (drop_dues s) (gap_bytes p g)
  drop_due g fits =
      then_due F.Marks 1 (list_bytes mark_bytes g.trace) (cause_bytes p g.cause) (due (F.Cause s) 1 ∷ []) (one_fills F.Marks (list_bytes mark_bytes g.trace) (marks_form g.trace fits.0))
      (last_due (F.Cause s) 1 (cause_bytes p g.cause) (one_fills (F.Cause s) (cause_bytes p g.cause) (cause_form g.cause fits.1)))

  -- ---- entries

  entry_due : (e : Entry) → IsEntry p e → AreDue (entry_dues s) (entry_bytes p e)
  entry_due e (is_proc, are_marks, is_exit, is_answer, are_variables, are_conjuncts, are_before, are_after, are_values) =
      let marks = list_bytes mark_bytes e.trace in
      let answer = option_bytes (content_bytes p) e.result in
      let variables = list_bytes var_info_bytes e.vars in
      let conjuncts = list_bytes (conj_bytes p) e.pure in
      let before = list_bytes (atom_bytes p) e.pre in
      let after = list_bytes (atom_bytes p) e.post in
      let model = list_bytes value_bytes e.model in
      let r7 = after ++ model in
      let r6 = before ++ r7 in
      let r5 = conjuncts ++ r6 in
      let r4 = variables ++ r5 in
      let r3 = answer ++ r4 in
      let r2 = exit_bytes e.exit ++ r3 in
      let r1 = marks ++ r2 in
      let all = proc_id_bytes e.proc ++ r1 in
      let last = last_due F.Values 1 model (one_fills F.Values model (values_form e.model are_values)) in
      let eighth = then_due (F.Atoms s) 1 after model _ (one_fills (F.Atoms s) after (atoms_form e.post are_after)) last in
      let seventh = then_due (F.Atoms s) 1 before r7 _ (one_fills (F.Atoms s) before (atoms_form e.pre are_before)) eighth in
      let sixth = then_due (F.Conjuncts s) 1 conjuncts r6 _ (one_fills (F.Conjuncts s) conjuncts (conjuncts_form e.pure are_conjuncts)) seventh in
      let fifth = then_due F.Variables 1 variables r5 _ (one_fills F.Variables variables (variables_form e.vars are_variables)) sixth in
      let fourth = then_due (F.Answer s) 1 answer r4 _ (one_fills (F.Answer s) answer (answer_form e.result is_answer)) fifth in
      let third = then_due F.Exit 1 (exit_bytes e.exit) r3 _ (one_fills F.Exit (exit_bytes e.exit) (exit_form e.exit)) fourth in
      let second = then_due F.Marks 1 marks r2 _ (one_fills F.Marks marks (marks_form e.trace are_marks)) third in
      let first : AreDue (entry_dues s) all = then_due F.Word 1 (proc_id_bytes e.proc) r1 _ (one_fills F.Word (proc_id_bytes e.proc) (word_form e.proc.0)) second in
      let is : all ≡ entry_bytes p e =
      nine all [] all (proc_id_bytes e.proc) r1 marks r2 (exit_bytes e.exit) r3 answer r4 variables r5 conjuncts r6 before r7 after model refl refl refl refl refl refl refl refl refl in
      subst (λ l. AreDue (entry_dues s) l) is first

-- ---- however polynomials are named

place_found : (o : Option ℕ) → IsFound o → IsOne F.Word (found_bytes o)
place_found None fits = absurd fits
place_found (Some n) fits = word_form n

named_form : (k : Naming) (x : Polynomial) → (spelling k).fits x → IsOne (polynomial_in (spelled_by k)) ((spelling k).bytes_of x)
named_form full x fits = polynomial_form x fits
named_form (listed terms n) x fits = place_found (place_in terms x) fits

pub drop_is_due : (k : Naming) (g : Gap) → IsGap (spelling k) g → AreDue (drop_dues (spelled_by k)) (gap_bytes (spelling k) g)
drop_is_due k g fits = drop_due (spelled_by k) (spelling k) (named_form k) g fits

pub entry_is_due : (k : Naming) (e : Entry) → IsEntry (spelling k) e → AreDue (entry_dues (spelled_by k)) (entry_bytes (spelling k) e)
entry_is_due k e fits = entry_due (spelled_by k) (spelling k) (named_form k) e fits
