-- Symbolic states, and what an act makes of one.
use Rattle.std.specs.Prelude.{ℕ, suc, ℤ, List, [], ◌∷◌, ◌++◌, Option, None, slice_index_or, slice_set, replicate, take}
use Rattle.px_base.specs.declared.trace.Site.{Site}
use Rattle.px_base.specs.declared.trace.MarkKind.{MarkKind}
use Rattle.px_base.specs.declared.trace.Kind.{Kind}
use Rattle.px_terms.specs.Words.{word}
use Rattle.px_terms.specs.Polynomials.{Polynomial}
use Rattle.px_terms.specs.declared.types.ValueType.{ValueType}
use Rattle.px_terms.specs.declared.variables.VarInfo.{VarInfo}
use Rattle.px_terms.specs.declared.variables.Sort.{Sort}
use Rattle.px_terms.specs.declared.variables.Sort.TheVariants.{Given}
use Rattle.px_terms.specs.declared.conjuncts.Place.TheVariants as place
use Rattle.px_terms.specs.declared.conjuncts.Content.{Content}
use Rattle.px_terms.specs.declared.conjuncts.Content.TheVariants.{Unwritten, Word, Place}
use Rattle.px_terms.specs.declared.conjuncts.Conj.{Conj}
use Rattle.px_core.specs.declared.command.Operand.{Operand}
use Rattle.px_core.specs.declared.command.Operand.TheVariants as operand
use Rattle.px_core.specs.BodyTree.{BodyTree}
use Rattle.px_entry.specs.declared.atoms.Atom.{Atom}
use Rattle.px_entry.specs.declared.entries.Exit.{Exit}
use Rattle.px_entry.specs.declared.entries.Exit.TheVariants.{Error}
use Rattle.px_entry.specs.Decided.{assume}
use Rattle.px_entry.specs.Contents.{variable_content}
use Rattle.px_callgraph.specs.declared.states.State.{State}

-- ---- slots

-- the content of a slot; nothing was written beyond the last
abbrev pub content_at : List Content → ℕ → Content
content_at contents n = slice_index_or contents n Unwritten

-- a number as a polynomial
abbrev pub number : ℤ → Polynomial
number z = record { constant = word z; monomials = [] }

abbrev pub operand_content : State → Operand → Content
operand_content s (operand.Slot n) = content_at s.slots n
operand_content s (operand.Word z) = Word (number z)
operand_content s operand.Null = Place place.Null

abbrev pub set_slot : ℕ → Content → State → State
set_slot n c s = record s { slots = slice_set s.slots n c }

-- ---- what an act adds

abbrev pub marked : MarkKind → Site → State → State
marked kind site s = record s { trace = s.trace ++ record { kind = kind; site = site } ∷ [] }

-- a command begins
abbrev pub begun : State → State
begun s = record s { steps = suc s.steps }

abbrev pub assumed : Conj → State → State
assumed c s = record s { pure = assume s.vars s.pure c }

abbrev pub info : Sort → ValueType → VarInfo
info sort t = record { sort = sort; value = t }

abbrev pub with_variables : List VarInfo → State → State
with_variables new s = record s { vars = s.vars ++ new }

abbrev pub with_atom : Atom → State → State
with_atom a s = record s { atoms = s.atoms ++ a ∷ [] }

-- a block that was there before the call and that the path hasn't met
abbrev pub met : Atom → State → State
met a s = record s { pre = s.pre ++ a ∷ []; atoms = s.atoms ++ a ∷ [] }

-- ---- what an act comes to

-- the body goes on, the procedure ends with a result, the path ends beyond the bound, or it comes to what isn't
-- understood, by the number of its word, and isn't followed
pub data Outcome : Type 0 where
  goes : Outcome
  ends : Exit → Option Content → Outcome
  past : Outcome
  drops : ℕ → Outcome

-- the post-state of an act, the polynomials that the act made, and what it comes to
pub record Done : Type 0 where
  pub state : State
  pub terms : List Polynomial
  pub outcome : Outcome

-- the body goes on
abbrev pub on : State → Done
on s = record { state = s; terms = []; outcome = goes }

-- the procedure ends in a memory error
abbrev pub fails : Kind → Site → State → Done
fails kind site s = record { state = s; terms = []; outcome = ends (Error kind site) None }

-- what isn't understood is reached
abbrev pub stops : ℕ → State → Done
stops word s = record { state = s; terms = []; outcome = drops word }

-- ---- the start

-- a variable for each parameter
abbrev pub given_slots : ℕ → List ValueType → List Content
given_slots x [] = []
given_slots x (t ∷ ts) = variable_content t x ∷ given_slots (suc x) ts

abbrev pub given_variables : List ValueType → List VarInfo
given_variables [] = []
given_variables (t ∷ ts) = info Given t ∷ given_variables ts

-- the first slots are the parameters, and all others are unwritten
abbrev pub start_of : BodyTree → State
start_of b = record {
  slots = take b.slots (given_slots 0 b.parameters ++ replicate b.slots Unwritten);
  vars = given_variables b.parameters;
  pure = [];
  pre = [];
  atoms = [];
  trace = [];
  loops = [];
  steps = 0;
}
