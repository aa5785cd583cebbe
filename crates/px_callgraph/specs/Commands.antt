-- What is listed of a command, by name, and where each name leads. Limits are no matter here.
use Rattle.std.specs.Prelude.{ℕ, suc, pos, negsuc, Bool, true, false, nat_eq, nat_lt, ◌&&◌, ◌||◌, List, [], ◌∷◌, ◌++◌, length, map, Option, Some, None, slice_get, is_some}
use Rattle.std.specs.List.{list_all}
use Rattle.px_base.specs.declared.trace.Site.{Site}
use Rattle.px_base.specs.declared.trace.MarkKind.TheVariants as mark
use Rattle.px_base.specs.declared.trace.Kind.TheVariants.{UninitialisedRead, DivisionByZero}
use Rattle.px_terms.specs.Words.{word_quotient}
use Rattle.px_terms.specs.Polynomials.{Polynomial}
use Rattle.px_terms.specs.Substitutions.{variable}
use Rattle.px_terms.specs.declared.types.TypeId.{TypeId}
use Rattle.px_terms.specs.declared.types.BlockType.{BlockType}
use Rattle.px_terms.specs.declared.types.ValueType.{ValueType}
use Rattle.px_terms.specs.declared.types.ValueType.TheVariants.{Int, Pointer}
use Rattle.px_terms.specs.declared.variables.Var.{Var}
use Rattle.px_terms.specs.declared.variables.VarInfo.{VarInfo}
use Rattle.px_terms.specs.declared.variables.Sort.TheVariants as sort
use Rattle.px_terms.specs.declared.conjuncts.Place.{Place as PlaceOf}
use Rattle.px_terms.specs.declared.conjuncts.Place.TheVariants as place
use Rattle.px_terms.specs.declared.conjuncts.Content.{Content}
use Rattle.px_terms.specs.declared.conjuncts.Content.TheVariants.{Unwritten, Word, Place, Cell}
use Rattle.px_terms.specs.declared.conjuncts.Conj.{Conj}
use Rattle.px_terms.specs.declared.conjuncts.Conj.TheVariants as conjunct
use Rattle.px_core.specs.declared.command.Operand.{Operand}
use Rattle.px_core.specs.CommandTree.{CommandTree, assign, unset, read, test, choose, loop, leave, load, store, malloc, free, input, call, return, break, continue, stop, divide}
use Rattle.px_entry.specs.declared.atoms.AtomState.TheVariants.{Live}
use Rattle.px_entry.specs.declared.entries.Exit.TheVariants as exit
use Rattle.px_entry.specs.Sorts.{is_some_and, is_long, is_int_polynomial}
use Rattle.px_entry.specs.Decided.{word_of, is_open}
use Rattle.px_entry.specs.Contents.{fits_cell, variable_content}
use Rattle.px_callgraph.specs.declared.states.State.{State}
use Rattle.px_callgraph.specs.declared.states.Way.{Way}
use Rattle.px_callgraph.specs.declared.states.Way.TheVariants as way
use Rattle.px_callgraph.specs.JobTree.{JobTree}
use Rattle.px_callgraph.specs.States.{ends, past, Done, on, fails, stops, operand_content, content_at, number, set_slot, marked, begun, assumed, info, with_variables, with_atom}
use Rattle.px_callgraph.specs.Operations.{of_words, operation, made_terms, condition, contrary, conjunct_terms}
use Rattle.px_callgraph.specs.Accesses.{Access, listed_if, access_ways, accessed, access_done, load_access, store_access, free_access, block_cells, atom_of}

-- ---- read

-- both outcomes are listed of what stands in a cell, whatever was assumed of it
abbrev pub read_ways : List VarInfo → Content → List Way
read_ways vars Unwritten = way.Unwritten ∷ []
read_ways vars (Word p) = way.Written ∷ []
read_ways vars (Place a) = way.Written ∷ []
read_ways vars (Cell x) = elim (nat_lt x.0 (length vars)) [ true ↦ way.Written ∷ way.Unwritten ∷ [] | false ↦ [] ]

-- a cell's content, read, is a word or a place
abbrev pub read_cell : ℕ → Var → Option VarInfo → State → Done
read_cell slot x None s = on s
read_cell slot x (Some i) s = on (set_slot slot (variable_content i.value x.0) (assumed (conjunct.Written x) s))

abbrev pub read_written : ℕ → Content → State → Done
read_written slot Unwritten s = on s
read_written slot (Word p) s = on s
read_written slot (Place a) s = on s
read_written slot (Cell x) s = read_cell slot x (slice_get s.vars x.0) s

abbrev pub read_unwritten : Site → Content → State → Done
read_unwritten site Unwritten s = fails UninitialisedRead site s
read_unwritten site (Word p) s = on s
read_unwritten site (Place a) s = on s
read_unwritten site (Cell x) s = fails UninitialisedRead site (assumed (conjunct.Unwritten x) s)

abbrev pub read_done : ℕ → Site → Content → Way → State → Done
read_done slot site c way.Written s = read_written slot c s
read_done slot site c way.Unwritten s = read_unwritten site c s
read_done slot site c _ s = on s

-- ---- test

abbrev pub open_if : List VarInfo → Option Conj → Way → List Way
open_if vars None w = []
open_if vars (Some c) w = listed_if (is_open vars c) w

-- a condition is assumed, and the slot gets its outcome
abbrev pub test_outcome : ℕ → ℕ → Option Conj → State → Done
test_outcome to outcome None s = on s
test_outcome to outcome (Some c) s = record (on (set_slot to (Word (number (pos outcome))) (assumed c s))) { terms = conjunct_terms c }

abbrev pub test_done : ℕ → Site → Option Conj → Option Conj → Way → State → Done
test_done to site true_if false_if way.Then s = test_outcome to 1 true_if (marked mark.Then site s)
test_done to site true_if false_if way.Else s = test_outcome to 0 false_if (marked mark.Else site s)
test_done to site true_if false_if _ s = on s

-- ---- If

-- the outcome that a content is, where it is the word 1 or 0
abbrev pub outcome_of : Content → Option Bool
outcome_of Unwritten = None
outcome_of (Word p) = elim p.monomials [
  | [] ↦ elim (nat_eq p.constant 1) [ true ↦ Some true | false ↦ elim (nat_eq p.constant 0) [ true ↦ Some false | false ↦ None ] ]
  | _ ∷ _ ↦ None
]
outcome_of (Place a) = None
outcome_of (Cell x) = None

-- ---- loops

abbrev pub last_loop : List (Site × ℕ) → Option (Site × ℕ)
last_loop [] = None
last_loop (l ∷ []) = Some l
last_loop (l ∷ m ∷ rest) = last_loop (m ∷ rest)

abbrev pub all_but_last : List (Site × ℕ) → List (Site × ℕ)
all_but_last [] = []
all_but_last (l ∷ []) = []
all_but_last (l ∷ m ∷ rest) = l ∷ all_but_last (m ∷ rest)

abbrev pub enter_loop : Site → State → State
enter_loop site s = record s { loops = s.loops ++ (site, 0) ∷ [] }

abbrev pub leave_loop : State → State
leave_loop s = record s { loops = all_but_last s.loops }

abbrev pub repeat_loop : Site → ℕ → State → State
repeat_loop site made s = record s { loops = all_but_last s.loops ++ (site, made) ∷ [] }

-- at the end of its head a loop begins its body once more, if the bound allows it
abbrev pub iteration : ℕ → Site → ℕ → State → Done
iteration bound site made s = elim (nat_lt made bound) [
  | true ↦ on (repeat_loop site (suc made) (marked mark.Iter site s))
  | false ↦ record { state = s; terms = []; outcome = past }
]

abbrev pub leaving : Option (Site × ℕ) → State → Done
leaving None s = on s
leaving (Some l) s = on (leave_loop (marked mark.Done l.0 s))

-- ---- blocks and inputs

abbrev pub malloc_ways : Option BlockType → List Way
malloc_ways None = []
malloc_ways (Some b) = way.Null ∷ way.Made ∷ []

-- a new block, all of whose cells are unwritten
abbrev pub make : List BlockType → TypeId → State → State
make types block s =
    with_variables (info sort.Made (Pointer block) ∷ [])
    (with_atom (atom_of (record { 0 = length s.vars }) block (Live (map (λ _. Unwritten) (block_cells types block)))) s)

abbrev pub malloc_done : List BlockType → ℕ → TypeId → Site → Way → State → Done
malloc_done types to block site way.Null s = on (set_slot to (Place place.Null) (marked mark.NoBlock site s))
malloc_done types to block site way.Made s = on (set_slot to (variable_content (Pointer block) (length s.vars)) (make types block (marked mark.Got site s)))
malloc_done types to block site _ s = on s

-- from -1 to 255
abbrev pub is_input_byte : ℕ → List Conj
is_input_byte x = conjunct.AtMost (number (negsuc 0)) (variable x) ∷ conjunct.AtMost (variable x) (number (pos 255)) ∷ []

abbrev pub assume_all : List Conj → State → State
assume_all [] s = s
assume_all (c ∷ cs) s = assume_all cs (assumed c s)

abbrev pub input_done : ℕ → Site → State → Done
input_done to site s =
    on (set_slot to (Word (variable (length s.vars))) (assume_all (is_input_byte (length s.vars)) (with_variables (info sort.Input Int ∷ []) (marked mark.Input site s))))

-- ---- division

-- the quotient of two constants; none is by 0
abbrev pub constant_quotient : Option ℕ → Option ℕ → Option Content
constant_quotient (Some m) (Some n) = elim (nat_eq n 0) [ true ↦ None | false ↦ Some (Word (record { constant = word_quotient m n; monomials = [] })) ]
constant_quotient (Some m) None = None
constant_quotient None n = None

-- a quotient that isn't a constant is a new input
abbrev pub quotient_by : ℕ → Polynomial → Polynomial → Option Content → State → State
quotient_by to p q None s =
    set_slot to (Word (variable (length s.vars))) (assumed (conjunct.Quotient (record { 0 = length s.vars }) p q) (with_variables (info sort.Input Int ∷ []) s))
quotient_by to p q (Some c) s = set_slot to c s

-- By 0 it fails; else there is a quotient. What the quotient is of has to be a word, which a polynomial that is too
-- long isn't asked.
abbrev pub word_ways : List VarInfo → Polynomial → Polynomial → List Way
word_ways vars p q =
    listed_if (is_open vars (conjunct.Equal q)) way.ByZero
    ++ listed_if (is_open vars (conjunct.Unequal q) && (is_long p || is_int_polynomial vars p)) way.Divided

abbrev pub or_none : Option (List Way) → List Way
or_none None = []
or_none (Some ways) = ways

-- contents that aren't words aren't divided
abbrev pub divide_ways : List VarInfo → Content → Content → List Way
divide_ways vars a b = or_none (of_words (word_ways vars) a b)

abbrev pub words_divided : ℕ → Site → Way → State → Polynomial → Polynomial → Done
words_divided to site way.ByZero s p q = record (fails DivisionByZero site (assumed (conjunct.Equal q) s)) { terms = q ∷ [] }
words_divided to site way.Divided s p q = record (on (quotient_by to p q (constant_quotient (word_of p) (word_of q)) (assumed (conjunct.Unequal q) s))) { terms = p ∷ q ∷ [] }
words_divided to site _ s p q = on s

abbrev pub or_stays : State → Option Done → Done
or_stays s None = on s
or_stays s (Some d) = d

abbrev pub divide_done : ℕ → Site → Content → Content → Way → State → Done
divide_done to site a b w s = or_stays s (of_words (words_divided to site w s) a b)

-- ---- return

-- the result of a procedure with this type of results, where it returns so
abbrev pub returned : State → Option ValueType → Option Operand → Option (Option Content)
returned s None None = Some None
returned s None (Some a) = None
returned s (Some t) None = Some (Some Unwritten)
returned s (Some t) (Some a) = elim (fits_cell s.vars t (operand_content s a)) [ true ↦ Some (Some (operand_content s a)) | false ↦ None ]

abbrev pub return_done : Option (Option Content) → State → Done
return_done None s = on s
return_done (Some result) s = record { state = s; terms = []; outcome = ends exit.Ok result }

-- ---- all commands

-- arguments are words or places
abbrev pub is_argument : Content → Bool
is_argument Unwritten = false
is_argument (Word p) = true
is_argument (Place a) = true
is_argument (Cell x) = false

abbrev pub argument_contents : State → List Operand → List Content
argument_contents s arguments = map (operand_content s) arguments

-- the type of a cell
abbrev pub field_type : JobTree → TypeId → ℕ → Option ValueType
field_type j block field = slice_get (block_cells j.types block) field

abbrev pub through_place : {A : Type 0} → A → Option PlaceOf → (PlaceOf → A) → A
through_place otherwise None f = otherwise
through_place otherwise (Some p) f = f p

abbrev pub pointer_ways : State → TypeId → Operand → Bool → List Way
pointer_ways s block at true = through_place [] (accessed s.vars block (operand_content s at)) (access_ways s block)
pointer_ways s block at false = []

abbrev pub pointer_done : JobTree → TypeId → Operand → Access → Way → State → Done
pointer_done j block at a w s = through_place (on s) (accessed s.vars block (operand_content s at)) (λ p. access_done j.types block a p w s)

-- A command lists nothing where it doesn't fit the state.
abbrev pub command_ways : JobTree → State → CommandTree → List Way
command_ways j s (assign to op a b) = listed_if (is_some (operation op (operand_content s a) (operand_content s b))) way.On
command_ways j s (unset to) = way.On ∷ []
command_ways j s (read slot site) = read_ways s.vars (content_at s.slots slot)
command_ways j s (test to how a b site) =
    open_if s.vars (condition how (operand_content s a) (operand_content s b)) way.Then
    ++ open_if s.vars (contrary how (operand_content s a) (operand_content s b)) way.Else
command_ways j s (choose slot first second) = listed_if (is_some (outcome_of (content_at s.slots slot))) way.On
command_ways j s (loop site head body step) = way.On ∷ []
command_ways j s leave = listed_if (is_some (last_loop s.loops)) way.On
command_ways j s (load to at field block site) = pointer_ways s block at (is_some (field_type j block field.0))
command_ways j s (store at field block from site) =
    pointer_ways s block at (is_some_and (field_type j block field.0) (λ t. fits_cell s.vars t (operand_content s from)))
command_ways j s (malloc to block site) = malloc_ways (slice_get j.types block.0)
command_ways j s (free at block site) = pointer_ways s block at (is_some (slice_get j.types block.0))
command_ways j s (input to site) = way.On ∷ []
command_ways j s (call to proc arguments site) = listed_if (list_all is_argument (argument_contents s arguments)) way.On
command_ways j s (return from) = listed_if (is_some (returned s j.body.result from)) way.On
command_ways j s break = listed_if (is_some (last_loop s.loops)) way.On
command_ways j s continue = listed_if (is_some (last_loop s.loops)) way.On
command_ways j s (stop word site) = way.Drop ∷ []
command_ways j s (divide to a b site) = divide_ways s.vars (operand_content s a) (operand_content s b)

abbrev pub assign_done : ℕ → List Polynomial → Option Content → State → Done
assign_done to terms None s = on s
assign_done to terms (Some c) s = record (on (set_slot to c s)) { terms = terms }

abbrev pub terms_of : Option Content → (Content → List Polynomial) → List Polynomial
terms_of None f = []
terms_of (Some c) f = f c

-- the same on a state in which the command has begun
abbrev pub act_done : JobTree → CommandTree → Way → State → Done
act_done j (assign to op a b) w s =
    assign_done to (terms_of (operation op (operand_content s a) (operand_content s b)) (made_terms op)) (operation op (operand_content s a) (operand_content s b)) s
act_done j (unset to) w s = on (set_slot to Unwritten s)
act_done j (read slot site) w s = read_done slot site (content_at s.slots slot) w s
act_done j (test to how a b site) w s =
    test_done to site (condition how (operand_content s a) (operand_content s b)) (contrary how (operand_content s a) (operand_content s b)) w s
act_done j (choose slot first second) w s = on s
act_done j (loop site head body step) w s = on (enter_loop site s)
act_done j leave w s = leaving (last_loop s.loops) s
act_done j (load to at field block site) w s = pointer_done j block at (load_access to field.0 site) w s
act_done j (store at field block from site) w s = pointer_done j block at (store_access field.0 (operand_content s from) site) w s
act_done j (malloc to block site) w s = malloc_done j.types to block site w s
act_done j (free at block site) w s = pointer_done j block at (free_access site) w s
act_done j (input to site) w s = input_done to site s
act_done j (call to proc arguments site) w s = on (marked (mark.Enter proc) site s)
act_done j (return from) w s = return_done (returned s j.body.result from) s
act_done j break w s = on (leave_loop s)
act_done j continue w s = on s
act_done j (stop word site) w s = stops word s
act_done j (divide to a b site) w s = divide_done to site (operand_content s a) (operand_content s b) w s

-- where a listed way of a command leads
abbrev pub command_done : JobTree → CommandTree → Way → State → Done
command_done j c w s = act_done j c w (begun s)
