-- What an expression is to the profile: a value of a profile type, or outside. And what it is where a value is needed.
use Rattle.std.specs.Prelude.{ℕ, zero, suc, pos, List, [], ◌∷◌, Option, Some, None, codes, nat_lt, if◌then◌else◌}
use Rattle.px_base.specs.declared.trace.Site.{Site}
use Rattle.px_base.specs.declared.trace.FieldId.{FieldId}
use Rattle.px_terms.specs.declared.types.TypeId.{TypeId}
use Rattle.px_expressions.specs.Reading.{or_else}
use Rattle.px_syntax.specs.TypedTree as T
use Rattle.px_syntax.specs.TypedTree.{Expression, Condition}
use Rattle.px_real_types.specs.declared.shape.ProfileType.{ProfileType}
use Rattle.px_real_types.specs.declared.known.Known.{Known}
use Rattle.px_real_types.specs.Types.{int, struct, pointer_to, is_pointer, is_int, pointee, same_type, unknown, known, is_array}
use Rattle.px_real_values.specs.Environment.{Environment, Callee, type_id}

pub data Operand : Type 0 where
  -- a value: an int or a pointer of this type, and the site of the condition that it makes
  of_type : ProfileType → Site → Expression → Operand
  -- the constant 0: an int, and null of each pointer type
  a_zero : Site → Operand
  -- null where a pointer is wanted, and elsewhere outside; those that follow have each a word and a site
  a_null : ℕ → Site → Operand
  -- a comparison, `&&`, `||` or `!`: an int by its outcome
  a_test : Condition → Operand
  -- `malloc` of a block of this type: a value where a pointer to it is wanted
  a_block : ProfileType → Site → Operand
  -- outside: a name that is no local of the profile, with what a call of it goes to
  a_name : Callee → Known → ℕ → Site → Operand
  -- outside: what isn't a cell of the struct that a pointer points to, and the block type and the site of the access
  a_member : Known → Expression → TypeId → Site → ℕ → Site → Operand
  -- outside: anything else, with its parts
  outside : Known → List Expression → ℕ → Site → Operand
  -- the struct with this number that a pointer points to: a `Stop`, but as what a member is of
  a_struct : ℕ → Expression → ℕ → Site → Operand
  -- an object with what its pointer needs: a `Stop`, but where its address is taken
  an_object : Known → List Expression → ℕ → Site → Operand
  -- a `Stop` with its parts
  stopped : List Expression → ℕ → Site → Operand

abbrev pub stop : List Expression → ℕ → Site → Expression
stop parts word site = T.stop word site (T.expressions_of parts)

-- a number as a constant, where an int has it; else it is outside
abbrev pub counted : ℕ → ℕ → Site → Operand
counted zero word site = a_zero site
counted (suc n) word site = if nat_lt (suc n) 2147483648 then of_type int site (T.constant (pos (suc n))) else outside unknown [] word site

abbrev pub first_cell : FieldId
first_cell = record { 0 = 0 }

-- what evaluates to a member that is outside: the pointer, and an access that nobody reads, but to an array
abbrev pub reached : Known → Expression → TypeId → Site → Expression
reached k e block at = if is_array k then e else T.cell e first_cell block at

-- nothing follows a `Stop`
abbrev pub unless_stopped : Operand → (Operand → Operand) → Operand
unless_stopped (a_struct n e word site) next = stopped (e ∷ []) word site
unless_stopped (an_object k ps word site) next = stopped ps word site
unless_stopped (stopped ps word site) next = stopped ps word site
unless_stopped a next = next a

-- what is known of its type
abbrev pub known_of : Operand → Known
known_of (of_type t site e) = known t
known_of (a_zero site) = known int
known_of (a_null word site) = unknown
known_of (a_test c) = known int
known_of (a_block t site) = unknown
known_of (a_name callee k word site) = k
known_of (a_member k e block at word site) = k
known_of (outside k ps word site) = k
known_of (a_struct n e word site) = known (struct n)
known_of (an_object k ps word site) = k
known_of (stopped ps word site) = unknown

-- a value with its type
abbrev pub typed_value : Operand → Option (ProfileType × Expression)
typed_value (of_type t site e) = Some (t, e)
typed_value _ = None

-- the pointer to what an expression has the value of
abbrev pub pointer_in : Expression → List Expression
pointer_in (T.local n site) = []
pointer_in (T.cell e field block site) = e ∷ []
pointer_in e = e ∷ []

module _ (env : Environment) where
  abbrev pub malloc_word : ℕ
  malloc_word = env.word_number (codes "malloc")

  abbrev pub type_word : ℕ
  type_word = env.word_number (codes "type")

  -- what is evaluated for its effects, in order
  abbrev pub parts : Operand → List Expression
  parts (of_type t site e) = e ∷ []
  parts (a_zero site) = []
  parts (a_null word site) = []
  parts (a_test c) = T.truth c ∷ []
  parts (a_block t site) = stop [] malloc_word site ∷ []
  parts (a_name callee k word site) = []
  parts (a_member k e block at word site) = reached k e block at ∷ []
  parts (outside k ps word site) = ps
  parts (a_struct n e word site) = stop (e ∷ []) word site ∷ []
  parts (an_object k ps word site) = stop ps word site ∷ []
  parts (stopped ps word site) = stop ps word site ∷ []

  -- ---- where an address is taken

  -- what the pointer to an object needs: no access of the object itself
  abbrev pub pointer_parts : Operand → List Expression
  pointer_parts (of_type t site e) = pointer_in e
  pointer_parts (a_member k e block at word site) = e ∷ []
  pointer_parts (a_struct n e word site) = e ∷ []
  pointer_parts (an_object k ps word site) = ps
  pointer_parts a = parts a

  -- ---- where a value is needed

  -- as a value of type t, if it is one: what has that type, null where t is a pointer, and a `Stop`, which is of any type
  abbrev pub typed_as : ProfileType → Operand → Option Expression
  typed_as t (of_type u site e) = if same_type t u then Some e else None
  typed_as t (a_zero site) = if is_pointer t then Some T.null else Some (T.constant (pos 0))
  typed_as t (a_null word site) = if is_pointer t then Some T.null else None
  typed_as t (a_test c) = if is_int t then Some (T.truth c) else None
  typed_as t (a_block u site) = if same_type t (pointer_to u) then Some (T.allocate (type_id env u) site) else None
  typed_as t (a_name callee k word site) = None
  typed_as t (a_member k e block at word site) = None
  typed_as t (outside k ps word site) = None
  typed_as t (a_struct n e word site) = Some (stop (e ∷ []) word site)
  typed_as t (an_object k ps word site) = Some (stop ps word site)
  typed_as t (stopped ps word site) = Some (stop ps word site)

  -- the `Stop` where another value is needed; `first` is the expression's first token
  abbrev pub unwanted : Site → Operand → Expression
  unwanted first (of_type t site e) = stop (e ∷ []) type_word first
  unwanted first (a_zero site) = stop [] type_word first
  unwanted first (a_null word site) = stop [] word site
  unwanted first (a_test c) = stop (T.truth c ∷ []) type_word first
  unwanted first (a_block t site) = stop [] malloc_word site
  unwanted first (a_name callee k word site) = stop [] word site
  unwanted first (a_member k e block at word site) = stop (reached k e block at ∷ []) word site
  unwanted first (outside k ps word site) = stop ps word site
  unwanted first (a_struct n e word site) = stop (e ∷ []) word site
  unwanted first (an_object k ps word site) = stop ps word site
  unwanted first (stopped ps word site) = stop ps word site

  -- the value of type t that is needed
  abbrev pub needed : Site → ProfileType → Operand → Expression
  needed first t a = or_else (typed_as t a) (λ e. e) (unwanted first a)

  -- what decides: a value, of any type
  abbrev pub deciding : Operand → Condition
  deciding (of_type t site e) = if is_pointer t then T.pointer e site else T.word e site
  deciding (a_zero site) = T.word (T.constant (pos 0)) site
  deciding (a_null word site) = T.pointer T.null site
  deciding (a_test c) = c
  deciding (a_block t site) = T.word (stop [] malloc_word site) site
  deciding (a_name callee k word site) = T.word (stop [] word site) site
  deciding (a_member k e block at word site) = T.word (stop (reached k e block at ∷ []) word site) site
  deciding (outside k ps word site) = T.word (stop ps word site) site
  deciding (a_struct n e word site) = T.word (stop (e ∷ []) word site) site
  deciding (an_object k ps word site) = T.word (stop ps word site) site
  deciding (stopped ps word site) = T.word (stop ps word site) site

  -- what `free` takes, with its block type; null counts as `int *`, and so does a `Stop`
  abbrev pub freed : Site → Operand → ProfileType × Expression
  freed first (of_type t site e) = or_else (pointee t) (λ u. (u, e)) (int, stop (e ∷ []) type_word first)
  freed first (a_zero site) = (int, T.null)
  freed first (a_null word site) = (int, T.null)
  freed first a = (int, unwanted first a)
