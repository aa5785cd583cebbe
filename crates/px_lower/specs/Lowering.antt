-- What expressions, conditions and statements become: commands, in order.
--
-- Slots are numbers. A local's slot is its own number; each command that gives a result has a new slot, and
-- new slots are taken in the order of the commands. So each definition has the next new slot as an argument,
-- and says which one is next after its commands. What would follow a `stop` in its list of commands isn't lowered:
-- it has no commands, and takes no slots.
use Rattle.std.specs.Prelude.{ℕ, suc, pos, List, [], ◌∷◌, ◌++◌, Option, Some, None, ⊤}
use Rattle.px_base.specs.declared.trace.Site.{Site}
use Rattle.px_base.specs.declared.trace.ProcId.{ProcId}
use Rattle.px_base.specs.declared.trace.FieldId.{FieldId}
use Rattle.px_terms.specs.declared.types.TypeId.{TypeId}
use Rattle.px_core.specs.declared.command.Operand.{Operand}
use Rattle.px_core.specs.declared.command.Operand.TheVariants.{Slot, Word, Null}
use Rattle.px_core.specs.declared.command.Operator.TheVariants.{Copy, Neg, Add, Sub, Mul}
use Rattle.px_core.specs.declared.command.Comparison.TheVariants as test
use Rattle.px_core.specs.CommandTree.{CommandTree, assign, unset, read, test, choose, loop, leave, load, store, malloc, free, input, call, return, break, continue, stop, divide, no_commands, a_command, commands_of}
use Rattle.px_syntax.specs.declared.typed_expression.Arithmetic.{Arithmetic}
use Rattle.px_syntax.specs.declared.typed_expression.Arithmetic.TheVariants as arithmetic
use Rattle.px_syntax.specs.declared.typed_expression.Relation.{Relation}
use Rattle.px_syntax.specs.declared.typed_expression.Relation.TheVariants as relation
use Rattle.px_syntax.specs.TypedTree.{Expression, Expressions, Arguments, Condition, Place, Statement, Statements}
use Rattle.px_syntax.specs.TypedTree as tree

-- the test of a comparison: `a > b` is `b < a`, and `a >= b` is `b <= a`
abbrev pub comparison : Relation → ℕ → Operand → Operand → Site → CommandTree
comparison relation.Equal to a b site = test to test.Equal a b site
comparison relation.Unequal to a b site = test to test.Unequal a b site
comparison relation.Less to a b site = test to test.Less a b site
comparison relation.Greater to a b site = test to test.Less b a site
comparison relation.AtMost to a b site = test to test.AtMost a b site
comparison relation.AtLeast to a b site = test to test.AtMost b a site
comparison relation.SamePlace to a b site = test to test.SamePlace a b site
comparison relation.OtherPlace to a b site = test to test.OtherPlace a b site

-- the slot of an operator's result, where n is the next new slot: quotient and product stand before a remainder
abbrev pub result_slot : Arithmetic → ℕ → ℕ
result_slot arithmetic.Add n = n
result_slot arithmetic.Subtract n = n
result_slot arithmetic.Multiply n = n
result_slot (arithmetic.Divide site) n = n
result_slot (arithmetic.Remainder site) n = suc (suc n)

-- an operator's commands, each with a new slot: a remainder is what the quotient times the divisor leaves
abbrev pub operation : Arithmetic → Operand → Operand → ℕ → List CommandTree
operation arithmetic.Add a b n = assign n Add a b ∷ []
operation arithmetic.Subtract a b n = assign n Sub a b ∷ []
operation arithmetic.Multiply a b n = assign n Mul a b ∷ []
operation (arithmetic.Divide site) a b n = divide n a b site ∷ []
operation (arithmetic.Remainder site) a b n = divide n a b site ∷ assign (suc n) Mul (Slot n) b ∷ assign (suc (suc n)) Sub a (Slot (suc n)) ∷ []

-- a copy; it has no second operand
abbrev pub copy : ℕ → Operand → CommandTree
copy to a = assign to Copy a (Word (pos 0))

-- ---- commands in order

-- commands, their value after them, and the next new slot; they have no value where the last of them is a `stop`
pub record Lowered (A : Type 0) : Type 0 where
  pub commands : List CommandTree
  pub value : Option A
  pub next : ℕ

-- no command
abbrev pub ready : {A : Type 0} → A → ℕ → Lowered A
ready a n = record { commands = []; value = Some a; next = n }

-- one command
abbrev pub doing : CommandTree → ℕ → Lowered ⊤
doing c n = record { commands = c ∷ []; value = Some tt; next = n }

-- one command, which gives its result in the next new slot
abbrev pub giving : (ℕ → CommandTree) → ℕ → Lowered Operand
giving c n = record { commands = c n ∷ []; value = Some (Slot n); next = suc n }

-- an operator between operands
abbrev pub applied : Arithmetic → Operand → Operand → ℕ → Lowered Operand
applied op a b n = record { commands = operation op a b n; value = Some (Slot (result_slot op n)); next = suc (result_slot op n) }

-- the same of a condition: the slot is 1 or 0 after it
abbrev pub deciding : (ℕ → CommandTree) → ℕ → Lowered ℕ
deciding c n = record { commands = c n ∷ []; value = Some n; next = suc n }

-- what isn't understood
abbrev pub stopping : {A : Type 0} → ℕ → Site → ℕ → Lowered A
stopping number site n = record { commands = stop number site ∷ []; value = None; next = n }

-- commands before others
abbrev pub before : {A : Type 0} → List CommandTree → Lowered A → Lowered A
before cs y = record { commands = cs ++ y.commands; value = y.value; next = y.next }

-- what is made of a value, after these commands, where there is one
abbrev pub made_of : {A B : Type 0} → List CommandTree → ℕ → Option A → (A → ℕ → Lowered B) → Lowered B
made_of cs n None f = record { commands = cs; value = None; next = n }
made_of cs n (Some a) f = before cs (f a n)

-- what is made of a value, after the commands that give it; nothing follows a `stop`
abbrev pub and_then : {A B : Type 0} → Lowered A → (A → ℕ → Lowered B) → Lowered B
and_then x f = made_of x.commands x.next x.value f

-- ---- expressions and conditions

-- a cell that is loaded, and read
abbrev pub loaded : Operand → FieldId → TypeId → Site → ℕ → Lowered Operand
loaded at field block site n = record { commands = load n at field block site ∷ read n site ∷ []; value = Some (Slot n); next = suc n }

-- a cell that is loaded, and not read: it is unset
abbrev pub reached : Operand → FieldId → TypeId → Site → ℕ → Lowered ⊤
reached at field block site n = record { commands = load n at field block site ∷ unset n ∷ []; value = Some tt; next = suc n }

-- a call whose value is read
abbrev pub called : ProcId → List Operand → Site → ℕ → Lowered Operand
called proc arguments site n = record { commands = call (Some n) proc arguments site ∷ read n site ∷ []; value = Some (Slot n); next = suc n }

-- the outcome of a right side, copied
abbrev pub copied : ℕ → Lowered ℕ → Lowered ⊤
copied to x = and_then x (λ right n. doing (copy to (Slot right)) n)

-- what follows the left side of `&&` and of `||`: the right side is done where the left one doesn't decide
abbrev pub and_rest : ℕ → ℕ → Lowered ⊤ → Lowered ℕ
and_rest left to y = record { commands = copy to (Slot left) ∷ choose to (commands_of y.commands) no_commands ∷ []; value = Some to; next = y.next }

abbrev pub or_rest : ℕ → ℕ → Lowered ⊤ → Lowered ℕ
or_rest left to y = record { commands = copy to (Slot left) ∷ choose to no_commands (commands_of y.commands) ∷ []; value = Some to; next = y.next }

-- a constant, null and a local are operands, and only the local takes a command; operands and arguments come
-- first, from left to right
abbrev mutual
  pub lowered_expression : Expression → ℕ → Lowered Operand
  lowered_expression (tree.constant z) n = ready (Word z) n
  lowered_expression tree.null n = ready Null n
  lowered_expression (tree.local i site) n = record { commands = read i site ∷ []; value = Some (Slot i); next = n }
  lowered_expression (tree.negated e) n = and_then (lowered_expression e n) (λ x n. giving (λ to. assign to Neg x (Word (pos 0))) n)
  lowered_expression (tree.arithmetic op a b) n =
      and_then (lowered_expression a n) (λ x n. and_then (lowered_expression b n) (λ y n. applied op x y n))
  lowered_expression (tree.truth c) n = and_then (lowered_condition c n) (λ slot n. ready (Slot slot) n)
  lowered_expression (tree.cell p field block site) n = and_then (lowered_expression p n) (λ x n. loaded x field block site n)
  lowered_expression (tree.allocate block site) n = giving (λ to. malloc to block site) n
  lowered_expression (tree.get_char site) n = giving (λ to. input to site) n
  lowered_expression (tree.call proc arguments result site) n = and_then (lowered_arguments arguments n) (λ xs n. called proc xs site n)
  lowered_expression (tree.stop number site parts) n = and_then (lowered_passed parts n) (λ _ n. stopping number site n)

  -- the operands are those of the arguments that are passed
  pub lowered_arguments : Arguments → ℕ → Lowered (List Operand)
  lowered_arguments tree.no_arguments n = ready [] n
  lowered_arguments (tree.an_argument (tree.passed e) rest) n = and_then (lowered_expression e n) (λ x n. and_then (lowered_arguments rest n) (λ xs n. ready (x ∷ xs) n))
  lowered_arguments (tree.an_argument (tree.erased parts) rest) n = and_then (lowered_passed parts n) (λ _ n. lowered_arguments rest n)

  -- values that aren't read: a local takes no command, what is loaded is unset, and what a call gives isn't kept
  pub lowered_passed : Expressions → ℕ → Lowered ⊤
  lowered_passed tree.no_expressions n = ready tt n
  lowered_passed (tree.an_expression (tree.local i site) rest) n = lowered_passed rest n
  lowered_passed (tree.an_expression (tree.cell p field block site) rest) n =
      and_then (lowered_expression p n) (λ x n. and_then (reached x field block site n) (λ _ n. lowered_passed rest n))
  lowered_passed (tree.an_expression (tree.call proc arguments result site) rest) n =
      and_then (lowered_arguments arguments n) (λ xs n. and_then (doing (call None proc xs site) n) (λ _ n. lowered_passed rest n))
  lowered_passed (tree.an_expression e rest) n = and_then (lowered_expression e n) (λ _ n. lowered_passed rest n)

  -- a word is compared with 0, and a pointer with null; `!c` is 1 - c; `&&` and `||` copy the left side's
  -- outcome, and then the right side's where the left one doesn't decide
  pub lowered_condition : Condition → ℕ → Lowered ℕ
  lowered_condition (tree.compare r a b site) n =
      and_then (lowered_expression a n) (λ x n. and_then (lowered_expression b n) (λ y n. deciding (λ to. comparison r to x y site) n))
  lowered_condition (tree.word e site) n = and_then (lowered_expression e n) (λ x n. deciding (λ to. test to test.Unequal x (Word (pos 0)) site) n)
  lowered_condition (tree.pointer e site) n = and_then (lowered_expression e n) (λ x n. deciding (λ to. test to test.OtherPlace x Null site) n)
  lowered_condition (tree.both c d) n = and_then (lowered_condition c n) (λ left to. and_rest left to (copied to (lowered_condition d (suc to))))
  lowered_condition (tree.either c d) n = and_then (lowered_condition c n) (λ left to. or_rest left to (copied to (lowered_condition d (suc to))))
  lowered_condition (tree.opposite c) n = and_then (lowered_condition c n) (λ slot n. deciding (λ to. assign to Sub (Word (pos 1)) (Slot slot)) n)

-- ---- statements

-- the local is unwritten, and then gets the value that it begins with
abbrev pub lowered_declaration : ℕ → Option Expression → ℕ → Lowered ⊤
lowered_declaration i None n = doing (unset i) n
lowered_declaration i (Some e) n = before (unset i ∷ []) (and_then (lowered_expression e n) (λ x n. doing (copy i x) n))

-- the pointer, the right side, and then the write
abbrev pub lowered_assignment : Place → Expression → ℕ → Lowered ⊤
lowered_assignment (tree.local_place i at) e n = and_then (lowered_expression e n) (λ x n. doing (copy i x) n)
lowered_assignment (tree.cell_place p field block site) e n =
    and_then (lowered_expression p n) (λ at n. and_then (lowered_expression e n) (λ x n. doing (store at field block x site) n))

-- the pointer, the read, the right side, the operator, and then the write
abbrev pub lowered_update : Arithmetic → Place → Expression → ℕ → Lowered ⊤
lowered_update op (tree.local_place i at) e n =
    before (read i at ∷ []) (and_then (lowered_expression e n) (λ x n. and_then (applied op (Slot i) x n) (λ new n. doing (copy i new) n)))
lowered_update op (tree.cell_place p field block site) e n =
    and_then (lowered_expression p n) (λ at n. and_then (loaded at field block site n) (λ old n. and_then (lowered_expression e n) (λ x n.
    and_then (applied op old x n) (λ new n. doing (store at field block new site) n))))

-- the pointer, the parts of what isn't written, and then the access
abbrev pub lowered_access : Expression → Expressions → FieldId → TypeId → Site → ℕ → Lowered ⊤
lowered_access p parts field block site n =
    and_then (lowered_expression p n) (λ at n. and_then (lowered_passed parts n) (λ _ n. reached at field block site n))

-- the head of a loop leaves it where the condition is false
abbrev pub lowered_head : Option Condition → ℕ → Lowered ⊤
lowered_head None n = ready tt n
lowered_head (Some c) n = and_then (lowered_condition c n) (λ slot n. doing (choose slot no_commands (a_command leave no_commands)) n)

abbrev pub lowered_return : Option Expression → ℕ → Lowered ⊤
lowered_return None n = doing (return None) n
lowered_return (Some e) n = and_then (lowered_expression e n) (λ x n. doing (return (Some x)) n)

abbrev mutual
  pub lowered_statement : Statement → ℕ → Lowered ⊤
  lowered_statement (tree.block statements) n = lowered_statements statements n
  lowered_statement (tree.declare i e) n = lowered_declaration i e n
  lowered_statement (tree.assign place e) n = lowered_assignment place e n
  lowered_statement (tree.update op place e) n = lowered_update op place e n
  lowered_statement (tree.run_call proc arguments site) n = and_then (lowered_arguments arguments n) (λ xs n. doing (call None proc xs site) n)
  lowered_statement (tree.free e block site) n = and_then (lowered_expression e n) (λ x n. doing (free x block site) n)
  lowered_statement (tree.input site) n = and_then (giving (λ to. input to site) n) (λ _ n. ready tt n)
  lowered_statement (tree.choose c first second) n = and_then (lowered_condition c n) (λ slot n.
      let y = lowered_statement first n in
      let z = lowered_statement second y.next in
      record { commands = choose slot (commands_of y.commands) (commands_of z.commands) ∷ []; value = Some tt; next = z.next })
  lowered_statement (tree.loop site c body step) n =
      let x = lowered_head c n in
      let y = lowered_statement body x.next in
      let z = lowered_statement step y.next in
      record { commands = loop site (commands_of x.commands) (commands_of y.commands) (commands_of z.commands) ∷ []; value = Some tt; next = z.next }
  lowered_statement tree.break n = doing break n
  lowered_statement tree.continue n = doing continue n
  lowered_statement (tree.return e) n = lowered_return e n
  lowered_statement (tree.evaluate e) n = lowered_passed (tree.an_expression e tree.no_expressions) n
  lowered_statement (tree.access p parts field block site) n = lowered_access p parts field block site n

  -- one after another
  pub lowered_statements : Statements → ℕ → Lowered ⊤
  lowered_statements tree.no_statements n = ready tt n
  lowered_statements (tree.a_statement s rest) n = and_then (lowered_statement s n) (λ _ n. lowered_statements rest n)
