-- What commands that were put after others gave. The contracts of private functions cite it, none of a public
-- one does.
use Rattle.std.specs.Prelude.{ℕ, ◌≡◌, ◌++◌, List, Some, None, Result, Ok, Err, ⊤}
use Rattle.px_core.specs.CommandTree.{CommandTree}
use Rattle.px_core.specs.declared.command.Operand.{Operand}
use Rattle.px_lower.specs.declared.put.Given.{Given}
use Rattle.px_lower.specs.declared.put.Decided.{Decided}
use Rattle.px_lower.specs.declared.put.Halt.{Halt}
use Rattle.px_lower.specs.declared.put.Halt.TheVariants.{Stopped, NoMemory}
use Rattle.px_lower.specs.declared.commands.Operands.{Operands}
use Rattle.px_lower.specs.Lowering.{Lowered}

-- after those before stand the commands of the wanted, and this is its value, or it has none
abbrev pub Puts : {A B : Type 0} → (A → B) → (A → ℕ) → Lowered B → List CommandTree → List CommandTree → Result A Halt → Type 0
Puts value next wanted before after (Ok x) = (after ≡ before ++ wanted.commands) × (wanted.value ≡ Some (value x)) × (wanted.next ≡ next x)
Puts value next wanted before after (Err (Stopped n)) = (after ≡ before ++ wanted.commands) × (wanted.value ≡ None) × (wanted.next ≡ n)
Puts value next wanted before after (Err NoMemory) = ⊤

abbrev pub Gives : Lowered Operand → List CommandTree → List CommandTree → Result Given Halt → Type 0
Gives = Puts (λ x. x.operand) (λ x. x.next)

abbrev pub GivesAll : Lowered (List Operand) → List CommandTree → List CommandTree → Result Operands Halt → Type 0
GivesAll = Puts (λ x. x.operands.items) (λ x. x.next)

-- the values stand behind those that are there
abbrev pub GivesMore : Lowered (List Operand) → List CommandTree → List CommandTree → List Operand → List Operand → Result ℕ Halt → Type 0
GivesMore wanted before after there values (Ok n) = (more : List Operand) × (values ≡ there ++ more) × Puts (λ xs. xs) (λ xs. n) wanted before after (Ok more)
GivesMore wanted before after there values (Err h) = Puts (λ (xs : List Operand). xs) (λ xs. 0) wanted before after (Err h)

abbrev pub Decides : Lowered ℕ → List CommandTree → List CommandTree → Result Decided Halt → Type 0
Decides = Puts (λ x. x.slot) (λ x. x.next)

abbrev pub Does : Lowered ⊤ → List CommandTree → List CommandTree → Result ℕ Halt → Type 0
Does = Puts (λ n. tt) (λ n. n)

-- the next new slot, whatever the last command is
abbrev pub Ends : Result ℕ Halt → ℕ → Type 0
Ends (Ok next) n = n ≡ next
Ends (Err (Stopped next)) n = n ≡ next
Ends (Err NoMemory) n = ⊥
