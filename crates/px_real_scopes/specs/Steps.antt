-- What the code comes to, step by step.
use Rattle.std.specs.Prelude.{◌≡◌, List, ◌++◌, length, take, Bool, true, false, Option, Some, None, Result, Ok, Err}
use Rattle.px_real_declaring.specs.declared.reading.DeclarationFault.{DeclarationFault}
use Rattle.px_real_declaring.specs.declared.reading.DeclarationFault.TheVariants as D
use Rattle.px_real_scopes.specs.declared.declaring.Heights.{Heights}
use Rattle.px_real_scopes.specs.Keys.{last_of}
use Rattle.px_real_scopes.specs.Scopes.{BindingTree, NamedTree, DefinitionTree, Scopes}

-- it comes to this; a fault but for memory says that it comes to nothing
abbrev pub Comes : {S : Type 0} → Option S → S → Result Unit DeclarationFault → Type 0
Comes o after (Ok u) = o ≡ Some after
Comes o after (Err D.NoMemory) = Unit {0}
Comes o after (Err (D.NotADeclaration at)) = o ≡ None
Comes o after (Err (D.Deep at)) = o ≡ None

-- whether memory ran out
abbrev pub is_memory : DeclarationFault → Bool
is_memory D.NoMemory = true
is_memory (D.NotADeclaration at) = false
is_memory (D.Deep at) = false

-- the members of a struct or union so far, and whether they may be cells
pub record MembersTree : Type 0 where
  pub cells : Bool
  pub members : List NamedTree

-- what was there is there, behind what came
pub record Grows (old new : Scopes) : Type 0 where
  pub bindings : (more : List BindingTree) × (new.bindings ≡ more ++ old.bindings)
  pub records : (more : List Bool) × (new.records ≡ old.records ++ more)
  pub definitions : (more : List DefinitionTree) × (new.definitions ≡ more ++ old.definitions)
  pub hidden : new.hidden ≡ old.hidden

-- how much is in scope, and what is left of it by that
pub record AreHeights (h : Heights) (st : Scopes) : Type 0 where
  pub bindings : h.bindings ≡ length st.bindings
  pub records : h.records ≡ length st.records
  pub definitions : h.definitions ≡ length st.definitions

abbrev pub cut_to : Heights → Scopes → Scopes
cut_to h st = record st { bindings = last_of h.bindings st.bindings; records = take h.records st.records; definitions = last_of h.definitions st.definitions }
