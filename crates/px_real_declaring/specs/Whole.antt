-- What is read of all that stands there.
use Rattle.std.specs.Prelude.{[], ◌∷◌, Bool, true, false, Result, Ok, Err}
use Rattle.px_real_expressions.specs.Stops.{wrong, ◌>>=◌}
use Rattle.px_real_expressions.specs.Reading.{Reader}
use Rattle.px_real_expressions.specs.Grammar.{Gram}
use Rattle.px_real_symbols.specs.declared.fault.Fault.{Fault}
use Rattle.px_real_symbols.specs.declared.fault.Fault.TheVariants as F
use Rattle.px_real_declarations.specs.DeclarationTree.{DeclarationTree}
use Rattle.px_real_declarations.specs.Grammar.{Types, IsDeclaration, IsMemberDeclaration}
use Rattle.px_real_declaring.specs.Items.{nesting_limit}
use Rattle.px_real_declaring.specs.declared.reading.DeclarationFault.{DeclarationFault}
use Rattle.px_real_declaring.specs.declared.reading.DeclarationFault.TheVariants as D

-- this, where nothing is left
abbrev pub nothing_left : {A : Type 0} → A → Reader A
nothing_left a [] = Ok (a, [])
nothing_left a (t ∷ ts) = Err (wrong (t ∷ ts))

unfoldable pub whole_by : {A : Type 0} → Reader A → Reader A
whole_by r ts = r ts >>= λ x. nothing_left x.0 x.1

-- a declaration of members, or another
abbrev pub IsOneOf : Types → Bool → Gram DeclarationTree
IsOneOf types true = IsMemberDeclaration types nesting_limit
IsOneOf types false = IsDeclaration types nesting_limit

-- ---- faults as callers see them

abbrev pub SameKind : Fault → DeclarationFault → Type 0
SameKind F.NoMemory D.NoMemory = Unit {0}
SameKind (F.Wrong at) (D.NotADeclaration n) = Unit {0}
SameKind (F.Deep at) (D.Deep n) = Unit {0}
SameKind _ _ = ⊥

-- unless memory ran out, there is none
abbrev pub NoneIs : {A : Type 0} → (A → Type 0) → DeclarationFault → Type 0
NoneIs {A} G D.NoMemory = Unit {0}
NoneIs {A} G _ = (a : A) → G a → ⊥

-- what is read of all these tokens: what the grammar says that they are; else they are nothing
abbrev pub IsRead : {X A : Type 0} → (A → Type 0) → (X → A) → Result X DeclarationFault → Type 0
IsRead G view (Ok x) = G (view x)
IsRead G view (Err e) = NoneIs G e
