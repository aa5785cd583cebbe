-- The tests for equal operands and types decide whether they are equal.
use Rattle.std.proofs.Common.{◌≡◌, refl, ap}
use Rattle.std.specs.Bool.{Decides}
use Rattle.std.proofs.lemmas.Bool.Decides.{Decides-eqb, Decides-int_eq}
use Rattle.px_terms.specs.declared.types.TypeId.{TypeId}
use Rattle.px_terms.specs.declared.types.ValueType.{ValueType}
use Rattle.px_terms.specs.declared.types.ValueType.TheVariants.{Int, Pointer}
use Rattle.px_terms.specs.contracts.types.ValueTypePartialEq
use Rattle.px_core.specs.declared.command.Operand.{Operand}
use Rattle.px_core.specs.declared.command.Operand.TheVariants.{Slot, Word, Null}
use Rattle.px_core.specs.contracts.command.OperandPartialEq

pub operand_decides : (x y : Operand) → Decides (OperandPartialEq.TheImpl.eq-value.it x y) (x ≡ y)
operand_decides (Slot i) (Slot j) = let d = Decides-eqb i j in (λ e. ap Slot (d.0 e), λ e. let h : i ≡ j = cc in d.1 h)
operand_decides (Slot i) (Word y) = (λ e. cc, λ e. cc)
operand_decides (Slot i) Null = (λ e. cc, λ e. cc)
operand_decides (Word x) (Slot j) = (λ e. cc, λ e. cc)
operand_decides (Word x) (Word y) = let d = Decides-int_eq x y in (λ e. ap Word (d.0 e), λ e. let h : x ≡ y = cc in d.1 h)
operand_decides (Word x) Null = (λ e. cc, λ e. cc)
operand_decides Null (Slot j) = (λ e. cc, λ e. cc)
operand_decides Null (Word y) = (λ e. cc, λ e. cc)
operand_decides Null Null = (λ e. refl, λ e. refl)

pub type_decides : (x y : ValueType) → Decides (ValueTypePartialEq.TheImpl.eq-value.it x y) (x ≡ y)
type_decides Int Int = (λ e. refl, λ e. refl)
type_decides Int (Pointer b) = (λ e. cc, λ e. cc)
type_decides (Pointer a) Int = (λ e. cc, λ e. cc)
type_decides (Pointer a) (Pointer b) =
    let d = Decides-eqb a.0 b.0 in
    (λ e. ap (λ i. Pointer (record { 0 = i })) (d.0 e), λ e. let h : a ≡ b = cc in d.1 (ap (λ (t : TypeId). t.0) h))
