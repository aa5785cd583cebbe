-- What a command and a body are made of: what is read is spelled by the bytes that it took.
use Rattle.std.proofs.Common.{refl}
use Rattle.px_terms.specs.declared.types.ValueType.TheVariants as V
use Rattle.px_core.specs.declared.command.Operand.TheVariants as A
use Rattle.px_core.specs.declared.command.Operator.TheVariants as O
use Rattle.px_core.specs.declared.command.Comparison.TheVariants as T
use Rattle.std.specs.Prelude.{ℕ, List, ◌∷◌}
use Rattle.px_spelling.specs.Traces.{proc_id_bytes, IsProcId, proc_id_at, proc_id_of, field_id_bytes, IsFieldId, field_id_at, field_id_of, site_bytes, IsSite, site_at, site_of}
use Rattle.px_spelling.specs.Types.{type_id_bytes, IsTypeId, type_id_at, type_id_of, value_type_bytes, IsValueType, value_type_at, value_type_with}
use Rattle.px_spelling.specs.Operands.{operand_bytes, IsOperand, operand_at, operand_with, operator_bytes, IsOperator, operator_at, operator_with, comparison_bytes, IsComparison, comparison_at, comparison_with}
use Rattle.px_body_spelling.proofs.Spells.{Is, SpelledAs, done_spelled, nothing_spelled, ◌⊛◌, by_tag, tagged_spelled, u32_spelled, i32_spelled}

pub proc_id_spelled : SpelledAs proc_id_at proc_id_bytes IsProcId
unfolding proc_id_at
proc_id_spelled = record { said = done_spelled proc_id_of (λ n fn. (refl, fn)) ⊛ u32_spelled }

pub field_id_spelled : SpelledAs field_id_at field_id_bytes IsFieldId
unfolding field_id_at
field_id_spelled = record { said = done_spelled field_id_of (λ n fn. (refl, fn)) ⊛ u32_spelled }

pub type_id_spelled : SpelledAs type_id_at type_id_bytes IsTypeId
unfolding type_id_at
type_id_spelled = record { said = done_spelled type_id_of (λ n fn. (refl, fn)) ⊛ u32_spelled }

pub site_spelled : SpelledAs site_at site_bytes IsSite
unfolding site_at
site_spelled = record { said = done_spelled site_of (λ file f line l column c. (refl, (f, l, c))) ⊛ u32_spelled ⊛ u32_spelled ⊛ u32_spelled }

-- a value after its byte
abbrev Behind : {A : Type 0} → (A → List ℕ) → (A → Type 0) → ℕ → A → List ℕ → Type 0
Behind bytes_of fits tag x u = Is bytes_of fits x (tag ∷ u)

pub value_type_spelled : SpelledAs value_type_at value_type_bytes IsValueType
unfolding value_type_at value_type_with
value_type_spelled = record {
  said = tagged_spelled value_type_with (Is value_type_bytes IsValueType) (λ tag.
      by_tag tag 0 _ _ (Behind value_type_bytes IsValueType) (done_spelled V.Int (refl, tt))
      (by_tag tag 1 _ _ (Behind value_type_bytes IsValueType) (done_spelled V.Pointer (λ t ft. (refl, ft)) ⊛ type_id_spelled) nothing_spelled));
}

pub operand_spelled : SpelledAs operand_at operand_bytes IsOperand
unfolding operand_at operand_with
operand_spelled = record {
  said = tagged_spelled operand_with (Is operand_bytes IsOperand) (λ tag.
      by_tag tag 0 _ _ (Behind operand_bytes IsOperand) (done_spelled A.Slot (λ n fn. (refl, fn)) ⊛ u32_spelled)
      (by_tag tag 1 _ _ (Behind operand_bytes IsOperand) (done_spelled A.Word (λ z fz. (refl, fz)) ⊛ i32_spelled)
      (by_tag tag 2 _ _ (Behind operand_bytes IsOperand) (done_spelled A.Null (refl, tt)) nothing_spelled)));
}

pub operator_spelled : SpelledAs operator_at operator_bytes IsOperator
unfolding operator_at operator_with
operator_spelled = record {
  said = tagged_spelled operator_with (Is operator_bytes IsOperator) (λ tag.
      by_tag tag 0 _ _ (Behind operator_bytes IsOperator) (done_spelled O.Copy (refl, tt))
      (by_tag tag 1 _ _ (Behind operator_bytes IsOperator) (done_spelled O.Neg (refl, tt))
      (by_tag tag 2 _ _ (Behind operator_bytes IsOperator) (done_spelled O.Add (refl, tt))
      (by_tag tag 3 _ _ (Behind operator_bytes IsOperator) (done_spelled O.Sub (refl, tt))
      (by_tag tag 4 _ _ (Behind operator_bytes IsOperator) (done_spelled O.Mul (refl, tt)) nothing_spelled)))));
}

pub comparison_spelled : SpelledAs comparison_at comparison_bytes IsComparison
unfolding comparison_at comparison_with
comparison_spelled = record {
  said = tagged_spelled comparison_with (Is comparison_bytes IsComparison) (λ tag.
      by_tag tag 0 _ _ (Behind comparison_bytes IsComparison) (done_spelled T.Equal (refl, tt))
      (by_tag tag 1 _ _ (Behind comparison_bytes IsComparison) (done_spelled T.Unequal (refl, tt))
      (by_tag tag 2 _ _ (Behind comparison_bytes IsComparison) (done_spelled T.Less (refl, tt))
      (by_tag tag 3 _ _ (Behind comparison_bytes IsComparison) (done_spelled T.AtMost (refl, tt))
      (by_tag tag 4 _ _ (Behind comparison_bytes IsComparison) (done_spelled T.SamePlace (refl, tt))
      (by_tag tag 5 _ _ (Behind comparison_bytes IsComparison) (done_spelled T.OtherPlace (refl, tt)) nothing_spelled))))));
}
