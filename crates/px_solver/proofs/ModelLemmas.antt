-- The final values, one by one.
use Rattle.std.proofs.Common.{◌≡◌, ℕ, ◌+◌, ◌<◌, ◌++◌, List, [], ◌∷◌, inl, inr, length, refl, ap, ◌∙◌, arith}
use Rattle.std.proofs.lemmas.Bool.{cases_lt}
use Rattle.std.proofs.lemmas.List.{get_or_push}
use Rattle.std.proofs.Math.ListN.{get_or-append}
use Rattle.px_terms.specs.Valuations.{valuation_of}
use Rattle.px_terms.specs.declared.types.Value.{Value}
use Rattle.px_terms.specs.declared.types.Value.TheVariants.{Word, Null, Block, Unwritten}
use Rattle.px_solver.specs.Finals.{final_value}

pub value_more : (f : ℕ → Value) (vs : List Value) (n : ℕ) (a : Value) → length vs ≡ n → a ≡ f n → ((x : ℕ) → x < n → valuation_of vs x ≡ f x) → (x : ℕ) → x < n + 1 → valuation_of (vs ++ a ∷ []) x ≡ f x
value_more f vs n a size e each x l = elim (cases_lt x n) [
  | inl w ↦ get_or-append vs (a ∷ []) Unwritten x (omega arith) ∙ each x w
  | inr w ↦ let same : length vs ≡ x = omega arith in get_or_push vs a Unwritten x same ∙ e ∙ ap f (let q : n ≡ x = omega arith in q)
]

pub final_same : (a : Value) (w : ℕ) (r s : ℕ → ℕ) → ((b : ℕ) → a ≡ Block b → r b ≡ s b) → final_value w r a ≡ final_value w s a
final_same (Word z) w r s h = refl
final_same Null w r s h = refl
final_same (Block b) w r s h = ap (λ n. Block (n + 1)) (h b refl)
final_same Unwritten w r s h = refl
