-- Values one after another.
use Rattle.std.proofs.Common.{◌≡◌, inl, inr, ℕ, ◌+◌, ◌<◌, ◌++◌, List, [], ◌∷◌, length, sym, ap, ◌∙◌, arith}
use Rattle.std.specs.Prelude.{Some, slice_get}
use Rattle.std.proofs.lemmas.Bool.{cases_eq}
use Rattle.std.proofs.lemmas.List.{get_or_push}
use Rattle.std.proofs.Math.ListN.{get_or-append}
use Rattle.px_terms.specs.Valuations.{valuation_of}
use Rattle.px_terms.specs.declared.variables.VarInfo.{VarInfo}
use Rattle.px_terms.specs.declared.types.Value.{Value}
use Rattle.px_terms.specs.declared.types.Value.TheVariants.{Unwritten}
use Rattle.px_plain.proofs.Placing.{info_at, info_is}

pub one_more : (vars : List VarInfo) (f : ℕ → VarInfo → Value) (vs : List Value) (n : ℕ) (y : Value) → length vs ≡ n → y ≡ f n (info_at vars n) →
    ((x : ℕ) (i : VarInfo) → x < n → slice_get vars x ≡ Some i → valuation_of vs x ≡ f x i) →
    (x : ℕ) (i : VarInfo) → x < n + 1 → slice_get vars x ≡ Some i → valuation_of (vs ++ y ∷ []) x ≡ f x i
one_more vars f vs n y size e h x i l g = elim (cases_eq x n) [
  | inr o ↦ get_or-append vs (y ∷ []) Unwritten x (omega arith) ∙ h x i (omega arith) g
  | inl o ↦ ap (valuation_of (vs ++ y ∷ [])) o ∙ get_or_push vs y Unwritten n size ∙ e ∙ ap (λ k. f k (info_at vars k)) (sym o) ∙ ap (f x) (info_is vars x i g)
]
