-- The numbers of places under a forest.
use Rattle.std.proofs.Common.{◌≡◌, inl, inr, ℕ, ◌+◌, ◌<◌, ◌≤◌, List, length, get_or, sym, ap, ◌∙◌, arith}
use Rattle.std.proofs.lemmas.Bool.{cases_Bool}
use Rattle.std.specs.Prelude.{Bool, true, false, Some, slice_get}
use Rattle.std.proofs.lemmas.Option.{slice_get_within}
use Rattle.px_terms.specs.declared.variables.VarInfo.{VarInfo}
use Rattle.px_plain.specs.declared.nodes.Node.{Node}
use Rattle.px_plain.specs.Forest.{parent_at, IsForest, IsFlat, Keeps}
use Rattle.px_plain.specs.Places.{ArePlaceNumbers, mark_at, MarksMixed, number_under, AreNumbersOf, AreExactNumbers}

module _ (vars : List VarInfo) (t : List Node) (marks : List Bool) (ns : List ℕ) (size : length t ≡ length vars + 1)
    (f : IsForest t) (flat : IsFlat t) (bare : Keeps (λ v. 0) t) (m : MarksMixed vars t (length vars) marks) (all : length ns ≡ length t)
    (each : (v : ℕ) → v < length t → get_or ns v 0 ≡ number_under marks (parent_at t v)) where
  -- all offsets are 0
  as_parent : (val : ℕ → ℕ) → ArePlaceNumbers vars val → Keeps val t → (v : ℕ) → v < length t → val v ≡ val (parent_at t v)
  as_parent val a k v h =
      let here = k.each v h in
      let none = bare.each v h in
      let x = a.small v in
      let y = a.small (parent_at t v) in
      omega arith

  same_number : (v : ℕ) → v < length t → get_or ns v 0 ≡ get_or ns (parent_at t v) 0
  same_number v h =
      let low = f.lower v h in
      each v h ∙ sym (each (parent_at t v) (omega arith) ∙ ap (number_under marks) (flat.root v h))

  keeps : Keeps (λ v. get_or ns v 0) t
  keeps = record { each = λ v h. let e = same_number v h in let none = bare.each v h in omega arith }

  unmarked : (v : ℕ) → v < length t → mark_at marks (parent_at t v) ≡ false → get_or ns v 0 ≡ parent_at t v
  unmarked v h e = each v h ∙ rw e

  marked : (v : ℕ) → v < length t → mark_at marks (parent_at t v) ≡ true → get_or ns v 0 ≡ 0
  marked v h e = each v h ∙ rw e

  below : (v : ℕ) → v < length t → get_or ns v 0 ≤ v
  below v h = elim (cases_Bool (mark_at marks (parent_at t v))) [
    | inl e ↦ let z = marked v h e in omega arith
    | inr e ↦ let z = unmarked v h e in let low = f.lower v h in omega arith
  ]

  -- a marked root is null
  null_root : (val : ℕ → ℕ) → ArePlaceNumbers vars val → Keeps val t → (r : ℕ) → mark_at marks r ≡ true → val r ≡ 0
  null_root val a k r e =
      let w = m.mixed r e in
      let b = slice_get_within vars w.below w.first w.is_first in
      let same : val (w.below + 1) ≡ val (w.root + 1) = as_parent val a k (w.below + 1) (omega arith) ∙ ap val w.parent ∙ ap val w.node in
      elim (a.types w.below w.root w.first w.second w.is_first w.is_second same) [
        | inl q ↦ absurd (w.types q)
        | inr z ↦ ap val w.node ∙ sym same ∙ z
      ]

  forced : (val : ℕ → ℕ) → ArePlaceNumbers vars val → Keeps val t → (v : ℕ) → v < length t → val v ≡ val (get_or ns v 0)
  forced val a k v h = elim (cases_Bool (mark_at marks (parent_at t v))) [
    | inl e ↦ as_parent val a k v h ∙ null_root val a k (parent_at t v) e ∙ sym (a.null) ∙ ap val (sym (marked v h e))
    | inr e ↦ as_parent val a k v h ∙ ap val (sym (unmarked v h e))
  ]

  types : (x y : ℕ) (i j : VarInfo) → slice_get vars x ≡ Some i → slice_get vars y ≡ Some j → get_or ns (x + 1) 0 ≡ y + 1 → i.value ≡ j.value
  types x y i j g h e =
      let b = slice_get_within vars x i g in
      elim (m.others x b) [
        | inl q ↦ let z = marked (x + 1) (omega arith) q in absurd (omega arith)
        | inr q ↦ elim (cases_Bool (mark_at marks (parent_at t (x + 1)))) [
          | inl w ↦ let z = marked (x + 1) (omega arith) w in absurd (omega arith)
          | inr w ↦ q y i j g h (sym (unmarked (x + 1) (omega arith) w) ∙ e)
        ]
      ]

  pub are_numbers : AreNumbersOf vars t ns
  are_numbers = record { size = all; below = below; keeps = keeps; types = types; forced = λ val a k v h. forced val a k v (omega arith) }

  pub are_exact : AreExactNumbers vars t ns
  are_exact = record {
    null = λ v h z. elim (cases_Bool (mark_at marks (parent_at t v))) [
      | inl e ↦ inr (m.mixed (parent_at t v) e)
      | inr e ↦ inl (sym (unmarked v h e) ∙ z)
    ];
    root = λ v h z. elim (cases_Bool (mark_at marks (parent_at t v))) [
      | inl e ↦ absurd (z (marked v h e))
      | inr e ↦ unmarked v h e
    ];
  }
