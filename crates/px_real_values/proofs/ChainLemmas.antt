-- What stands behind an operand, one after another.
use Rattle.std.proofs.Common.{◌≡◌, ◌∙◌, refl, sym, ap, ℕ, ◌+◌, ◌<◌, ◌≤◌, List, [], ◌∷◌, map, drop, length, get_or}
use Rattle.std.proofs.lemmas.List.{drop_all, drop_more}
use Rattle.px_real_expressions.specs.ExpressionTree.{ExpressionTree}
use Rattle.px_real_values.specs.Environment.{Environment}
use Rattle.px_real_values.specs.Operands.{Operand}
use Rattle.px_real_values.specs.Values.{valued}

module _ (env : Environment) {X V : Type 0} (view : X → V) (many : ExpressionTree → List V → ExpressionTree) where
  -- an operand is that of some tree, which has with these behind it what all of the others have
  abbrev pub Along : Operand → List X → List X → Operand → Type 0
  Along a xs rest b = (e : ExpressionTree) → a ≡ valued env e → (t : ExpressionTree) × (many e (map view xs) ≡ many t (map view rest)) × (b ≡ valued env t)

  pub along_begins : (a : Operand) (xs : List X) → Along a xs xs a
  along_begins a xs e h = (e, refl, h)

  module _ (one : ExpressionTree → V → ExpressionTree) (grows : (e : ExpressionTree) (v : V) (vs : List V) → many e (v ∷ vs) ≡ many (one e v) vs) where
    pub along_more : (a : Operand) (xs : List X) (i : ℕ) (x : X) (b c : Operand) → i < length xs → x ≡ get_or xs i x → ((t : ExpressionTree) → b ≡ valued env t → c ≡ valued env (one t (view x))) →
        Along a xs (drop i xs) b → Along a xs (drop (i + 1) xs) c
    along_more a xs i x b c l is step before e h =
        let (t, all, own) = before e h in
        let rest = map view (drop (i + 1) xs) in
        (one t (view x), all ∙ ap (λ ys. many t (map view ys)) (drop_more xs i x l) ∙ ap (λ z. many t (view z ∷ rest)) (sym is) ∙ grows t (view x) rest, step t own)

  pub along_ends : (ends : (e : ExpressionTree) → many e [] ≡ e) (a : Operand) (xs : List X) (i : ℕ) (b : Operand) → length xs ≤ i → Along a xs (drop i xs) b → (e : ExpressionTree) → a ≡ valued env e →
      b ≡ valued env (many e (map view xs))
  along_ends ends a xs i b l before e h =
      let (t, all, own) = before e h in
      own ∙ ap (valued env) (sym (all ∙ ap (λ ys. many t (map view ys)) (drop_all i xs l) ∙ ends t))
