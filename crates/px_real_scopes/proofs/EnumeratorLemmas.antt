-- Enumerators, one after the other.
use Rattle.std.proofs.Common.{◌≡◌, ℕ, ◌+◌, ◌<◌, List, ◌∷◌, length, drop, get_or, map, Option, ap, sym, ◌∙◌}
use Rattle.std.proofs.lemmas.List.{drop_more}
use Rattle.px_real_declarations.specs.DeclarationTree.{EnumeratorTree}
use Rattle.px_real_scopes.specs.Scopes.{Scopes}
use Rattle.px_real_scopes.specs.Entering.{enumerator_value, counted_on, enumerator_binding, with_enumerators}

-- what is in scope with these
abbrev pub With : Option ℕ → List EnumeratorTree → Scopes → Scopes
With next es st = record st { bindings = with_enumerators next es st.bindings }

module _ {A : Type 0} (view : A → EnumeratorTree) (xs : List A) (i : ℕ) (x : A) (lt : i < length xs) (is : x ≡ get_or xs i x) (next : Option ℕ) (st : Scopes) where
  one_more : With next (map view (drop i xs)) st ≡ With (counted_on (enumerator_value next (view x).value)) (map view (drop (i + 1) xs)) (record st { bindings = enumerator_binding (view x).name (enumerator_value next (view x).value) ∷ st.bindings })
  one_more = ap (λ z. With next (map view z) st) (drop_more xs i x lt ∙ ap (λ z. z ∷ drop (i + 1) xs) (sym is))

  pub enumerated_on : (v next1 : Option ℕ) (name : List ℕ) (st1 : Scopes) {o : Scopes} → v ≡ enumerator_value next (view x).value → next1 ≡ counted_on v → name ≡ (view x).name →
      st1 ≡ record st { bindings = enumerator_binding name v ∷ st.bindings } → With next (map view (drop i xs)) st ≡ o → With next1 (map view (drop (i + 1) xs)) st1 ≡ o
  enumerated_on v next1 name st1 hv hn hname hst so_far =
      ap (λ z. With next1 (map view (drop (i + 1) xs)) z) (hst ∙ ap (λ w. record st { bindings = enumerator_binding w v ∷ st.bindings }) hname)
      ∙ ap (λ n. With n (map view (drop (i + 1) xs)) (record st { bindings = enumerator_binding (view x).name v ∷ st.bindings })) hn
      ∙ ap (λ w. With (counted_on w) (map view (drop (i + 1) xs)) (record st { bindings = enumerator_binding (view x).name w ∷ st.bindings })) hv
      ∙ sym one_more ∙ so_far
