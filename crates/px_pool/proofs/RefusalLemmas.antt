-- Entries are derived, or one of them is the first that isn't, at one step.
use Rattle.std.proofs.Common.{◌≡◌, inl, inr, ℕ, zero, suc, List, [], ◌∷◌, length, refl, sym, ap, ◌∙◌}
use Rattle.px_entry.specs.declared.derivations.Derivation.{Derivation}
use Rattle.px_entry.specs.declared.entries.Entry.{Entry}
use Rattle.px_callgraph.specs.JobTree.{JobTree}
use Rattle.px_callgraph.specs.Derivations.{Derives}
use Rattle.px_check.proofs.OneOutcomeLemmas.{one_outcome}
use Rattle.px_pool.specs.Derived.{AreDerived, FailsAt, FirstFails, AreRefused}

fails_once : (j : JobTree) (x : Entry) (d : Derivation) (s t : ℕ) → FailsAt j x d s → FailsAt j x d t → s ≡ t
fails_once j x d s t (inl (p, zero_s)) (inl (q, zero_t)) = zero_s ∙ sym zero_t
fails_once j x d s t (inl (p, _)) (inr (q, _)) = absurd (p q)
fails_once j x d s t (inr (p, _)) (inl (q, _)) = absurd (q p)
fails_once j x d s t (inr (_, (r, f))) (inr (_, (q, h))) = (one_outcome.once j x d.steps s t r q f h).0

derives_or_fails : (j : JobTree) (x : Entry) (d : Derivation) (s : ℕ) → Derives j x d.steps → FailsAt j x d s → ⊥
derives_or_fails j x d s h (inl (p, _)) = p h.is_end.proc
derives_or_fails j x d s h (inr (_, (r, f))) = one_outcome.apart j x d.steps s r h f

first_once : (j : JobTree) (xs : List Entry) (ds : List Derivation) (m n s t : ℕ) → FirstFails j xs ds m s → FirstFails j xs ds n t → (m ≡ n) × (s ≡ t)
first_once j [] ds m n s t h l = absurd h
first_once j (x ∷ xs) [] m n s t h l = absurd h
first_once j (x ∷ xs) (d ∷ ds) zero zero s t h l = (refl, fails_once j x d s t h l)
first_once j (x ∷ xs) (d ∷ ds) zero (suc n) s t h l = absurd (derives_or_fails j x d s l.0 h)
first_once j (x ∷ xs) (d ∷ ds) (suc m) zero s t h l = absurd (derives_or_fails j x d t h.0 l)
first_once j (x ∷ xs) (d ∷ ds) (suc m) (suc n) s t h l = let r = first_once j xs ds m n s t h.1 l.1 in (ap suc r.0, r.1)

derived_or_first : (j : JobTree) (xs : List Entry) (ds : List Derivation) (n s : ℕ) → AreDerived j xs ds → FirstFails j xs ds n s → ⊥
derived_or_first j [] ds n s h l = l
derived_or_first j (x ∷ xs) [] n s h l = h
derived_or_first j (x ∷ xs) (d ∷ ds) zero s h l = derives_or_fails j x d s h.0 l
derived_or_first j (x ∷ xs) (d ∷ ds) (suc n) s h l = derived_or_first j xs ds n s h.1 l.1

derived_many : (j : JobTree) (xs : List Entry) (ds : List Derivation) → AreDerived j xs ds → length ds ≡ length xs
derived_many j [] ds h = ap length h
derived_many j (x ∷ xs) [] h = absurd h
derived_many j (x ∷ xs) (d ∷ ds) h = ap suc (derived_many j xs ds h.1)

pub refused_once : (j : JobTree) (xs : List Entry) (ds : List Derivation) (m n s t : ℕ) → AreRefused j xs ds m s → AreRefused j xs ds n t → (m ≡ n) × (s ≡ t)
refused_once j xs ds m n s t (inl (_, p, q)) (inl (_, p', q')) = (p ∙ sym p', q ∙ sym q')
refused_once j xs ds m n s t (inl (differ, _, _)) (inr (same, _)) = absurd (differ same)
refused_once j xs ds m n s t (inr (same, _)) (inl (differ, _, _)) = absurd (differ same)
refused_once j xs ds m n s t (inr (_, h)) (inr (_, l)) = first_once j xs ds m n s t h l

pub derived_or_refused : (j : JobTree) (xs : List Entry) (ds : List Derivation) (n s : ℕ) → AreDerived j xs ds → AreRefused j xs ds n s → ⊥
derived_or_refused j xs ds n s h (inl (differ, _, _)) = differ (derived_many j xs ds h)
derived_or_refused j xs ds n s h (inr (_, l)) = derived_or_first j xs ds n s h l
