-- Words that trees keep and that make all disequalities true, where none is broken.
use Rattle.std.proofs.Common.{◌≡◌, ◌≢◌, ◌⊎◌, inl, inr, ℕ, zero, suc, ◌+◌, ◌-◌, ◌%◌, ◌^◌, ◌<◌, ◌≤◌, List, [], ◌∷◌, length, map, refl, sym, ap, subst, ◌∙◌, arith}
use Rattle.std.specs.Prelude.{cond, nat_eq}
use Rattle.std.proofs.lemmas.Bool.{cases_eq, eq-eqb, ne_eqb}
use Rattle.std.proofs.lemmas.List.{length-map}
use Rattle.px_plain.specs.declared.nodes.Difference.{Difference}
use Rattle.px_plain.specs.declared.trees.Tree.{Tree}
use Rattle.px_plain.specs.Forest.{IsAbove}
use Rattle.px_plain.specs.Differences.{difference_at, AreInside}
use Rattle.px_plain.specs.Trees.{Flat, KeepsFlat, AreOne}
use Rattle.px_plain.specs.Joins.{AllApart}

-- ---- a number that isn't in a list

abbrev IsAmong : ℕ → List ℕ → Type 0
IsAmong y [] = ⊥
IsAmong y (x ∷ xs) = (x ≡ y) ⊎ IsAmong y xs

abbrev without : ℕ → List ℕ → List ℕ
without m [] = []
without m (x ∷ xs) = cond (nat_eq x m) (without m xs) (x ∷ without m xs)

drops : (m x : ℕ) (xs : List ℕ) → x ≡ m → without m (x ∷ xs) ≡ without m xs
drops m x xs e = rw (eq-eqb x m e)

keeps : (m x : ℕ) (xs : List ℕ) → x ≢ m → without m (x ∷ xs) ≡ x ∷ without m xs
keeps m x xs n = rw (ne_eqb x m n)

still_among : (y m : ℕ) (xs : List ℕ) → y ≢ m → IsAmong y xs → IsAmong y (without m xs)
still_among y m [] n h = h
still_among y m (x ∷ xs) n h = elim (cases_eq x m) [
  | inl e ↦ subst (IsAmong y) (sym (drops m x xs e)) (elim h [ inl q ↦ absurd (n (sym q ∙ e)) | inr q ↦ still_among y m xs n q ])
  | inr k ↦ subst (IsAmong y) (sym (keeps m x xs k)) (elim h [ inl q ↦ inl q | inr q ↦ inr (still_among y m xs n q) ])
]

no_longer : (m : ℕ) (xs : List ℕ) → length (without m xs) ≤ length xs
no_longer m [] = omega arith
no_longer m (x ∷ xs) =
    let h = no_longer m xs in
    elim (cases_eq x m) [
      | inl e ↦ let q = ap length (drops m x xs e) in omega arith
      | inr n ↦ let q : length (without m (x ∷ xs)) ≡ suc (length (without m xs)) = ap length (keeps m x xs n) in omega arith
    ]

shorter : (m : ℕ) (xs : List ℕ) → IsAmong m xs → length (without m xs) < length xs
shorter m [] h = absurd h
shorter m (x ∷ xs) h =
    let k = no_longer m xs in
    elim (cases_eq x m) [
      | inl e ↦ let q = ap length (drops m x xs e) in omega arith
      | inr n ↦
          let q : length (without m (x ∷ xs)) ≡ suc (length (without m xs)) = ap length (keeps m x xs n) in
          elim h [ inl e ↦ absurd (n e) | inr r ↦ let s = shorter m xs r in omega arith ]
    ]

among_or_not : (m : ℕ) (xs : List ℕ) → IsAmong m xs ⊎ (¬ IsAmong m xs)
among_or_not m [] = inr (λ h. h)
among_or_not m (x ∷ xs) = elim (cases_eq x m) [
  | inl e ↦ inl (inl e)
  | inr n ↦ elim (among_or_not m xs) [ inl h ↦ inl (inr h) | inr k ↦ inr (λ h. elim h [ inl e ↦ n e | inr r ↦ k r ]) ]
]

missing : (m : ℕ) (xs : List ℕ) → length xs ≤ m → (y : ℕ) × (y ≤ m) × (¬ IsAmong y xs)
missing zero [] l = (0, omega arith, λ h. h)
missing zero (x ∷ xs) l = absurd (omega arith)
missing (suc m) xs l = elim (among_or_not (suc m) xs) [
  | inl h ↦
      let s = shorter (suc m) xs h in
      let r = missing m (without (suc m) xs) (omega arith) in
      let b = r.1 in
      (r.0, omega arith, λ a. r.2 (still_among r.0 (suc m) xs (λ e. absurd (omega arith)) a))
  | inr n ↦ (suc m, omega arith, n)
]

among_map : (h : Difference → ℕ) (us : List Difference) (j : ℕ) → j < length us → IsAmong (h (difference_at us j)) (map h us)
among_map h [] j l = absurd (omega arith)
among_map h (u ∷ us) zero l = inl refl
among_map h (u ∷ us) (suc j) l = inr (among_map h us j (omega arith))

-- ---- values of roots, one after another

module _ (t : List Tree) (f : Flat t) (us : List Difference) (inside : AreInside (length t) us) (separate : (j : ℕ) → j < length us → ¬ AreOne f (difference_at us j)) (few : length us < 2 ^ 32) where
  abbrev value : (ℕ → ℕ) → ℕ → ℕ
  value g v = g (f.root v) + f.above v

  abbrev Apart : (ℕ → ℕ) → Difference → Type 0
  Apart g d = ¬ IsAbove (value g) d.to d.from d.plus

  -- what a disequality takes from the root k
  abbrev taken : ℕ → (ℕ → ℕ) → Difference → ℕ
  taken k g d = cond (nat_eq (f.root d.to) k)
      ((g (f.root d.from) + f.above d.from + d.plus + (2 ^ 32 - f.above d.to)) % 2 ^ 32)
      ((g (f.root d.to) + f.above d.to + (2 ^ 32 - (f.above d.from + d.plus) % 2 ^ 32)) % 2 ^ 32)

  taken_to : (k : ℕ) (g : ℕ → ℕ) (d : Difference) → f.root d.to ≡ k → taken k g d ≡ (g (f.root d.from) + f.above d.from + d.plus + (2 ^ 32 - f.above d.to)) % 2 ^ 32
  taken_to k g d e = rw (eq-eqb (f.root d.to) k e)

  taken_from : (k : ℕ) (g : ℕ → ℕ) (d : Difference) → f.root d.to ≢ k → taken k g d ≡ (g (f.root d.to) + f.above d.to + (2 ^ 32 - (f.above d.from + d.plus) % 2 ^ 32)) % 2 ^ 32
  taken_from k g d n = rw (ne_eqb (f.root d.to) k n)

  abbrev with_value : ℕ → ℕ → (ℕ → ℕ) → ℕ → ℕ
  with_value k y g v = cond (nat_eq v k) y (g v)

  value_here : (k y : ℕ) (g : ℕ → ℕ) (v : ℕ) → v ≡ k → with_value k y g v ≡ y
  value_here k y g v e = rw (eq-eqb v k e)

  value_there : (k y : ℕ) (g : ℕ → ℕ) (v : ℕ) → v ≢ k → with_value k y g v ≡ g v
  value_there k y g v n = rw (ne_eqb v k n)

  both_here : (af at p y : ℕ) → at < 2 ^ 32 → (y + at) % 2 ^ 32 ≡ ((y + af) + p) % 2 ^ 32 → (af + p) % 2 ^ 32 ≡ at
  both_here af at p y b h = omega arith

  to_here : (gf af at p y : ℕ) → at < 2 ^ 32 → y < 2 ^ 32 → (y + at) % 2 ^ 32 ≡ ((gf + af) + p) % 2 ^ 32 → y ≡ (gf + af + p + (2 ^ 32 - at)) % 2 ^ 32
  to_here gf af at p y b c h = omega arith

  from_here : (gt af at p y : ℕ) → y < 2 ^ 32 → (gt + at) % 2 ^ 32 ≡ ((y + af) + p) % 2 ^ 32 → y ≡ (gt + at + (2 ^ 32 - (af + p) % 2 ^ 32)) % 2 ^ 32
  from_here gt af at p y c h = omega arith

  module _ (k y : ℕ) (g : ℕ → ℕ) (low : y < 2 ^ 32) (free : ¬ IsAmong y (map (taken k g) us)) where
    not_taken : (j : ℕ) → j < length us → y ≢ taken k g (difference_at us j)
    not_taken j l e = free (subst (λ z. IsAmong z (map (taken k g) us)) (sym e) (among_map (taken k g) us j l))

    apart_more : (j : ℕ) → j < length us → f.root (difference_at us j).from < k + 1 → f.root (difference_at us j).to < k + 1 →
        (f.root (difference_at us j).from < k → f.root (difference_at us j).to < k → Apart g (difference_at us j)) → Apart (with_value k y g) (difference_at us j)
    apart_more j l from to old h =
        let d = difference_at us j in
        let b = f.small d.to (inside.to j l) in
        elim (cases_eq (f.root d.to) k) [
          | inl e ↦
              let vt = value_here k y g (f.root d.to) e in
              elim (cases_eq (f.root d.from) k) [
                | inl q ↦
                    let vf = value_here k y g (f.root d.from) q in
                    separate j l (q ∙ sym e, both_here (f.above d.from) (f.above d.to) d.plus y b (omega arith))
                | inr q ↦
                    let vf = value_there k y g (f.root d.from) q in
                    not_taken j l (to_here (g (f.root d.from)) (f.above d.from) (f.above d.to) d.plus y b low (omega arith) ∙ sym (taken_to k g d e))
              ]
          | inr e ↦
              let vt = value_there k y g (f.root d.to) e in
              elim (cases_eq (f.root d.from) k) [
                | inl q ↦
                    let vf = value_here k y g (f.root d.from) q in
                    not_taken j l (from_here (g (f.root d.to)) (f.above d.from) (f.above d.to) d.plus y low (omega arith) ∙ sym (taken_from k g d e))
                | inr q ↦
                    let vf = value_there k y g (f.root d.from) q in
                    old (omega arith) (omega arith) (omega arith)
              ]
        ]

  assign : (k : ℕ) → (g : ℕ → ℕ) × ((j : ℕ) → j < length us → f.root (difference_at us j).from < k → f.root (difference_at us j).to < k → Apart g (difference_at us j))
  assign zero = (λ v. 0, λ j l from to. absurd (omega arith))
  assign (suc k) =
      let r = assign k in
      let s = length-map us (taken k r.0) in
      let m = missing (2 ^ 32 - 1) (map (taken k r.0) us) (omega arith) in
      let b = m.1 in
      (with_value k m.0 r.0, λ j l from to. apart_more k m.0 r.0 (omega arith) m.2 j l (omega arith) (omega arith) (r.1 j l))

  keeps_value : (g : ℕ → ℕ) → KeepsFlat (value g) f
  keeps_value g v l =
      let i = f.inside v l in
      let r = f.is_root v l in
      let e = ap g (f.here (f.root v) i r) in
      let z = f.level (f.root v) i r in
      omega arith

  pub free_words : (w : ℕ → ℕ) × KeepsFlat w f × AllApart w us
  free_words =
      let r = assign (length t) in
      (value r.0, keeps_value r.0, λ j l. r.1 j l (f.inside (difference_at us j).from (inside.from j l)) (f.inside (difference_at us j).to (inside.to j l)))
