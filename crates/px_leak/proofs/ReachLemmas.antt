-- The test of what is reached is exact.
use Rattle.std.proofs.Common.{◌≡◌, ◌⊎◌, inl, inr, ℕ, zero, suc, ◌≤◌, ◌&&◌, Bool, true, nat_eq, List, [], ◌∷◌, length, subst, arith}
use Rattle.std.specs.Prelude.{◌↔◌}
use Rattle.std.specs.List.{list_any}
use Rattle.std.proofs.lemmas.Bool.{and_parts, and_from, or_left, or_right, or_cases}
use Rattle.px_entry.specs.declared.atoms.Atom.{Atom}
use Rattle.px_entry.specs.declared.entries.Entry.{Entry}
use Rattle.px_leak.specs.Reached.{pointed_by_atom, IsReachedFrom, root, cell, IsReached, points_from, reached_through, is_reached}
use Rattle.px_leak.proofs.Members.{Has, has_from, has_to, any_has, has_any, equal_has, has_equal, without, without_length, has_without, without_has}

module _ (n : ℕ) (roots : List ℕ) where
  abbrev From : List Atom → ℕ → Type 0
  From atoms = IsReachedFrom n roots atoms

  abbrev through : List Atom → ℕ → ℕ → Bool
  through = reached_through n roots

  -- ---- what the test finds is reached

  sound : (atoms : List Atom) (k y : ℕ) → through atoms k y ≡ true → From atoms y
  sound atoms zero y e = root (has_to roots y (equal_has y roots e))
  sound atoms (suc k) y e = elim (or_cases (through atoms k y) (points_from n (through atoms k) atoms y) e) [
    | inl h ↦ sound atoms k y h
    | inr h ↦
        let (a, in_atoms, both) = any_has (λ (a : Atom). through atoms k a.place.0 && list_any (nat_eq y) (pointed_by_atom n a)) atoms h in
        let (reached, points) = and_parts (through atoms k a.place.0) (list_any (nat_eq y) (pointed_by_atom n a)) both in
        cell a (has_to atoms a in_atoms) (sound atoms k a.place.0 reached) (has_to (pointed_by_atom n a) y (equal_has y (pointed_by_atom n a) points))
  ]

  -- ---- what is reached the test finds

  roots_found : (atoms : List Atom) (k y : ℕ) → Has roots y → through atoms k y ≡ true
  roots_found atoms zero y h = has_equal y roots h
  roots_found atoms (suc k) y h = or_left (through atoms k y) (points_from n (through atoms k) atoms y) (roots_found atoms k y h)

  step_found : (atoms : List Atom) (k y : ℕ) (a : Atom) → Has atoms a → through atoms k a.place.0 ≡ true → Has (pointed_by_atom n a) y → through atoms (suc k) y ≡ true
  step_found atoms k y a h reached points =
      or_right (through atoms k y) (points_from n (through atoms k) atoms y)
      (has_any (λ (a : Atom). through atoms k a.place.0 && list_any (nat_eq y) (pointed_by_atom n a)) atoms a h
      (and_from (through atoms k a.place.0) (list_any (nat_eq y) (pointed_by_atom n a)) reached (has_equal y (pointed_by_atom n a) points)))

  -- among more atoms it finds more
  more_found : (some all : List Atom) → ((a : Atom) → Has some a → Has all a) → (k y : ℕ) → through some k y ≡ true → through all k y ≡ true
  more_found some all more zero y e = e
  more_found some all more (suc k) y e = elim (or_cases (through some k y) (points_from n (through some k) some y) e) [
    | inl h ↦ or_left (through all k y) (points_from n (through all k) all y) (more_found some all more k y h)
    | inr h ↦
        let (a, in_some, both) = any_has (λ (a : Atom). through some k a.place.0 && list_any (nat_eq y) (pointed_by_atom n a)) some h in
        let (reached, points) = and_parts (through some k a.place.0) (list_any (nat_eq y) (pointed_by_atom n a)) both in
        step_found all k y a (more a in_some) (more_found some all more k a.place.0 reached) (equal_has y (pointed_by_atom n a) points)
  ]

  -- what is reached is reached without an atom, or the atom's place is
  avoids : (atoms : List Atom) (b : Atom) (h : Has atoms b) (y : ℕ) → From atoms y → From (without atoms b h) y ⊎ From (without atoms b h) b.place.0
  avoids atoms b h y (root r) = inl (root r)
  avoids atoms b h y (cell a k r c) = elim (avoids atoms b h a.place.0 r) [
    | inl p ↦ (elim (has_without atoms b h a (has_from atoms a k)) [
      | inl e ↦ inr (subst (λ (z : Atom). From (without atoms b h) z.place.0) e p)
      | inr m ↦ inl (cell a (has_to (without atoms b h) a m) p c)
    ])
    | inr p ↦ inr p
  ]

  place_avoids : (atoms : List Atom) (b : Atom) (h : Has atoms b) → From atoms b.place.0 → From (without atoms b h) b.place.0
  place_avoids atoms b h r = elim (avoids atoms b h b.place.0 r) [ inl p ↦ p | inr p ↦ p ]

  -- so through as many atoms as there are
  complete : (k : ℕ) (atoms : List Atom) → length atoms ≤ k → (y : ℕ) → From atoms y → through atoms k y ≡ true
  complete zero [] l y (root r) = roots_found [] zero y (has_from roots y r)
  complete zero [] l y (cell a k r c) = absurd (has_from {A = Atom} [] a k)
  complete zero (a ∷ atoms) l y r = let f : ⊥ = omega arith in absurd f
  complete (suc k) atoms l y (root r) = roots_found atoms (suc k) y (has_from roots y r)
  complete (suc k) atoms l y (cell a m r c) =
      let h = has_from atoms a m in
      let few : length (without atoms a h) ≤ k = omega (arith, without_length atoms a h) in
      step_found atoms k y a h
      (more_found (without atoms a h) atoms (without_has atoms a h) k a.place.0 (complete k (without atoms a h) few a.place.0 (place_avoids atoms a h r)))
      (has_from (pointed_by_atom n a) y c)

pub reached_exactly : (x : Entry) (y : ℕ) → is_reached x y ≡ true ↔ IsReached x y
reached_exactly x y = (sound _ _ x.post (length x.post) y, complete _ _ (length x.post) x.post (omega arith) y)
