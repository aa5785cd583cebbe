-- Edges of pointers that are added one by one.
use Rattle.std.proofs.Common.{◌≡◌, ◌⊎◌, inl, inr, ℕ, suc, ◌+◌, ◌<◌, ◌≤◌, List, [], ◌∷◌, ◌++◌, length, set, get_or, replicate, refl, sym, ap, ◌∙◌, subst, arith, length-set}
use Rattle.std.specs.Prelude.{◌↔◌, Contains}
use Rattle.std.proofs.lemmas.Bool.{cases_lt}
use Rattle.std.proofs.lemmas.List.{length-replicate}
use Rattle.px_components.specs.Graphs.{IsEdge}
use Rattle.px_components.proofs.Edges.{edge_added, no_edge}
use Rattle.px_callgraph.specs.Working.{Gains}
use Rattle.px_entry.specs.declared.atoms.Atom.{Atom}
use Rattle.px_entry.specs.declared.entries.Entry.{Entry}
use Rattle.px_leak.specs.Reached.{pointed_by_result, pointed_by_atom}
use Rattle.px_leak.specs.Pointers.{PointsAmong, GainsCells, GainsBack, HasPointers}
use Rattle.px_leak.proofs.Members.{has_from, has_to, has_left, has_right, append_has}

-- ---- from one node

pub gains_both : (old mid new : List (List ℕ)) (x : ℕ) (ys zs : List ℕ) → Gains old x ys mid → Gains mid x zs new → Gains old x (ys ++ zs) new
gains_both old mid new x ys zs h k = record {
  size = k.size ∙ h.size;
  edges = λ a b. (
    λ e. elim ((k.edges a b).0 e) [
      | inl m ↦ (elim ((h.edges a b).0 m) [ inl o ↦ inl o | inr p ↦ inr (p.0, has_to (ys ++ zs) b (has_left ys zs b (has_from ys b p.1))) ])
      | inr p ↦ inr (p.0, has_to (ys ++ zs) b (has_right ys zs b (has_from zs b p.1)))
    ],
    λ e. (k.edges a b).1 (elim e [
      | inl o ↦ inl ((h.edges a b).1 (inl o))
      | inr p ↦ (elim (append_has ys zs b (has_from (ys ++ zs) b p.1)) [
        | inl m ↦ inl ((h.edges a b).1 (inr (p.0, has_to ys b m)))
        | inr m ↦ inr (p.0, has_to zs b m)
      ])
    ]),
  );
}

-- ---- from the places of atoms

pub cells_both : (n : ℕ) (old mid new : List (List ℕ)) (xs ys : List Atom) → GainsCells n old xs mid → GainsCells n mid ys new → GainsCells n old (xs ++ ys) new
cells_both n old mid new xs ys h k = record {
  size = k.size ∙ h.size;
  edges = λ y z. (
    λ e. elim ((k.edges y z).0 e) [
      | inl m ↦ (elim ((h.edges y z).0 m) [ inl o ↦ inl o | inr p ↦ inr (p.0, has_to (xs ++ ys) p.0 (has_left xs ys p.0 (has_from xs p.0 p.1)), p.2, p.3, p.4) ])
      | inr p ↦ inr (p.0, has_to (xs ++ ys) p.0 (has_right xs ys p.0 (has_from ys p.0 p.1)), p.2, p.3, p.4)
    ],
    λ e. (k.edges y z).1 (elim e [
      | inl o ↦ inl ((h.edges y z).1 (inl o))
      | inr p ↦ (elim (append_has xs ys p.0 (has_from (xs ++ ys) p.0 p.1)) [
        | inl m ↦ inl ((h.edges y z).1 (inr (p.0, has_to xs p.0 m, p.2, p.3, p.4)))
        | inr m ↦ inr (p.0, has_to ys p.0 m, p.2, p.3, p.4)
      ])
    ]),
  );
}

pub no_cells : (n : ℕ) (graph : List (List ℕ)) → GainsCells n graph [] graph
no_cells n graph = record { size = refl; edges = λ y z. (inl, λ h. elim h [ inl e ↦ e | inr p ↦ absurd (has_from {A = Atom} [] p.0 p.1) ]) }

only : (a b : Atom) → Contains (a ∷ []) b → a ≡ b
only a b h = elim (has_from (a ∷ []) b h) [ inl e ↦ e | inr f ↦ absurd f ]

pub cells_of_one : (n : ℕ) (old new : List (List ℕ)) (a : Atom) → a.place.0 < n → Gains old a.place.0 (pointed_by_atom n a) new → GainsCells n old (a ∷ []) new
cells_of_one n old new a l h = record {
  size = h.size;
  edges = λ y z. (
    λ e. elim ((h.edges y z).0 e) [
      | inl o ↦ inl o
      | inr p ↦ inr (a, has_to (a ∷ []) a (inl refl), sym p.0, subst (λ k. k < n) (sym p.0) l, p.1)
    ],
    λ e. (h.edges y z).1 (elim e [
      | inl o ↦ inl o
      | inr p ↦ (let own = only a p.0 p.1 in inr (sym p.2 ∙ ap (λ (b : Atom). b.place.0) (sym own), subst (λ (b : Atom). Contains (pointed_by_atom n b) z) (sym own) p.4))
    ]),
  );
}

pub cells_of_none : (n : ℕ) (graph : List (List ℕ)) (a : Atom) → n ≤ a.place.0 → GainsCells n graph (a ∷ []) graph
cells_of_none n graph a l = record {
  size = refl;
  edges = λ y z. (inl, λ h. elim h [ inl e ↦ e | inr p ↦ absurd (outside y p.0 (only a p.0 p.1) p.2 p.3) ]);
}
  where
    outside : (y : ℕ) (b : Atom) → a ≡ b → b.place.0 ≡ y → y < n → ⊥
    outside y b e f k = let g : a.place.0 ≡ b.place.0 = ap (λ (c : Atom). c.place.0) e in omega arith

-- ---- back to the result

pub no_back : (r : ℕ) (graph : List (List ℕ)) → GainsBack 0 r graph graph
no_back r graph = record { size = refl; edges = λ y z. (inl, λ h. elim h [ inl e ↦ e | inr p ↦ let l = p.0 in let f : ⊥ = omega arith in absurd f ]) }

pub one_back : (old mid : List (List ℕ)) (k r : ℕ) → GainsBack k r old mid → k < length mid → GainsBack (k + 1) r old (set mid k (get_or mid k [] ++ r ∷ []))
one_back old mid k r h l = record {
  size = length-set mid k (get_or mid k [] ++ r ∷ []) ∙ h.size;
  edges = λ y z. (
    λ e. elim ((edge_added mid k r l y z).0 e) [
      | inl m ↦ (elim ((h.edges y z).0 m) [ inl o ↦ inl o | inr p ↦ let b = p.0 in inr (omega arith, p.1) ])
      | inr p ↦ let b = p.0 in inr (omega arith, p.1)
    ],
    λ e. (edge_added mid k r l y z).1 (elim e [
      | inl o ↦ inl ((h.edges y z).1 (inl o))
      | inr p ↦ by p.0 p.1 (last y p.0)
    ]),
  );
}
  where
    last : (y : ℕ) → y < k + 1 → (y < k) ⊎ (y ≡ k)
    last y b = elim (cases_lt y k) [ inl l ↦ inl l | inr l ↦ inr (omega arith) ]

    by : {y z : ℕ} → y < k + 1 → z ≡ r → (y < k) ⊎ (y ≡ k) → IsEdge mid y z ⊎ ((y ≡ k) × (z ≡ r))
    by {y} {z} b e (inl c) = inl ((h.edges y z).1 (inr (c, e)))
    by b e (inr c) = inr (c, e)

-- ---- all of an entry

module _ (x : Entry) (count : ℕ) (g0 g1 g2 g3 : List (List ℕ)) (e0 : g0 ≡ replicate (count + 1) []) (h1 : Gains g0 count (pointed_by_result count x.result) g1)
    (h2 : GainsCells count g1 x.post g2) (h3 : GainsBack count count g2 g3) where
  abbrev IsAmong : ℕ → ℕ → ℕ → Type 0
  IsAmong n y z = ((y ≡ n) × Contains (pointed_by_result n x.result) z) ⊎ (PointsAmong n x.post y z ⊎ ((y < n) × (z ≡ n)))

  first_edge : (y z : ℕ) → IsEdge g0 y z → ⊥
  first_edge y z e = no_edge (count + 1) y z (subst (λ (g : List (List ℕ)). IsEdge g y z) e0 e)

  all_edges : (y z : ℕ) → IsEdge g3 y z ↔ IsAmong count y z
  all_edges y z = (
    λ e. elim ((h3.edges y z).0 e) [
      | inl a ↦ (elim ((h2.edges y z).0 a) [
        | inl b ↦ (elim ((h1.edges y z).0 b) [ inl c ↦ absurd (first_edge y z c) | inr p ↦ inl p ])
        | inr p ↦ inr (inl p)
      ])
      | inr p ↦ inr (inr p)
    ],
    λ e. elim e [
      | inl p ↦ (h3.edges y z).1 (inl ((h2.edges y z).1 (inl ((h1.edges y z).1 (inr p)))))
      | inr q ↦ (elim q [
        | inl p ↦ (h3.edges y z).1 (inl ((h2.edges y z).1 (inr p)))
        | inr p ↦ (h3.edges y z).1 (inr p)
      ])
    ],
  )

  all_nodes : length g3 ≡ suc count
  all_nodes =
      let first : length g0 ≡ count + 1 = ap length e0 ∙ length-replicate (count + 1) [] in
      h3.size ∙ h2.size ∙ h1.size ∙ first ∙ (let f : count + 1 ≡ suc count = omega arith in f)

  pub all_pointers : count ≡ length x.vars → HasPointers x g3
  all_pointers e =
      let all = subst (λ n. (length g3 ≡ suc n) × ((y z : ℕ) → IsEdge g3 y z ↔ IsAmong n y z)) e (all_nodes, all_edges) in record { size = all.0; edges = all.1 }
