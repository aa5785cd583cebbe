-- A root below another, and taken back.
use Rattle.std.proofs.Common.{◌≡◌, ◌≢◌, inl, inr, ℕ, ◌+◌, ◌-◌, ◌%◌, ◌^◌, ◌<◌, ◌≤◌, List, length, refl, sym, ap, subst, ◌∙◌, arith, get_or-set_other, get_or-set_same}
use Rattle.std.specs.Prelude.{cond, nat_eq, max}
use Rattle.std.proofs.Math.ListN.{set, length-set}
use Rattle.std.proofs.lemmas.Bool.{cases_eq, eq-eqb, ne_eqb}
use Rattle.std.proofs.lemmas.List.{ext_get_or}
use Rattle.px_plain.specs.declared.nodes.Difference.{Difference}
use Rattle.px_plain.specs.declared.trees.Tree.{Tree}
use Rattle.px_plain.specs.declared.trees.Link.{Link}
use Rattle.px_plain.specs.Forest.{IsAbove}
use Rattle.px_plain.specs.Trees.{tree_at, parent_at, offset_at, rank_at, IsRanked, Flat, KeepsFlat, IsLink, linked, unlinked, with_parent, with_rank, Ties, AreOne}
use Rattle.px_plain.proofs.Sums.{lower_from, lower_to}

tree_same : (t : List Tree) (v : ℕ) (n : Tree) → v < length t → tree_at (set t v n) v ≡ n
tree_same t v n h = get_or-set_same t v n (record { parent = 0; offset = 0; rank = 0 }) h

tree_other : (t : List Tree) (v i : ℕ) (n : Tree) → v ≢ i → tree_at (set t i n) v ≡ tree_at t v
tree_other t v i n h = get_or-set_other t i v n (record { parent = 0; offset = 0; rank = 0 }) h

module _ (t : List Tree) (l : Link) (k : IsLink t l) where
  abbrev moved : List Tree
  moved = with_parent t l.root l.parent l.offset

  pub linked_length : length (linked t l) ≡ length t
  linked_length = length-set moved l.parent (record { parent = parent_at moved l.parent; offset = offset_at moved l.parent; rank = max (rank_at moved l.parent) (rank_at t l.root + 1) })
      ∙ length-set t l.root (record { parent = l.parent; offset = l.offset; rank = rank_at t l.root })

  moved_length : length moved ≡ length t
  moved_length = length-set t l.root (record { parent = l.parent; offset = l.offset; rank = rank_at t l.root })

  moved_root : tree_at moved l.root ≡ record { parent = l.parent; offset = l.offset; rank = rank_at t l.root }
  moved_root = tree_same t l.root (record { parent = l.parent; offset = l.offset; rank = rank_at t l.root }) k.root_inside

  moved_other : (v : ℕ) → v ≢ l.root → tree_at moved v ≡ tree_at t v
  moved_other v n = tree_other t v l.root (record { parent = l.parent; offset = l.offset; rank = rank_at t l.root }) n

  moved_parent : tree_at moved l.parent ≡ tree_at t l.parent
  moved_parent = moved_other l.parent (λ e. k.two (sym e))

  raised : Tree
  raised = record { parent = parent_at moved l.parent; offset = offset_at moved l.parent; rank = max (rank_at moved l.parent) (rank_at t l.root + 1) }

  at_root : tree_at (linked t l) l.root ≡ record { parent = l.parent; offset = l.offset; rank = rank_at t l.root }
  at_root = tree_other moved l.root l.parent (record { parent = parent_at moved l.parent; offset = offset_at moved l.parent; rank = max (rank_at moved l.parent) (rank_at t l.root + 1) }) k.two ∙ moved_root

  at_parent : tree_at (linked t l) l.parent ≡ record { parent = parent_at moved l.parent; offset = offset_at moved l.parent; rank = max (rank_at moved l.parent) (rank_at t l.root + 1) }
  at_parent =
      let b : l.parent < length moved = subst (λ n. l.parent < n) (sym moved_length) k.parent_inside in
      tree_same moved l.parent (record { parent = parent_at moved l.parent; offset = offset_at moved l.parent; rank = max (rank_at moved l.parent) (rank_at t l.root + 1) }) b

  at_other : (v : ℕ) → v ≢ l.root → v ≢ l.parent → tree_at (linked t l) v ≡ tree_at t v
  at_other v n m = tree_other moved v l.parent (record { parent = parent_at moved l.parent; offset = offset_at moved l.parent; rank = max (rank_at moved l.parent) (rank_at t l.root + 1) }) m ∙ moved_other v n

  pub root_parent : parent_at (linked t l) l.root ≡ l.parent
  root_parent = ap (λ (n : Tree). n.parent) at_root

  root_offset : offset_at (linked t l) l.root ≡ l.offset
  root_offset = ap (λ (n : Tree). n.offset) at_root

  root_rank : rank_at (linked t l) l.root ≡ rank_at t l.root
  root_rank = ap (λ (n : Tree). n.rank) at_root

  pub parent_rank : rank_at (linked t l) l.parent ≡ max (rank_at t l.parent) (rank_at t l.root + 1)
  parent_rank = ap (λ (n : Tree). n.rank) at_parent ∙ ap (λ (n : Tree). max n.rank (rank_at t l.root + 1)) moved_parent

  pub other_parent : (v : ℕ) → v ≢ l.root → parent_at (linked t l) v ≡ parent_at t v
  other_parent v n = elim (cases_eq v l.parent) [
    | inl e ↦ ap (parent_at (linked t l)) e ∙ ap (λ (n : Tree). n.parent) at_parent ∙ ap (λ (n : Tree). n.parent) moved_parent ∙ ap (parent_at t) (sym e)
    | inr m ↦ ap (λ (n : Tree). n.parent) (at_other v n m)
  ]

  other_offset : (v : ℕ) → v ≢ l.root → offset_at (linked t l) v ≡ offset_at t v
  other_offset v n = elim (cases_eq v l.parent) [
    | inl e ↦ ap (offset_at (linked t l)) e ∙ ap (λ (n : Tree). n.offset) at_parent ∙ ap (λ (n : Tree). n.offset) moved_parent ∙ ap (offset_at t) (sym e)
    | inr m ↦ ap (λ (n : Tree). n.offset) (at_other v n m)
  ]

  pub other_rank : (v : ℕ) → v ≢ l.parent → rank_at (linked t l) v ≡ rank_at t v
  other_rank v m = elim (cases_eq v l.root) [
    | inl e ↦ ap (rank_at (linked t l)) e ∙ root_rank ∙ ap (rank_at t) (sym e)
    | inr n ↦ ap (λ (n : Tree). n.rank) (at_other v n m)
  ]

  rank_grows : (v : ℕ) → rank_at t v ≤ rank_at (linked t l) v
  rank_grows v = elim (cases_eq v l.parent) [
    | inl e ↦ let p = parent_rank in let q = ap (rank_at t) e in let r = ap (rank_at (linked t l)) e in omega arith
    | inr n ↦ let p = other_rank v n in omega arith
  ]

  pub rank_within : (n : ℕ) → ((v : ℕ) → v < length t → rank_at t v ≤ n) → (v : ℕ) → v < length (linked t l) → rank_at (linked t l) v ≤ n + 1
  rank_within n h v b =
      let s = linked_length in
      let a = h l.root k.root_inside in
      let c = h l.parent k.parent_inside in
      elim (cases_eq v l.parent) [
        | inl e ↦ let p = parent_rank in let r = ap (rank_at (linked t l)) e in omega arith
        | inr m ↦ let p = other_rank v m in let q = h v (omega arith) in omega arith
      ]

  pub ranked_linked : rank_at t l.root < 2 ^ 32 - 1 → IsRanked t → IsRanked (linked t l)
  ranked_linked room r = record {
    inside = λ v b.
        let s = linked_length in
        let a = k.parent_inside in
        elim (cases_eq v l.root) [
          | inl e ↦ let p = root_parent in let q = ap (parent_at (linked t l)) e in omega arith
          | inr n ↦ let p = other_parent v n in let q = r.inside v (omega arith) in omega arith
        ];
    rising = λ v b d.
        let s = linked_length in
        elim (cases_eq v l.root) [
          | inl e ↦
              let p = root_parent in
              let q : parent_at (linked t l) v ≡ l.parent = ap (parent_at (linked t l)) e ∙ p in
              let x = ap (rank_at (linked t l)) q in
              let y = ap (rank_at (linked t l)) e in
              let z = root_rank in
              let w = parent_rank in
              omega arith
          | inr n ↦
              let p = other_parent v n in
              let q : parent_at t v ≢ v = λ e. d (p ∙ e) in
              let up = r.rising v (omega arith) q in
              let x = ap (rank_at (linked t l)) p in
              let g = rank_grows (parent_at t v) in
              -- v isn't the parent, which is a root
              let m : v ≢ l.parent = λ e. q (ap (parent_at t) e ∙ k.parent ∙ sym e) in
              let y = other_rank v m in
              omega arith
        ];
    bare = λ v b e.
        let s = linked_length in
        let n : v ≢ l.root = λ q. k.two (sym (sym root_parent ∙ ap (parent_at (linked t l)) (sym q) ∙ e ∙ q)) in
        other_offset v n ∙ r.bare v (omega arith) (sym (other_parent v n) ∙ e);
    low = λ v b.
        let s = linked_length in
        let a = r.low l.parent k.parent_inside in
        elim (cases_eq v l.parent) [
          | inl e ↦ let p = parent_rank in let q = ap (rank_at (linked t l)) e in omega arith
          | inr m ↦ let p = other_rank v m in let q = r.low v (omega arith) in omega arith
        ];
  }

  -- ---- the roots

  abbrev pub root_after : ℕ → ℕ
  root_after r = cond (nat_eq r l.root) l.parent r

  pub after_root : (r : ℕ) → r ≡ l.root → root_after r ≡ l.parent
  after_root r e = rw (eq-eqb r l.root e)

  pub after_other : (r : ℕ) → r ≢ l.root → root_after r ≡ r
  after_other r n = rw (ne_eqb r l.root n)

  abbrev above_after : ℕ → ℕ → ℕ
  above_after r a = cond (nat_eq r l.root) ((a + l.offset) % 2 ^ 32) a

  above_root : (r a : ℕ) → r ≡ l.root → above_after r a ≡ (a + l.offset) % 2 ^ 32
  above_root r a e = rw (eq-eqb r l.root e)

  above_other : (r a : ℕ) → r ≢ l.root → above_after r a ≡ a
  above_other r a n = rw (ne_eqb r l.root n)

  module _ (f : Flat t) where
    root_itself : f.root l.root ≡ l.root
    root_itself = f.here l.root k.root_inside k.root

    parent_itself : f.root l.parent ≡ l.parent
    parent_itself = f.here l.parent k.parent_inside k.parent

    -- a root of the new trees isn't the one that came below
    no_root : (v : ℕ) → parent_at (linked t l) v ≡ v → v ≢ l.root
    no_root v e q = k.two (sym (sym root_parent ∙ ap (parent_at (linked t l)) (sym q) ∙ e ∙ q))

    abbrev new_root : ℕ → ℕ
    new_root v = root_after (f.root v)

    abbrev new_above : ℕ → ℕ
    new_above v = above_after (f.root v) (f.above v)

    pub flat_linked : Flat (linked t l)
    flat_linked = record {
      root = new_root;
      above = new_above;
      inside = λ v b.
          let s = linked_length in
          let a = k.parent_inside in
          let c = f.inside v (omega arith) in
          elim (cases_eq (f.root v) l.root) [
            | inl e ↦ let p = after_root (f.root v) e in omega arith
            | inr n ↦ let p = after_other (f.root v) n in omega arith
          ];
      is_root = λ v b.
          let s = linked_length in
          let c = f.is_root v (omega arith) in
          elim (cases_eq (f.root v) l.root) [
            | inl e ↦ let p = after_root (f.root v) e in ap (parent_at (linked t l)) p ∙ other_parent l.parent (λ q. k.two (sym q)) ∙ k.parent ∙ sym p
            | inr n ↦ let p = after_other (f.root v) n in ap (parent_at (linked t l)) p ∙ other_parent (f.root v) n ∙ c ∙ sym p
          ];
      small = λ v b.
          let s = linked_length in
          let c = f.small v (omega arith) in
          elim (cases_eq (f.root v) l.root) [
            | inl e ↦ let p = above_root (f.root v) (f.above v) e in omega arith
            | inr n ↦ let p = above_other (f.root v) (f.above v) n in omega arith
          ];
      here = λ v b e.
          let s = linked_length in
          let n = no_root v e in
          let h = f.here v (omega arith) (sym (other_parent v n) ∙ e) in
          after_other (f.root v) (λ q. n (sym h ∙ q)) ∙ h;
      level = λ v b e.
          let s = linked_length in
          let n = no_root v e in
          let o = sym (other_parent v n) ∙ e in
          let h = f.here v (omega arith) o in
          above_other (f.root v) (f.above v) (λ q. n (sym h ∙ q)) ∙ f.level v (omega arith) o;
      up = λ v b.
          let s = linked_length in
          elim (cases_eq v l.root) [
            | inl e ↦
                let p : parent_at (linked t l) v ≡ l.parent = ap (parent_at (linked t l)) e ∙ root_parent in
                after_root (f.root v) (ap f.root e ∙ root_itself) ∙ sym (ap new_root p ∙ after_other (f.root l.parent) (λ q. k.two (sym (sym parent_itself ∙ q))) ∙ parent_itself)
            | inr n ↦ ap root_after (f.up v (omega arith)) ∙ ap new_root (sym (other_parent v n))
          ];
      far = λ v b d.
          let s = linked_length in
          elim (cases_eq v l.root) [
            | inl e ↦
                let p : parent_at (linked t l) v ≡ l.parent = ap (parent_at (linked t l)) e ∙ root_parent in
                let q : offset_at (linked t l) v ≡ l.offset = ap (offset_at (linked t l)) e ∙ root_offset in
                let x : new_above (parent_at (linked t l) v) ≡ 0 =
                ap new_above p ∙ above_other (f.root l.parent) (f.above l.parent) (λ q. k.two (sym (sym parent_itself ∙ q))) ∙ f.level l.parent k.parent_inside k.parent in
                let z = f.level l.root k.root_inside k.root in
                let y = ap f.above e in
                let w = above_root (f.root v) (f.above v) (ap f.root e ∙ root_itself) in
                omega arith
            | inr n ↦
                let p = other_parent v n in
                let q = other_offset v n in
                let g = f.far v (omega arith) (λ e. d (p ∙ e)) in
                let u = f.up v (omega arith) in
                let x = ap new_above p in
                elim (cases_eq (f.root v) l.root) [
                  | inl e ↦
                      let y = above_root (f.root v) (f.above v) e in
                      let z = above_root (f.root (parent_at t v)) (f.above (parent_at t v)) (sym u ∙ e) in
                      omega arith
                  | inr m ↦
                      let y = above_other (f.root v) (f.above v) m in
                      let z = above_other (f.root (parent_at t v)) (f.above (parent_at t v)) (λ e. m (u ∙ e)) in
                      omega arith
                ]
          ];
    }

    pub flat_root : (v : ℕ) → flat_linked.root v ≡ root_after (f.root v)
    unfolding flat_linked
    flat_root v = refl

    pub flat_above : (v : ℕ) → flat_linked.above v ≡ above_after (f.root v) (f.above v)
    unfolding flat_linked
    flat_above v = refl

    -- ---- values that the trees keep

    pub moved_above : (v : ℕ) → f.root v ≡ l.root → flat_linked.above v ≡ (f.above v + l.offset) % 2 ^ 32
    moved_above v e = flat_above v ∙ above_root (f.root v) (f.above v) e

    pub kept_above : (v : ℕ) → f.root v ≢ l.root → flat_linked.above v ≡ f.above v
    kept_above v n = flat_above v ∙ above_other (f.root v) (f.above v) n

    pub root_moved : (v : ℕ) → f.root v ≡ l.root → flat_linked.root v ≡ l.parent
    root_moved v e = flat_root v ∙ after_root (f.root v) e

    pub root_kept : (v : ℕ) → f.root v ≢ l.root → flat_linked.root v ≡ f.root v
    root_kept v n = flat_root v ∙ after_other (f.root v) n

    pub keeps_after : (w : ℕ → ℕ) → KeepsFlat w f → IsAbove w l.root l.parent l.offset → KeepsFlat w flat_linked
    keeps_after w h a v b =
        let s = linked_length in
        let c = h v (omega arith) in
        elim (cases_eq (f.root v) l.root) [
          | inl e ↦
              let p = moved_above v e in
              let q = ap w (root_moved v e) in
              let r = ap w e in
              omega arith
          | inr n ↦
              let p = kept_above v n in
              let q = ap w (root_kept v n) in
              omega arith
        ]

    pub link_kept : (w : ℕ → ℕ) → KeepsFlat w flat_linked → IsAbove w l.root l.parent l.offset
    link_kept w h =
        let s = linked_length in
        let a = k.root_inside in
        let c = h l.root (omega arith) in
        let p = moved_above l.root root_itself in
        let q = ap w (root_moved l.root root_itself) in
        let z = f.level l.root k.root_inside k.root in
        omega arith

    pub keeps_before : (w : ℕ → ℕ) → KeepsFlat w flat_linked → KeepsFlat w f
    keeps_before w h v b =
        let s = linked_length in
        let c = h v (omega arith) in
        let a = link_kept w h in
        elim (cases_eq (f.root v) l.root) [
          | inl e ↦
              let p = moved_above v e in
              let q = ap w (root_moved v e) in
              let r = ap w e in
              omega arith
          | inr n ↦
              let p = kept_above v n in
              let q = ap w (root_kept v n) in
              omega arith
        ]

  -- ---- taken back

  pub taken_back : IsRanked t → unlinked (linked t l) l ≡ t
  taken_back r =
      let s = linked_length in
      let a = k.root_inside in
      let b = k.parent_inside in
      let u : List Tree = with_rank (linked t l) l.parent l.rank in
      let su : length u ≡ length t = length-set (linked t l) l.parent (record { parent = parent_at (linked t l) l.parent; offset = offset_at (linked t l) l.parent; rank = l.rank }) ∙ s in
      ext_get_or (record { parent = 0; offset = 0; rank = 0 }) (unlinked (linked t l) l) t
      (length-set u l.root (record { parent = l.root; offset = 0; rank = rank_at u l.root }) ∙ su)
      (λ v c. elim (cases_eq v l.root) [
        | inl e ↦
            let x : tree_at u l.root ≡ tree_at (linked t l) l.root = tree_other (linked t l) l.root l.parent (record { parent = parent_at (linked t l) l.parent; offset = offset_at (linked t l) l.parent; rank = l.rank }) k.two in
            let y : rank_at u l.root ≡ rank_at t l.root = ap (λ (n : Tree). n.rank) x ∙ root_rank in
            ap (tree_at (unlinked (linked t l) l)) e
            ∙ tree_same u l.root (record { parent = l.root; offset = 0; rank = rank_at u l.root }) (omega arith)
            ∙ same_tree l.root 0 (rank_at u l.root) (tree_at t l.root) (sym k.root) (sym (r.bare l.root k.root_inside k.root)) y
            ∙ ap (tree_at t) (sym e)
        | inr n ↦ tree_other u v l.root (record { parent = l.root; offset = 0; rank = rank_at u l.root }) n
            ∙ elim (cases_eq v l.parent) [
              | inl e ↦ ap (tree_at u) e
                  ∙ tree_same (linked t l) l.parent (record { parent = parent_at (linked t l) l.parent; offset = offset_at (linked t l) l.parent; rank = l.rank }) (omega arith)
                  ∙ same_tree (parent_at (linked t l) l.parent) (offset_at (linked t l) l.parent) l.rank (tree_at t l.parent)
                  (other_parent l.parent (λ q. k.two (sym q))) (other_offset l.parent (λ q. k.two (sym q))) k.rank
                  ∙ ap (tree_at t) (sym e)
              | inr m ↦ tree_other (linked t l) v l.parent (record { parent = parent_at (linked t l) l.parent; offset = offset_at (linked t l) l.parent; rank = l.rank }) m ∙ at_other v n m
            ]
      ])
    where
      same_tree : (p o q : ℕ) (n : Tree) → p ≡ n.parent → o ≡ n.offset → q ≡ n.rank → record { parent = p; offset = o; rank = q } ≡ n
      same_tree p o q n e g h = ap (λ (z : ℕ). record { parent = z; offset = o; rank = q }) e ∙ ap (λ (z : ℕ). record { parent = n.parent; offset = z; rank = q }) g ∙ ap (λ (z : ℕ). record { parent = n.parent; offset = n.offset; rank = z }) h

-- ---- the link of an equality

module _ (t : List Tree) (f : Flat t) (d : Difference) (l : Link) (from : d.from < length t) (to : d.to < length t) where
  pub tied_by : Ties f d l → (w : ℕ → ℕ) → KeepsFlat w f → IsAbove w d.to d.from d.plus → IsAbove w l.root l.parent l.offset
  tied_by (inl (p, r, o)) w h a =
      let b = f.small d.to to in
      let g = lower_from w d.from d.to (f.root d.from) (f.root d.to) (f.above d.from) (f.above d.to) d.plus b (h d.from from) (h d.to to) a in
      let x = ap w p in
      let y = ap w r in
      omega arith
  tied_by (inr (r, p, o)) w h a =
      let g = lower_to w d.from d.to (f.root d.from) (f.root d.to) (f.above d.from) (f.above d.to) d.plus (h d.from from) (h d.to to) a in
      let x = ap w p in
      let y = ap w r in
      omega arith

  pub ties_back : Ties f d l → (w : ℕ → ℕ) → KeepsFlat w f → IsAbove w l.root l.parent l.offset → IsAbove w d.to d.from d.plus
  ties_back (inl (p, r, o)) w h a =
      let b = f.small d.to to in
      let x = ap w p in
      let y = ap w r in
      raise_from (w d.from) (w d.to) (w (f.root d.from)) (w (f.root d.to)) (f.above d.from) (f.above d.to) d.plus l.offset b (h d.from from) (h d.to to) o (ap (λ z. z % 2 ^ 32) (sym y) ∙ a ∙ ap (λ z. (z + l.offset) % 2 ^ 32) x)
    where
      raise_from : (vf vt rf rt af at p o : ℕ) → at < 2 ^ 32 → vf % 2 ^ 32 ≡ (rf + af) % 2 ^ 32 → vt % 2 ^ 32 ≡ (rt + at) % 2 ^ 32 → o ≡ ((af + p) % 2 ^ 32 + (2 ^ 32 - at)) % 2 ^ 32 →
          rt % 2 ^ 32 ≡ (rf + o) % 2 ^ 32 → vt % 2 ^ 32 ≡ (vf + p) % 2 ^ 32
      raise_from vf vt rf rt af at p o b x y z a = omega arith
  ties_back (inr (r, p, o)) w h a =
      let x = ap w p in
      let y = ap w r in
      raise_to (w d.from) (w d.to) (w (f.root d.from)) (w (f.root d.to)) (f.above d.from) (f.above d.to) d.plus l.offset (h d.from from) (h d.to to) o (ap (λ z. z % 2 ^ 32) (sym y) ∙ a ∙ ap (λ z. (z + l.offset) % 2 ^ 32) x)
    where
      raise_to : (vf vt rf rt af at p o : ℕ) → vf % 2 ^ 32 ≡ (rf + af) % 2 ^ 32 → vt % 2 ^ 32 ≡ (rt + at) % 2 ^ 32 → o ≡ (at + (2 ^ 32 - (af + p) % 2 ^ 32)) % 2 ^ 32 →
          rf % 2 ^ 32 ≡ (rt + o) % 2 ^ 32 → vt % 2 ^ 32 ≡ (vf + p) % 2 ^ 32
      raise_to vf vt rf rt af at p o x y z a = omega arith

module _ (t : List Tree) (f : Flat t) (d : Difference) (from : d.from < length t) (to : d.to < length t) where
  pub one_holds : AreOne f d → (w : ℕ → ℕ) → KeepsFlat w f → IsAbove w d.to d.from d.plus
  one_holds (e, o) w h =
      let a = h d.from from in
      let b = h d.to to in
      let x = ap w e in
      omega arith

  -- with one root, the difference holds only where the ends are so far above it
  pub one_only : f.root d.from ≡ f.root d.to → (w : ℕ → ℕ) → KeepsFlat w f → IsAbove w d.to d.from d.plus → (f.above d.from + d.plus) % 2 ^ 32 ≡ f.above d.to
  one_only e w h k =
      let a = h d.from from in
      let b = h d.to to in
      let c = f.small d.to to in
      let x = ap w e in
      omega arith
