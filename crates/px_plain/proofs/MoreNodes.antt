-- Trees with one node more, which is a root.
use Rattle.std.proofs.Common.{◌≡◌, ◌≢◌, inl, inr, ℕ, ◌+◌, ◌%◌, ◌^◌, ◌<◌, ◌≤◌, List, [], ◌∷◌, ◌++◌, length, length-append, refl, sym, ap, subst, ◌∙◌, arith}
use Rattle.std.specs.Prelude.{Option, cond, nat_eq}
use Rattle.std.proofs.Math.ListN.{get_or-append}
use Rattle.std.proofs.lemmas.Bool.{cases_lt, eq-eqb, ne_eqb}
use Rattle.std.proofs.lemmas.List.{get_or_push}
use Rattle.px_terms.specs.declared.conjuncts.Conj.{Conj}
use Rattle.px_plain.specs.declared.nodes.Difference.{Difference}
use Rattle.px_plain.specs.declared.trees.Tree.{Tree}
use Rattle.px_plain.specs.Forest.{IsAbove}
use Rattle.px_plain.specs.Differences.{difference_at}
use Rattle.px_plain.specs.Trees.{tree_at, parent_at, offset_at, rank_at, Flat, KeepsFlat, IsRanked, AreOne}
use Rattle.px_plain.specs.Stacks.{node_of_size}
use Rattle.px_plain.specs.Stands.{Solves}
use Rattle.px_plain.proofs.Solving.{inside_more}

module _ (t : List Tree) (r : IsRanked t) where
  abbrev pub more : List Tree
  more = t ++ node_of_size (length t) ∷ []

  pub more_length : length more ≡ length t + 1
  more_length = length-append t (node_of_size (length t) ∷ [])

  at_old : (v : ℕ) → v < length t → tree_at more v ≡ tree_at t v
  at_old v l = get_or-append t (node_of_size (length t) ∷ []) (record { parent = 0; offset = 0; rank = 0 }) v l

  at_new : tree_at more (length t) ≡ node_of_size (length t)
  at_new = get_or_push t (node_of_size (length t)) (record { parent = 0; offset = 0; rank = 0 }) (length t) refl

  old_parent : (v : ℕ) → v < length t → parent_at more v ≡ parent_at t v
  old_parent v l = ap (λ (n : Tree). n.parent) (at_old v l)

  old_offset : (v : ℕ) → v < length t → offset_at more v ≡ offset_at t v
  old_offset v l = ap (λ (n : Tree). n.offset) (at_old v l)

  old_rank : (v : ℕ) → v < length t → rank_at more v ≡ rank_at t v
  old_rank v l = ap (λ (n : Tree). n.rank) (at_old v l)

  new_parent : parent_at more (length t) ≡ length t
  new_parent = ap (λ (n : Tree). n.parent) at_new

  new_offset : offset_at more (length t) ≡ 0
  new_offset = ap (λ (n : Tree). n.offset) at_new

  new_rank : rank_at more (length t) ≡ 0
  new_rank = ap (λ (n : Tree). n.rank) at_new

  -- each node is an old one or the new one
  old_or_new : (P : ℕ → Type 0) → ((v : ℕ) → v < length t → P v) → P (length t) → (v : ℕ) → v < length more → P v
  old_or_new P h k v l =
      let n = more_length in
      elim (cases_lt v (length t)) [
        | inl b ↦ h v b
        | inr b ↦ let e : length t ≡ v = omega arith in subst P e k
      ]

  pub ranked_more : IsRanked more
  ranked_more = record {
    inside = old_or_new (λ v. parent_at more v < length more)
        (λ v l. let n = more_length in let e = old_parent v l in let i = r.inside v l in omega arith)
        (let n = more_length in let e = new_parent in omega arith);
    rising = old_or_new (λ v. parent_at more v ≢ v → rank_at more v < rank_at more (parent_at more v))
        (λ v l d.
        let e = old_parent v l in
        let i = r.inside v l in
        let up = r.rising v l (λ q. d (e ∙ q)) in
        let a = old_rank v l in
        let b = old_rank (parent_at t v) i in
        let c = ap (rank_at more) e in
        omega arith)
        (λ d. absurd (d new_parent));
    bare = old_or_new (λ v. parent_at more v ≡ v → offset_at more v ≡ 0)
        (λ v l e. old_offset v l ∙ r.bare v l (sym (old_parent v l) ∙ e))
        (λ e. new_offset);
    low = old_or_new (λ v. rank_at more v < 2 ^ 32)
        (λ v l. let e = old_rank v l in let i = r.low v l in omega arith)
        (let e = new_rank in omega arith);
  }

  pub rank_more : (n m : ℕ) → n ≤ m → ((v : ℕ) → v < length t → rank_at t v ≤ n) → (v : ℕ) → v < length more → rank_at more v ≤ m
  rank_more n m k h = old_or_new (λ v. rank_at more v ≤ m)
      (λ v l. let e = old_rank v l in let i = h v l in omega arith)
      (let e = new_rank in omega arith)

  module _ (f : Flat t) where
    abbrev root_now : ℕ → ℕ
    root_now v = cond (nat_eq v (length t)) (length t) (f.root v)

    abbrev above_now : ℕ → ℕ
    above_now v = cond (nat_eq v (length t)) 0 (f.above v)

    root_new : root_now (length t) ≡ length t
    root_new = rw (eq-eqb (length t) (length t) refl)

    root_old : (v : ℕ) → v < length t → root_now v ≡ f.root v
    root_old v l = rw (ne_eqb v (length t) (omega arith))

    above_new : above_now (length t) ≡ 0
    above_new = rw (eq-eqb (length t) (length t) refl)

    above_old : (v : ℕ) → v < length t → above_now v ≡ f.above v
    above_old v l = rw (ne_eqb v (length t) (omega arith))

    pub flat_more : Flat more
    flat_more = record {
      root = root_now;
      above = above_now;
      inside = old_or_new (λ v. root_now v < length more)
          (λ v l. let n = more_length in let e = root_old v l in let i = f.inside v l in omega arith)
          (let n = more_length in let e = root_new in omega arith);
      is_root = old_or_new (λ v. parent_at more (root_now v) ≡ root_now v)
          (λ v l. let e = root_old v l in ap (parent_at more) e ∙ old_parent (f.root v) (f.inside v l) ∙ f.is_root v l ∙ sym e)
          (ap (parent_at more) root_new ∙ new_parent ∙ sym root_new);
      small = old_or_new (λ v. above_now v < 2 ^ 32)
          (λ v l. let e = above_old v l in let i = f.small v l in omega arith)
          (let e = above_new in omega arith);
      here = old_or_new (λ v. parent_at more v ≡ v → root_now v ≡ v)
          (λ v l e. root_old v l ∙ f.here v l (sym (old_parent v l) ∙ e))
          (λ e. root_new);
      level = old_or_new (λ v. parent_at more v ≡ v → above_now v ≡ 0)
          (λ v l e. above_old v l ∙ f.level v l (sym (old_parent v l) ∙ e))
          (λ e. above_new);
      up = old_or_new (λ v. root_now v ≡ root_now (parent_at more v))
          (λ v l. root_old v l ∙ f.up v l ∙ sym (root_old (parent_at t v) (r.inside v l)) ∙ ap root_now (sym (old_parent v l)))
          (ap root_now (sym new_parent));
      far = old_or_new (λ v. parent_at more v ≢ v → above_now v ≡ (above_now (parent_at more v) + offset_at more v) % 2 ^ 32)
          (λ v l d.
          let e = old_parent v l in
          let g = f.far v l (λ q. d (e ∙ q)) in
          let a = above_old v l in
          let b = ap above_now e ∙ above_old (parent_at t v) (r.inside v l) in
          let o = old_offset v l in
          omega arith)
          (λ d. absurd (d new_parent));
    }

    pub more_root : (v : ℕ) → v < length t → flat_more.root v ≡ f.root v
    unfolding flat_more
    more_root v l = root_old v l

    pub more_new : flat_more.root (length t) ≡ length t
    unfolding flat_more
    more_new = root_new

    pub more_above : (v : ℕ) → v < length t → flat_more.above v ≡ f.above v
    unfolding flat_more
    more_above v l = above_old v l

    pub more_level : flat_more.above (length t) ≡ 0
    unfolding flat_more
    more_level = above_new

    pub keeps_more : (w : ℕ → ℕ) → KeepsFlat w f → KeepsFlat w flat_more
    keeps_more w h = old_or_new (λ v. IsAbove w v (flat_more.root v) (flat_more.above v))
        (λ v l. let k = h v l in let a = ap w (more_root v l) in let b = more_above v l in omega arith)
        (let a = ap w more_new in let b = more_level in omega arith)

    pub keeps_less : (w : ℕ → ℕ) → KeepsFlat w flat_more → KeepsFlat w f
    keeps_less w h v l =
        let n = more_length in
        let k = h v (omega arith) in
        let a = ap w (more_root v l) in
        let b = more_above v l in
        omega arith

    pub one_less : (d : Difference) → d.from < length t → d.to < length t → AreOne flat_more d → AreOne f d
    one_less d i j (e, g) =
        let a = more_above d.from i in
        let b = more_above d.to j in
        (sym (more_root d.from i) ∙ e ∙ more_root d.to j, omega arith)

  abbrev pub solves_more : (read : Conj → Option Difference) (asked other : (ℕ → ℕ) → Type 0) (apart : List ℕ) (cs : List Conj) (us : List Difference) →
      ((w : ℕ → ℕ) → other w → asked w) → Solves read asked apart cs t us → Solves read other apart cs more us
  solves_more read asked other apart cs us weaker s = record {
    flat = flat_more s.flat;
    there = λ w a h. keeps_more s.flat w (s.there w (weaker w a) h);
    back = λ w k. s.back w (keeps_less s.flat w k);
    unequal_there = s.unequal_there;
    apart_there = s.apart_there;
    unequal_back = s.unequal_back;
    inside = inside_more (length t) (length more) us (let n = more_length in omega arith) s.inside;
    separate = λ j l o. s.separate j l (one_less s.flat (difference_at us j) (s.inside.from j l) (s.inside.to j l) o);
  }
