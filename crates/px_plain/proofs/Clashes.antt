-- What can't be added to a stack refutes.
use Rattle.std.proofs.Common.{◌≡◌, ◌≢◌, ◌⊎◌, inl, inr, ℕ, suc, ◌+◌, ◌-◌, ◌<◌, List, ◌∷◌, ◌++◌, length, get_or, sym, ap, ◌∙◌, arith}
use Rattle.std.specs.Prelude.{true, false, Some, All}
use Rattle.std.proofs.lemmas.Bool.{cases_eq, cases_lt}
use Rattle.std.proofs.lemmas.List.Elements.{All-head, All-tail}
use Rattle.px_terms.specs.declared.variables.VarInfo.{VarInfo}
use Rattle.px_terms.specs.declared.conjuncts.Conj.{Conj}
use Rattle.px_terms.proofs.Evaluation.{All-left, All-right}
use Rattle.px_plain.specs.declared.nodes.Difference.{Difference}
use Rattle.px_plain.specs.Forest.{IsAbove}
use Rattle.px_plain.specs.Places.{ArePlaceNumbers}
use Rattle.px_plain.specs.Readings.{word_difference, place_difference}
use Rattle.px_plain.specs.Held.{apart_conjuncts}
use Rattle.px_plain.specs.Trees.{KeepsFlat, AreOne}
use Rattle.px_plain.specs.Joins.{CannotJoin, owner_at, IsMadeNode, HaveTwoTypes, AreNull, first, second, types, Unmergeable, made_first, made_second, null_owner, two_owners, CannotMerge, unmergeable, broken, broken_null}
use Rattle.px_plain.specs.Steps.{Content}
use Rattle.px_plain.specs.Stands.{EqualBy, UnequalBy, ArePlacesApart, Stands}
use Rattle.px_plain.proofs.Solutions.{Solution}
use Rattle.px_plain.proofs.Solving.{apart_of}
use Rattle.px_plain.proofs.TreeLinks.{one_holds}

module _ (vars : List VarInfo) (apart : List ℕ) (cs : List Conj) (count : ℕ) (c : Content) (s : Stands vars apart cs count c) (size : length c.places ≡ length vars + 1) where
  -- ---- words

  module _ (k : Conj) (d : Difference) (is : word_difference k ≡ Some d) (n : Solution vars (k ∷ cs)) where
    word_keeps : KeepsFlat n.word s.words.flat
    word_keeps = s.words.there n.word tt (All-tail (EqualBy word_difference n.word) k cs n.equal_words)

    pub no_equal_word : d.equal ≡ true → ¬ CannotJoin c.words c.unequal_words d
    no_equal_word e h = h s.words.flat n.word word_keeps (s.words.unequal_there n.word (All-tail (UnequalBy word_difference n.word) k cs n.unequal_words))
        (All-head (EqualBy word_difference n.word) k cs n.equal_words d is e)

    pub no_unequal_word : d.equal ≡ false → d.from < length c.words → d.to < length c.words → ¬ AreOne s.words.flat d
    no_unequal_word e from to o = All-head (UnequalBy word_difference n.word) k cs n.unequal_words d is e (one_holds c.words s.words.flat d from to o n.word word_keeps)

  -- ---- places

  module _ (p : ℕ → ℕ) (numbers : ArePlaceNumbers vars p) (equal : All (EqualBy place_difference p) cs) (unequal : All (UnequalBy place_difference p) cs) where
    place_keeps : KeepsFlat p s.places.flat
    place_keeps = s.places.there p numbers equal

    -- a node has the number of its root
    at_root : (v : ℕ) → v < length c.places → p v ≡ p (s.places.flat.root v)
    at_root v l =
        let h = place_keeps v l in
        let z = s.placed.level v l in
        let a = numbers.small v in
        let b = numbers.small (s.places.flat.root v) in
        omega arith

    above_of : (a b : ℕ) → p a ≡ p b → IsAbove p a b 0
    above_of a b e = omega arith

    made_alone : (a b : ℕ) → a ≢ b → b < length c.places → IsMadeNode vars a → p a ≡ p b → ⊥
    made_alone a b n l m e = elim (cases_eq b 0) [
      | inl z ↦
          let q = ap p m.node in
          let r = ap p z in
          let o = numbers.null in
          numbers.made m.variable m.info m.is m.made (omega arith)
      | inr z ↦
          let y : b ≡ (b - 1) + 1 = omega arith in
          let x = m.node in
          numbers.apart m.variable (b - 1) m.info m.is m.made (λ q. n (omega arith)) (omega arith) (sym (ap p m.node) ∙ e ∙ ap p y)
    ]

    null_both : (a b : ℕ) → AreNull vars a b → p a ≡ p b → p a ≡ 0
    null_both a b (first z) e = ap p z ∙ numbers.null
    null_both a b (second z) e = e ∙ ap p z ∙ numbers.null
    null_both a b (types t) e = two t
      where
        two : HaveTwoTypes vars a b → p a ≡ 0
        two t = elim (numbers.types t.first t.second t.one t.other t.is_first t.is_second (sym (ap p t.first_node) ∙ e ∙ ap p t.second_node)) [
          | inl q ↦ absurd (t.types q)
          | inr q ↦ ap p t.first_node ∙ q
        ]

    abbrev is_apart : ArePlacesApart p apart
    is_apart = s.places.apart_there p unequal

    owned_some : (a : ℕ) → owner_at c.owners a ≡ true → p a ≢ 0
    owned_some a o z =
        let h = s.placed.owner a o in
        let e = at_root (get_or apart h.at 0 + 1) (s.placed.inside h.at h.inside) ∙ ap p h.root in
        let q = numbers.null in
        is_apart.null h.at h.inside (omega arith)

    two_apart : (a b : ℕ) → a ≢ b → owner_at c.owners a ≡ true → owner_at c.owners b ≡ true → p a ≢ p b
    two_apart a b n o q e =
        let h = s.placed.owner a o in
        let k = s.placed.owner b q in
        let x = at_root (get_or apart h.at 0 + 1) (s.placed.inside h.at h.inside) ∙ ap p h.root in
        let y = at_root (get_or apart k.at 0 + 1) (s.placed.inside k.at k.inside) ∙ ap p k.root in
        elim (cases_lt h.at k.at) [
          | inl l ↦ is_apart.pairs h.at k.at l k.inside (omega arith)
          | inr l ↦ elim (cases_lt k.at h.at) [
            | inl m ↦ is_apart.pairs k.at h.at m h.inside (omega arith)
            | inr m ↦
                let z : h.at ≡ k.at = omega arith in
                n (sym h.root ∙ ap (λ i. s.places.flat.root (get_or apart i 0 + 1)) z ∙ k.root)
          ]
        ]

    not_merged : (a b : ℕ) → a ≢ b → a < length c.places → b < length c.places → Unmergeable vars c.owners a b → p a ≡ p b → ⊥
    not_merged a b n la lb (made_first m) e = made_alone a b n lb m e
    not_merged a b n la lb (made_second m) e = made_alone b a (λ q. n (sym q)) la m (sym e)
    not_merged a b n la lb (null_owner z (inl o)) e = owned_some a o (null_both a b z e)
    not_merged a b n la lb (null_owner z (inr o)) e = owned_some b o (sym e ∙ null_both a b z e)
    not_merged a b n la lb (two_owners o q) e = two_apart a b n o q e

    no_merge : (a b : ℕ) → a < length c.places → b < length c.places → CannotMerge vars c.owners c.unequal_places s.places.flat a b → p a ≡ p b → ⊥
    no_merge a b la lb (unmergeable n u) e = not_merged a b n la lb u e
    no_merge a b la lb (broken h) e = h p place_keeps (s.places.unequal_there p unequal) (above_of a b e)
    no_merge a b la lb (broken_null t h) e =
        let z = null_both a b (types t) e in
        let q = numbers.null in
        h p place_keeps (s.places.unequal_there p unequal) (above_of a 0 (z ∙ sym q)) (above_of b 0 (sym e ∙ z ∙ sym q))

    -- a place apart, and those before it
    pub not_apart : (x : ℕ) → x + 1 < length c.places → ArePlacesApart p (x ∷ apart) → (s.places.flat.root (x + 1) ≡ 0) ⊎ (owner_at c.owners (s.places.flat.root (x + 1)) ≡ true) → ⊥
    not_apart x l a (inl z) = let e = at_root (x + 1) l ∙ ap p z in a.null 0 (omega arith) (omega arith)
    not_apart x l a (inr o) =
        let h = s.placed.owner (s.places.flat.root (x + 1)) o in
        let e = at_root (x + 1) l in
        let q = at_root (get_or apart h.at 0 + 1) (s.placed.inside h.at h.inside) ∙ ap p h.root in
        let b = h.inside in
        a.pairs 0 (suc h.at) (omega arith) (omega arith) (omega arith)

  module _ (k : Conj) (d : Difference) (is : place_difference k ≡ Some d) (bare : d.plus ≡ 0) (from : d.from < length c.places) (to : d.to < length c.places) (n : Solution vars (k ∷ cs)) where
    abbrev equal_rest : All (EqualBy place_difference n.number) cs
    equal_rest = All-tail (EqualBy place_difference n.number) k cs n.equal_places

    abbrev unequal_rest : All (UnequalBy place_difference n.number) cs
    unequal_rest = All-tail (UnequalBy place_difference n.number) k cs n.unequal_places

    pub no_equal_place : d.equal ≡ true → ¬ CannotMerge vars c.owners c.unequal_places s.places.flat (s.places.flat.root d.from) (s.places.flat.root d.to)
    no_equal_place e h =
        let f = s.places.flat in
        let x = at_root n.number n.numbers equal_rest unequal_rest d.from from in
        let y = at_root n.number n.numbers equal_rest unequal_rest d.to to in
        let q = All-head (EqualBy place_difference n.number) k cs n.equal_places d is e in
        let a = n.numbers.small d.from in
        let b = n.numbers.small d.to in
        no_merge n.number n.numbers equal_rest unequal_rest (f.root d.from) (f.root d.to) (f.inside d.from from) (f.inside d.to to) h (omega arith)

    pub no_unequal_place : d.equal ≡ false → ¬ AreOne s.places.flat d
    no_unequal_place e o = All-head (UnequalBy place_difference n.number) k cs n.unequal_places d is e
        (one_holds c.places s.places.flat d from to o n.number (place_keeps n.number n.numbers equal_rest unequal_rest))

  pub no_apart : (x : ℕ) → x + 1 < length c.places → Solution vars (apart_conjuncts x apart ++ cs) → (s.places.flat.root (x + 1) ≡ 0) ⊎ (owner_at c.owners (s.places.flat.root (x + 1)) ≡ true) → ⊥
  no_apart x l n h =
      let equal = All-right (EqualBy place_difference n.number) (apart_conjuncts x apart) cs n.equal_places in
      let unequal = All-right (UnequalBy place_difference n.number) (apart_conjuncts x apart) cs n.unequal_places in
      not_apart n.number n.numbers equal unequal x l
      (apart_of n.number x apart (All-left (UnequalBy place_difference n.number) (apart_conjuncts x apart) cs n.unequal_places) (s.places.apart_there n.number unequal)) h
