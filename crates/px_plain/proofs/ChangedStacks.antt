-- A stack after a change stands for one conjunct more, and the change can be taken back.
use Rattle.std.proofs.Common.{◌≡◌, inl, inr, ℕ, ◌+◌, ◌-◌, ◌*◌, ◌<◌, ◌≤◌, List, [], ◌∷◌, ◌++◌, length, length-append, map, refl, sym, ap, subst, ◌∙◌, arith}
use Rattle.std.specs.Prelude.{Bool, true, false, Some, None, All}
use Rattle.std.proofs.Math.ListN.{set, length-set, get_or-append}
use Rattle.std.proofs.lemmas.Bool.{cases_Bool, cases_lt}
use Rattle.std.proofs.lemmas.List.{take_at, set-set, set-get_or, get_or_push}
use Rattle.std.proofs.lemmas.List.Elements.{All-cons, All-map}
use Rattle.px_terms.specs.declared.variables.VarInfo.{VarInfo}
use Rattle.px_terms.specs.declared.conjuncts.Place.TheVariants as place
use Rattle.px_terms.specs.declared.conjuncts.Conj.{Conj}
use Rattle.px_terms.specs.declared.conjuncts.Conj.TheVariants.{OtherPlace}
use Rattle.px_plain.specs.declared.nodes.Difference.{Difference}
use Rattle.px_plain.specs.declared.trees.Tree.{Tree}
use Rattle.px_plain.specs.declared.trees.Link.{Link}
use Rattle.px_plain.specs.declared.claims.Change.{Change}
use Rattle.px_plain.specs.declared.claims.Change.TheVariants as change
use Rattle.px_plain.specs.Forest.{IsAbove}
use Rattle.px_plain.specs.Differences.{AreBare}
use Rattle.px_plain.specs.Places.{ArePlaceNumbers}
use Rattle.px_plain.specs.Readings.{word_difference, place_difference}
use Rattle.px_plain.specs.Held.{apart_conjuncts, place_of_variable}
use Rattle.px_plain.specs.Trees.{Flat, KeepsFlat, IsRanked, IsLink, AreOne, AreApart, Ties, linked, unlinked, rank_at}
use Rattle.px_plain.specs.Joins.{JoinsWords, JoinsPlaces, LinksPlaces, NullsPlaces, IsPair, MayCome, owner_at}
use Rattle.px_plain.specs.Steps.{Content, IsChangeInside, words_undone, places_undone, owners_undone, unequal_words_undone, unequal_places_undone, front}
use Rattle.px_plain.specs.Changes.{WordsChanged, PlacesChanged, AddsUnequal, AddsOther, ApartChanged}
use Rattle.px_plain.specs.Stands.{Solves, AnyWords, ArePlaced, Stands}
use Rattle.px_plain.proofs.PlacesHeld.{placed_linked, placed_apart}
use Rattle.px_plain.proofs.Solving.{solves_quiet, solves_equal, solves_unequal, solves_quiet_all, solves_apart}
use Rattle.px_plain.proofs.TreeLinks.{linked_length, ranked_linked, rank_within, flat_linked, keeps_after, keeps_before, link_kept, taken_back, tied_by, ties_back, one_holds}

-- the trees and disequalities stand for the list, and the change leads back
pub record AfterChange (vars : List VarInfo) (apart : List ℕ) (conjuncts : List Conj) (count : ℕ) (c e : Content) (o : Change) : Type 0 where
  pub words : Solves word_difference AnyWords [] conjuncts e.words e.unequal_words
  pub places : Solves place_difference (ArePlaceNumbers vars) apart conjuncts e.places e.unequal_places
  pub placed : ArePlaced vars e.owners apart places.flat
  pub bare : AreBare e.unequal_places
  pub words_ranked : IsRanked e.words
  pub places_ranked : IsRanked e.places
  pub few_words : length e.unequal_words ≤ count
  pub word_ranks : (v : ℕ) → v < length e.words → rank_at e.words v ≤ count
  pub place_ranks : (v : ℕ) → v < length e.places → rank_at e.places v ≤ 2 * count
  pub vars_same : e.vars ≡ c.vars
  pub marks_same : e.marks ≡ c.marks
  pub steps_same : e.steps ≡ c.steps
  pub words_size : length e.words ≡ length c.words
  pub places_size : length e.places ≡ length c.places
  pub owners_size : length e.owners ≡ length c.owners
  pub inside : IsChangeInside (length c.words) o
  pub words_back : words_undone o e.words ≡ c.words
  pub places_back : places_undone o e.places ≡ c.places
  pub owners_back : owners_undone o e.owners ≡ c.owners
  pub unequal_words_back : unequal_words_undone o e.unequal_words ≡ c.unequal_words
  pub unequal_places_back : unequal_places_undone o e.unequal_places ≡ c.unequal_places

pub front_push : {X : Type 0} (xs : List X) (x : X) → front (xs ++ x ∷ []) ≡ xs
front_push xs x = take_at xs (x ∷ []) (length (xs ++ x ∷ []) - 1) (let n = length-append xs (x ∷ []) in omega arith)

module _ (vars : List VarInfo) (apart : List ℕ) (cs : List Conj) (count : ℕ) (c : Content) (s : Stands vars apart cs count c)
    (words_size : length c.words ≡ length vars + 1) (places_size : length c.places ≡ length vars + 1) (owners_size : length c.owners ≡ length vars + 1)
    (few : length vars ≤ 65536) (room : count < 65536) where
  -- ---- a conjunct that says nothing of trees

  pub nothing_changed : (k : Conj) → word_difference k ≡ None → place_difference k ≡ None → AfterChange vars apart (k ∷ cs) (count + 1) c c change.Nothing
  nothing_changed k p q = record {
    words = solves_quiet word_difference AnyWords [] cs c.words c.unequal_words s.words k p;
    places = solves_quiet place_difference (ArePlaceNumbers vars) apart cs c.places c.unequal_places s.places k q;
    placed = s.placed;
    bare = s.bare;
    words_ranked = s.words_ranked;
    places_ranked = s.places_ranked;
    few_words = let h = s.few_words in omega arith;
    word_ranks = λ v l. let h = s.word_ranks v l in omega arith;
    place_ranks = λ v l. let h = s.place_ranks v l in omega arith;
    vars_same = refl;
    marks_same = refl;
    steps_same = refl;
    words_size = refl;
    places_size = refl;
    owners_size = refl;
    inside = tt;
    words_back = refl;
    places_back = refl;
    owners_back = refl;
    unequal_words_back = refl;
    unequal_places_back = refl;
  }

  -- ---- words

  module _ (k : Conj) (d : Difference) (is : word_difference k ≡ Some d) (no : place_difference k ≡ None) (from : d.from < length c.words) (to : d.to < length c.words) where
    abbrev with_words : List Tree → List Difference → Content
    with_words t us = record c { words = t; unequal_words = us }

    abbrev Words : List Tree → List Difference → Change → Type 0
    Words t us o = AfterChange vars apart (k ∷ cs) (count + 1) c (with_words t us) o

    words_changed : (t : List Tree) (us : List Difference) (o : Change) → Solves word_difference AnyWords [] (k ∷ cs) t us → IsRanked t → length us ≤ count + 1 →
        ((v : ℕ) → v < length t → rank_at t v ≤ count + 1) → length t ≡ length c.words → IsChangeInside (length c.words) o → words_undone o t ≡ c.words →
        places_undone o c.places ≡ c.places → owners_undone o c.owners ≡ c.owners → unequal_words_undone o us ≡ c.unequal_words → unequal_places_undone o c.unequal_places ≡ c.unequal_places → Words t us o
    words_changed t us o w r f n z i a b e g h = record {
      words = w;
      places = solves_quiet place_difference (ArePlaceNumbers vars) apart cs c.places c.unequal_places s.places k no;
      placed = s.placed;
      bare = s.bare;
      words_ranked = r;
      places_ranked = s.places_ranked;
      few_words = f;
      word_ranks = n;
      place_ranks = λ v l. let q = s.place_ranks v l in omega arith;
      vars_same = refl;
      marks_same = refl;
      steps_same = refl;
      words_size = z;
      places_size = refl;
      owners_size = refl;
      inside = i;
      words_back = a;
      places_back = b;
      owners_back = e;
      unequal_words_back = g;
      unequal_places_back = h;
    }

    word_held : d.equal ≡ true → AreOne s.words.flat d → Words c.words c.unequal_words change.Nothing
    word_held e o = words_changed c.words c.unequal_words change.Nothing
        (solves_equal word_difference AnyWords [] cs c.words c.unequal_words s.words k d is e c.words s.words.flat refl (λ w a h g. h) (λ w h. h)
        (λ w h. one_holds c.words s.words.flat d from to o w h) s.words.separate)
        s.words_ranked (let h = s.few_words in omega arith) (λ v l. let h = s.word_ranks v l in omega arith) refl tt refl refl refl refl refl

    word_linked : (l : Link) → d.equal ≡ true → IsLink c.words l → Ties s.words.flat d l → AreApart (linked c.words l) c.unequal_words → Words (linked c.words l) c.unequal_words (change.Words l)
    word_linked l e i t a =
        let f = s.words.flat in
        let b = s.word_ranks l.root i.root_inside in
        words_changed (linked c.words l) c.unequal_words (change.Words l)
        (solves_equal word_difference AnyWords [] cs c.words c.unequal_words s.words k d is e (linked c.words l) (flat_linked c.words l i f) (linked_length c.words l i)
        (λ w x h g. keeps_after c.words l i f w h (tied_by c.words f d l from to t w h g))
        (λ w h. keeps_before c.words l i f w h)
        (λ w h. ties_back c.words f d l from to t w (keeps_before c.words l i f w h) (link_kept c.words l i f w h))
        (λ j m. a j m (flat_linked c.words l i f)))
        (ranked_linked c.words l i (omega arith) s.words_ranked) (let h = s.few_words in omega arith) (rank_within c.words l i count s.word_ranks) (linked_length c.words l i)
        (i.root_inside, i.parent_inside) (taken_back c.words l i s.words_ranked) refl refl refl refl

    word_joined : d.equal ≡ true → (t : List Tree) (o : Change) → JoinsWords c.words c.unequal_words d t (Some o) → Words t c.unequal_words o
    word_joined e t change.Nothing h = subst (λ z. Words z c.unequal_words change.Nothing) (sym h.0) (word_held e (h.1 s.words.flat))
    word_joined e t (change.Words l) h =
        subst (λ z. Words z c.unequal_words (change.Words l)) (sym h.0) (word_linked l e h.1 (h.2 s.words.flat) (subst (λ z. AreApart z c.unequal_words) h.0 h.3))
    word_joined e t change.UnequalWords h = absurd h
    word_joined e t (change.Places l) h = absurd h
    word_joined e t (change.Null l m) h = absurd h
    word_joined e t change.UnequalPlaces h = absurd h
    word_joined e t (change.Owner r) h = absurd h

    word_unequal : d.equal ≡ false → (t : List Tree) (us : List Difference) (o : Change) → AddsUnequal c.words c.unequal_words d t us (Some o) → Words t us o
    word_unequal e t us change.Nothing h = absurd h
    word_unequal e t us (change.Words l) h = absurd h
    word_unequal e t us change.UnequalWords h = subst (λ z. Words z us change.UnequalWords) (sym h.0) (subst (λ z. Words c.words z change.UnequalWords) (sym h.1)
        (words_changed c.words (c.unequal_words ++ d ∷ []) change.UnequalWords
        (solves_unequal word_difference AnyWords [] cs c.words c.unequal_words s.words k d is e from to (h.2 s.words.flat))
        s.words_ranked (let q = s.few_words in let n = length-append c.unequal_words (d ∷ []) in omega arith) (λ v l. let q = s.word_ranks v l in omega arith) refl tt refl refl refl
        (front_push c.unequal_words d) refl))
    word_unequal e t us (change.Places l) h = absurd h
    word_unequal e t us (change.Null l m) h = absurd h
    word_unequal e t us change.UnequalPlaces h = absurd h
    word_unequal e t us (change.Owner r) h = absurd h

    pub words_after : (t : List Tree) (us : List Difference) (o : Change) → WordsChanged c.words c.unequal_words d t us (Some o) → Words t us o
    words_after t us o h = elim (cases_Bool d.equal) [
      | inl e ↦ let j = h.equal e in subst (λ z. Words t z o) (sym j.1) (word_joined e t o j.0)
      | inr e ↦ word_unequal e t us o (h.unequal e)
    ]

  -- ---- places

  module _ (k : Conj) (d : Difference) (is : place_difference k ≡ Some d) (no : word_difference k ≡ None) (level : d.plus ≡ 0) (from : d.from < length c.places) (to : d.to < length c.places) where
    abbrev with_places : List Tree → List Difference → Content
    with_places t us = record c { places = t; unequal_places = us }

    abbrev Places : List Tree → List Difference → Change → Type 0
    Places t us o = AfterChange vars apart (k ∷ cs) (count + 1) c (with_places t us) o

    abbrev asked : (ℕ → ℕ) → Type 0
    asked = ArePlaceNumbers vars

    places_changed : (t : List Tree) (us : List Difference) (o : Change) (w : Solves place_difference asked apart (k ∷ cs) t us) → ArePlaced vars c.owners apart w.flat → AreBare us → IsRanked t →
        ((v : ℕ) → v < length t → rank_at t v ≤ 2 * (count + 1)) → length t ≡ length c.places → IsChangeInside (length c.words) o → words_undone o c.words ≡ c.words →
        places_undone o t ≡ c.places → owners_undone o c.owners ≡ c.owners → unequal_words_undone o c.unequal_words ≡ c.unequal_words → unequal_places_undone o us ≡ c.unequal_places → Places t us o
    places_changed t us o w p m r n z i a b e g h = record {
      words = solves_quiet word_difference AnyWords [] cs c.words c.unequal_words s.words k no;
      places = w;
      placed = p;
      bare = m;
      words_ranked = s.words_ranked;
      places_ranked = r;
      few_words = let q = s.few_words in omega arith;
      word_ranks = λ v l. let q = s.word_ranks v l in omega arith;
      place_ranks = n;
      vars_same = refl;
      marks_same = refl;
      steps_same = refl;
      words_size = refl;
      places_size = z;
      owners_size = refl;
      inside = i;
      words_back = a;
      places_back = b;
      owners_back = e;
      unequal_words_back = g;
      unequal_places_back = h;
    }

    abbrev f : Flat c.places
    f = s.places.flat

    -- the ends are the same where their roots are
    same_ends : f.root d.from ≡ f.root d.to → (w : ℕ → ℕ) → KeepsFlat w f → IsAbove w d.to d.from d.plus
    same_ends e w h =
        let a = h d.from from in
        let b = h d.to to in
        let x = s.placed.level d.from from in
        let y = s.placed.level d.to to in
        let z = ap w e in
        omega arith

    roots_same : (w : ℕ → ℕ) → KeepsFlat w f → IsAbove w d.to d.from d.plus → IsAbove w (f.root d.from) (f.root d.to) 0
    roots_same w h g =
        let a = h d.from from in
        let b = h d.to to in
        let x = s.placed.level d.from from in
        let y = s.placed.level d.to to in
        omega arith

    ends_same : (w : ℕ → ℕ) → KeepsFlat w f → IsAbove w (f.root d.from) (f.root d.to) 0 → IsAbove w d.to d.from d.plus
    ends_same w h g =
        let a = h d.from from in
        let b = h d.to to in
        let x = s.placed.level d.from from in
        let y = s.placed.level d.to to in
        omega arith

    place_held : d.equal ≡ true → f.root d.from ≡ f.root d.to → Places c.places c.unequal_places change.Nothing
    place_held e o = places_changed c.places c.unequal_places change.Nothing
        (solves_equal place_difference asked apart cs c.places c.unequal_places s.places k d is e c.places f refl (λ w a h g. h) (λ w h. h) (λ w h. same_ends o w h) s.places.separate)
        s.placed s.bare s.places_ranked (λ v l. let h = s.place_ranks v l in omega arith) refl tt refl refl refl refl refl

    pair_tied : (l : Link) → l.offset ≡ 0 → IsPair l.root l.parent (f.root d.from) (f.root d.to) → (w : ℕ → ℕ) → IsAbove w (f.root d.from) (f.root d.to) 0 → IsAbove w l.root l.parent l.offset
    pair_tied l z (inl (e, g)) w h = let x = ap w e in let y = ap w g in omega arith
    pair_tied l z (inr (e, g)) w h = let x = ap w e in let y = ap w g in omega arith

    tied_pair : (l : Link) → l.offset ≡ 0 → IsPair l.root l.parent (f.root d.from) (f.root d.to) → (w : ℕ → ℕ) → IsAbove w l.root l.parent l.offset → IsAbove w (f.root d.from) (f.root d.to) 0
    tied_pair l z (inl (e, g)) w h = let x = ap w e in let y = ap w g in omega arith
    tied_pair l z (inr (e, g)) w h = let x = ap w e in let y = ap w g in omega arith

    place_linked : (l : Link) → d.equal ≡ true → IsLink c.places l → l.offset ≡ 0 → MayCome vars c.owners l.root l.parent → IsPair l.root l.parent (f.root d.from) (f.root d.to) →
        AreApart (linked c.places l) c.unequal_places → Places (linked c.places l) c.unequal_places (change.Places l)
    place_linked l e i z may pair a =
        let b = s.place_ranks l.root i.root_inside in
        let ri = i.root_inside in
        let pi = i.parent_inside in
        places_changed (linked c.places l) c.unequal_places (change.Places l)
        (solves_equal place_difference asked apart cs c.places c.unequal_places s.places k d is e (linked c.places l) (flat_linked c.places l i f) (linked_length c.places l i)
        (λ w x h g. keeps_after c.places l i f w h (pair_tied l z pair w (roots_same w h g)))
        (λ w h. keeps_before c.places l i f w h)
        (λ w h. ends_same w (keeps_before c.places l i f w h) (tied_pair l z pair w (link_kept c.places l i f w h)))
        (λ j m. a j m (flat_linked c.places l i f)))
        (placed_linked vars c.owners apart c.places places_size f s.placed l i z may) s.bare
        (ranked_linked c.places l i (omega arith) s.places_ranked)
        (λ v m. let q = rank_within c.places l i (2 * count) s.place_ranks v m in omega arith)
        (linked_length c.places l i) (omega arith, omega arith) refl (taken_back c.places l i s.places_ranked) refl refl refl

    -- both roots are null
    module _ (l m : Link) (i : IsLink c.places l) (j : IsLink (linked c.places l) m) (lz : l.parent ≡ 0) (mz : m.parent ≡ 0) (lo : l.offset ≡ 0) (mo : m.offset ≡ 0)
        (may : Rattle.px_plain.specs.Joins.MayBeNull vars c.owners l.root m.root) (le : l.root ≡ f.root d.from) (me : m.root ≡ f.root d.to) where
      abbrev t1 : List Tree
      t1 = linked c.places l

      abbrev t2 : List Tree
      t2 = linked t1 m

      abbrev f1 : Flat t1
      f1 = flat_linked c.places l i f

      abbrev f2 : Flat t2
      f2 = flat_linked t1 m j f1

      no_null : ¬ Rattle.px_plain.specs.Joins.IsMadeNode vars 0
      no_null n = let e = n.node in absurd (omega arith)

      first_may : MayCome vars c.owners l.root l.parent
      first_may = record {
        some = may.first_some;
        free = may.first_free;
        single = may.first_single;
        other = λ n. no_null (subst (Rattle.px_plain.specs.Joins.IsMadeNode vars) lz n);
        types = inl lz;
      }

      second_may : MayCome vars c.owners m.root m.parent
      second_may = record {
        some = may.second_some;
        free = may.second_free;
        single = may.second_single;
        other = λ n. no_null (subst (Rattle.px_plain.specs.Joins.IsMadeNode vars) mz n);
        types = inl mz;
      }

      size1 : length t1 ≡ length vars + 1
      size1 = linked_length c.places l i ∙ places_size

      placed1 : ArePlaced vars c.owners apart f1
      placed1 = placed_linked vars c.owners apart c.places places_size f s.placed l i lo first_may

      placed2 : ArePlaced vars c.owners apart f2
      placed2 = placed_linked vars c.owners apart t1 size1 f1 placed1 m j mo second_may

      -- numbers of places are null at two roots of two types that are the same
      null_roots : (w : ℕ → ℕ) → asked w → IsAbove w (f.root d.from) (f.root d.to) 0 → (w l.root ≡ 0) × (w m.root ≡ 0)
      null_roots w a h =
          let t = may.types in
          let x = ap w le in
          let y = ap w me in
          let p = a.small (f.root d.from) in
          let q = a.small (f.root d.to) in
          let same : w l.root ≡ w m.root = omega arith in
          elim (a.types t.first t.second t.one t.other t.is_first t.is_second (sym (ap w t.first_node) ∙ same ∙ ap w t.second_node)) [
            | inl e ↦ absurd (t.types e)
            | inr z ↦ let g : w l.root ≡ 0 = ap w t.first_node ∙ z in (g, sym same ∙ g)
          ]

      null_there : (w : ℕ → ℕ) → asked w → KeepsFlat w f → IsAbove w d.to d.from d.plus → KeepsFlat w f2
      null_there w a h g =
          let n = null_roots w a (roots_same w h g) in
          let z = a.null in
          let x = ap w lz in
          let y = ap w mz in
          let p = n.0 in
          let q = n.1 in
          keeps_after t1 m j f1 w (keeps_after c.places l i f w h (omega arith)) (omega arith)

      null_back : (w : ℕ → ℕ) → KeepsFlat w f2 → KeepsFlat w f
      null_back w h = keeps_before c.places l i f w (keeps_before t1 m j f1 w h)

      null_held : (w : ℕ → ℕ) → KeepsFlat w f2 → IsAbove w d.to d.from d.plus
      null_held w h =
          let h1 = keeps_before t1 m j f1 w h in
          let a = link_kept t1 m j f1 w h in
          let b = link_kept c.places l i f w h1 in
          let x = ap w lz in
          let y = ap w mz in
          let p = ap w le in
          let q = ap w me in
          ends_same w (null_back w h) (omega arith)

      pub place_nulled : d.equal ≡ true → AreApart t2 c.unequal_places → Places t2 c.unequal_places (change.Null l m)
      place_nulled e a =
          let b = s.place_ranks l.root i.root_inside in
          let r1 = ranked_linked c.places l i (omega arith) s.places_ranked in
          let n1 = rank_within c.places l i (2 * count) s.place_ranks in
          let b1 = n1 m.root j.root_inside in
          let s1 = linked_length c.places l i in
          let s2 = linked_length t1 m j in
          let ri = i.root_inside in
          let pi = i.parent_inside in
          let rj = j.root_inside in
          let pj = j.parent_inside in
          places_changed t2 c.unequal_places (change.Null l m)
          (solves_equal place_difference asked apart cs c.places c.unequal_places s.places k d is e t2 f2 (s2 ∙ s1) null_there null_back null_held (λ u q. a u q f2))
          placed2 s.bare (ranked_linked t1 m j (omega arith) r1)
          (λ v q. let x = rank_within t1 m j (2 * count + 1) n1 v q in omega arith)
          (s2 ∙ s1) (omega arith, omega arith, omega arith, omega arith) refl
          (ap (λ (z : List Tree). unlinked z l) (taken_back t1 m j r1) ∙ taken_back c.places l i s.places_ranked) refl refl refl

    place_joined : d.equal ≡ true → (t : List Tree) (o : Change) → JoinsPlaces vars c.owners c.places c.unequal_places d t (Some o) → Places t c.unequal_places o
    place_joined e t change.Nothing h = subst (λ z. Places z c.unequal_places change.Nothing) (sym h.0) (place_held e (h.1 f))
    place_joined e t (change.Words l) h = absurd h
    place_joined e t change.UnequalWords h = absurd h
    place_joined e t (change.Places l) h =
        subst (λ z. Places z c.unequal_places (change.Places l)) (sym h.trees) (place_linked l e h.link h.level h.may (h.ends f) (subst (λ z. AreApart z c.unequal_places) h.trees h.unequal))
    place_joined e t (change.Null l m) h =
        let b = h.ends f in
        subst (λ z. Places z c.unequal_places (change.Null l m)) (sym h.trees)
        (place_nulled l m h.first h.second h.first_null h.second_null h.first_level h.second_level h.may b.0 b.1 e (subst (λ z. AreApart z c.unequal_places) h.trees h.unequal))
    place_joined e t change.UnequalPlaces h = absurd h
    place_joined e t (change.Owner r) h = absurd h

    abbrev no_difference : Difference
    no_difference = record { from = 0; to = 0; plus = 0; equal = false }

    bare_push : AreBare (c.unequal_places ++ d ∷ [])
    bare_push j l =
        let n = length-append c.unequal_places (d ∷ []) in
        elim (cases_lt j (length c.unequal_places)) [
          | inl b ↦ ap (λ (z : Difference). z.plus) (get_or-append c.unequal_places (d ∷ []) no_difference j b) ∙ s.bare j b
          | inr b ↦ let same : length c.unequal_places ≡ j = omega arith in ap (λ (z : Difference). z.plus) (get_or_push c.unequal_places d no_difference j same) ∙ level
        ]

    place_unequal : d.equal ≡ false → (t : List Tree) (us : List Difference) (o : Change) → AddsOther c.places c.unequal_places d t us (Some o) → Places t us o
    place_unequal e t us change.Nothing h = absurd h
    place_unequal e t us (change.Words l) h = absurd h
    place_unequal e t us change.UnequalWords h = absurd h
    place_unequal e t us (change.Places l) h = absurd h
    place_unequal e t us (change.Null l m) h = absurd h
    place_unequal e t us change.UnequalPlaces h = subst (λ z. Places z us change.UnequalPlaces) (sym h.0) (subst (λ z. Places c.places z change.UnequalPlaces) (sym h.1)
        (places_changed c.places (c.unequal_places ++ d ∷ []) change.UnequalPlaces
        (solves_unequal place_difference asked apart cs c.places c.unequal_places s.places k d is e from to (h.2 f))
        s.placed bare_push s.places_ranked (λ v l. let q = s.place_ranks v l in omega arith) refl tt refl refl refl refl
        (front_push c.unequal_places d)))
    place_unequal e t us (change.Owner r) h = absurd h

    pub places_after : (t : List Tree) (us : List Difference) (o : Change) → PlacesChanged vars c.owners c.places c.unequal_places d t us (Some o) → Places t us o
    places_after t us o h = elim (cases_Bool d.equal) [
      | inl e ↦ let j = h.equal e in subst (λ z. Places t z o) (sym j.1) (place_joined e t o j.0)
      | inr e ↦ place_unequal e t us o (h.unequal e)
    ]

  -- ---- a place apart

  module _ (x : ℕ) (inside : x + 1 < length c.places) where
    abbrev all : List Conj
    all = apart_conjuncts x apart ++ cs

    no_words : All (λ k. word_difference k ≡ None) (apart_conjuncts x apart)
    no_words = All-cons (λ k. word_difference k ≡ None) (OtherPlace (place_of_variable x) place.Null) (map (λ y. OtherPlace (place_of_variable x) (place_of_variable y)) apart) refl
        (All-map (λ k. word_difference k ≡ None) (λ y. OtherPlace (place_of_variable x) (place_of_variable y)) apart (λ j y l. refl))

    pub apart_after : (owners : List Bool) (o : Change) → ApartChanged c.places c.owners (x + 1) owners (Some o) → AfterChange vars (x ∷ apart) all (count + 1) c (record c { owners = owners }) o
    apart_after owners change.Nothing h = absurd h
    apart_after owners (change.Words l) h = absurd h
    apart_after owners change.UnequalWords h = absurd h
    apart_after owners (change.Places l) h = absurd h
    apart_after owners (change.Null l m) h = absurd h
    apart_after owners change.UnequalPlaces h = absurd h
    apart_after owners (change.Owner r) h =
        let b = h.3 in
        subst (λ z. AfterChange vars (x ∷ apart) all (count + 1) c (record c { owners = z }) (change.Owner r)) (sym h.0) (record {
          words = solves_quiet_all word_difference AnyWords [] (apart_conjuncts x apart) cs c.words c.unequal_words no_words s.words;
          places = solves_apart (ArePlaceNumbers vars) apart cs c.places c.unequal_places x s.places;
          placed = placed_apart vars c.owners apart c.places (owners_size ∙ sym places_size) s.places.flat s.placed x r inside (h.4 s.places.flat) h.1 h.2;
          bare = s.bare;
          words_ranked = s.words_ranked;
          places_ranked = s.places_ranked;
          few_words = let q = s.few_words in omega arith;
          word_ranks = λ v l. let q = s.word_ranks v l in omega arith;
          place_ranks = λ v l. let q = s.place_ranks v l in omega arith;
          vars_same = refl;
          marks_same = refl;
          steps_same = refl;
          words_size = refl;
          places_size = refl;
          owners_size = length-set c.owners r true;
          inside = omega arith;
          words_back = refl;
          places_back = refl;
          owners_back = set-set c.owners r true false ∙ ap (λ z. set c.owners r z) (sym h.2) ∙ set-get_or c.owners r false;
          unequal_words_back = refl;
          unequal_places_back = refl;
        })
