-- A place is added, or the last one is taken away.
use Rattle.std.proofs.Common.{◌≡◌, ◌≢◌, inl, inr, ℕ, ◌+◌, ◌-◌, ◌<◌, ◌≤◌, List, [], ◌∷◌, ◌++◌, length, get_or, set, refl, sym, ap, subst, ◌∙◌, arith, length-set}
use Rattle.std.specs.Prelude.{slice_index}
use Rattle.std.proofs.lemmas.Bool.{cases_eq}
use Rattle.std.proofs.lemmas.List.{get_or_append_left, get_or_push, get_or_default, get_or-map, length_push, length-map, map_push, get_or-set_same, get_or-set_other}
use Rattle.px_chains.specs.declared.chains.Link.{Link}
use Rattle.px_chains.specs.Ends.{IsEndOfKey}
use Rattle.px_chains.specs.Links.{keys_of, link_at, AreLinked}

-- ---- ends

module _ (keys : List ℕ) (key : ℕ) where
  abbrev More : List ℕ
  More = keys ++ key ∷ []

  old_key : (i : ℕ) → i < length keys → slice_index More i ≡ slice_index keys i
  old_key i l = get_or_append_left keys (key ∷ []) 0 i l

  last_key : (i : ℕ) → i ≡ length keys → slice_index More i ≡ key
  last_key i e = get_or_push keys key 0 i (sym e)

  end_kept : (x m n : ℕ) → m ≤ length keys → IsEndOfKey keys x m n → IsEndOfKey More x m n
  end_kept x m n l e = let w = e.within in record {
    within = w;
    here = λ p. old_key (n - 1) (omega arith) ∙ e.here p;
    none_after = λ i a b c. e.none_after i a b (sym (old_key i (omega arith)) ∙ c);
  }

  end_left : (x m n : ℕ) → m ≤ length keys → IsEndOfKey More x m n → IsEndOfKey keys x m n
  end_left x m n l e = let w = e.within in record {
    within = w;
    here = λ p. sym (old_key (n - 1) (omega arith)) ∙ e.here p;
    none_after = λ i a b c. e.none_after i a b (old_key i (omega arith) ∙ c);
  }

  -- a place with another key moves no end of x
  end_more : (x n : ℕ) → key ≢ x → IsEndOfKey keys x (length keys) n → IsEndOfKey More x (length keys + 1) n
  end_more x n d e = let w = e.within in record {
    within = omega arith;
    here = λ p. old_key (n - 1) (omega arith) ∙ e.here p;
    none_after = λ i a b c. elim (cases_eq i (length keys)) [
      | inl h ↦ d (sym (last_key i h) ∙ c)
      | inr h ↦ e.none_after i a (omega arith) (sym (old_key i (omega arith)) ∙ c)
    ];
  }

  end_less : (x n : ℕ) → key ≢ x → IsEndOfKey More x (length keys + 1) n → IsEndOfKey keys x (length keys) n
  end_less x n d e = elim (cases_eq n (length keys + 1)) [
    | inl h ↦ absurd (d (sym (last_key (n - 1) (omega arith)) ∙ e.here (omega arith)))
    | inr h ↦ (let w = e.within in record {
      within = omega arith;
      here = λ p. sym (old_key (n - 1) (omega arith)) ∙ e.here p;
      none_after = λ i a b c. e.none_after i a (omega arith) (old_key i b ∙ c);
    })
  ]

  end_here : IsEndOfKey More key (length keys + 1) (length keys + 1)
  end_here = record {
    within = omega arith;
    here = λ p. last_key (length keys + 1 - 1) (omega arith);
    none_after = λ i a b c. absurd (omega arith);
  }

-- ---- links

module _ (links : List Link) (last : Link) where
  abbrev Links : List Link
  Links = links ++ last ∷ []

  keys_are : keys_of Links ≡ keys_of links ++ last.key ∷ []
  keys_are = map_push (λ (l : Link). l.key) links last

  count : length (keys_of links) ≡ length links
  count = length-map links (λ (l : Link). l.key)

  old_link : (i : ℕ) → i < length links → link_at Links i ≡ link_at links i
  old_link i l = get_or_append_left links (last ∷ []) (record { key = 0; before = 0 }) i l

  last_link : (i : ℕ) → i ≡ length links → link_at Links i ≡ last
  last_link i e = get_or_push links last (record { key = 0; before = 0 }) i (sym e)

  -- an end up to a place that was there
  end_known : (x i n : ℕ) → i ≤ length links → IsEndOfKey (keys_of links) x i n → IsEndOfKey (keys_of Links) x i n
  end_known x i n l e = subst (λ ks. IsEndOfKey ks x i n) (sym keys_are) (end_kept (keys_of links) last.key x i n (let c = count in omega arith) e)

  end_remembered : (x i n : ℕ) → i ≤ length links → IsEndOfKey (keys_of Links) x i n → IsEndOfKey (keys_of links) x i n
  end_remembered x i n l e = end_left (keys_of links) last.key x i n (let c = count in omega arith) (subst (λ ks. IsEndOfKey ks x i n) keys_are e)

  -- an end up to the last place
  end_of_all : (x n : ℕ) → IsEndOfKey (keys_of links ++ last.key ∷ []) x (length (keys_of links) + 1) n → IsEndOfKey (keys_of Links) x (length Links) n
  end_of_all x n e =
      subst (λ ks. IsEndOfKey ks x (length Links) n) (sym keys_are)
      (subst (λ m. IsEndOfKey (keys_of links ++ last.key ∷ []) x m n) (let c = count in let p = length_push links last in omega arith) e)

  module _ (ends : List ℕ) where
    -- a place is added
    module _ (room : last.key < length ends) (known : last.before ≡ slice_index ends last.key) (h : AreLinked links ends) where
      abbrev Ended : List ℕ
      Ended = set ends last.key (length links + 1)

      now_inside : (i : ℕ) → i < length Links → (link_at Links i).key < length Ended
      now_inside i l = let p = length_push links last in let s = length-set ends last.key (length links + 1) in elim (cases_eq i (length links)) [
        | inl e ↦ (let k = ap (λ (l : Link). l.key) (last_link i e) in omega arith)
        | inr d ↦ (let k = ap (λ (l : Link). l.key) (old_link i (omega arith)) in let a = h.inside i (omega arith) in omega arith)
      ]

      now_before : (i : ℕ) → i < length Links → IsEndOfKey (keys_of Links) (link_at Links i).key i (link_at Links i).before
      now_before i l = let p = length_push links last in elim (cases_eq i (length links)) [
        | inl e ↦ subst (λ (k : Link). IsEndOfKey (keys_of Links) k.key i k.before) (sym (last_link i e))
            (end_known last.key i last.before (omega arith)
            (subst (λ m. IsEndOfKey (keys_of links) last.key m last.before) (sym e) (subst (IsEndOfKey (keys_of links) last.key (length links)) (sym known) (h.last last.key))))
        | inr d ↦ subst (λ (k : Link). IsEndOfKey (keys_of Links) k.key i k.before) (sym (old_link i (omega arith)))
            (end_known (link_at links i).key i (link_at links i).before (omega arith) (h.before i (omega arith)))
      ]

      now_last : (x : ℕ) → IsEndOfKey (keys_of Links) x (length Links) (slice_index Ended x)
      now_last x = elim (cases_eq x last.key) [
        | inl e ↦ (
            let s : slice_index Ended x ≡ length (keys_of links) + 1 = ap (slice_index Ended) e ∙ get_or-set_same ends last.key (length links + 1) 0 room ∙ ap (λ n. n + 1) (sym count) in
            subst (IsEndOfKey (keys_of Links) x (length Links)) (sym s)
            (end_of_all x (length (keys_of links) + 1) (subst (λ y. IsEndOfKey (keys_of links ++ last.key ∷ []) y (length (keys_of links) + 1) (length (keys_of links) + 1)) (sym e) (end_here (keys_of links) last.key))))
        | inr d ↦ subst (IsEndOfKey (keys_of Links) x (length Links)) (sym (get_or-set_other ends last.key x (length links + 1) 0 d))
            (end_of_all x (slice_index ends x) (end_more (keys_of links) last.key x (slice_index ends x) (λ e. d (sym e))
            (subst (λ m. IsEndOfKey (keys_of links) x m (slice_index ends x)) (sym count) (h.last x))))
      ]

      pub linked_more : AreLinked Links Ended
      linked_more = record { inside = now_inside; before = now_before; last = now_last }

    -- the last place is taken away
    module _ (h : AreLinked Links ends) where
      last_inside : last.key < length ends
      last_inside = let p = length_push links last in let k = ap (λ (l : Link). l.key) (last_link (length links) refl) in let a = h.inside (length links) (omega arith) in omega arith

      still_inside : (i : ℕ) → i < length links → (link_at links i).key < length ends
      still_inside i l = let p = length_push links last in let k = ap (λ (l : Link). l.key) (old_link i l) in let a = h.inside i (omega arith) in omega arith

      still_before : (i : ℕ) → i < length links → IsEndOfKey (keys_of links) (link_at links i).key i (link_at links i).before
      still_before i l =
          let p = length_push links last in
          end_remembered (link_at links i).key i (link_at links i).before (omega arith)
          (subst (λ (k : Link). IsEndOfKey (keys_of Links) k.key i k.before) (old_link i l) (h.before i (omega arith)))

      before_last : IsEndOfKey (keys_of links) last.key (length links) last.before
      before_last =
          let p = length_push links last in
          end_remembered last.key (length links) last.before (omega arith)
          (subst (λ (k : Link). IsEndOfKey (keys_of Links) k.key (length links) k.before) (last_link (length links) refl) (h.before (length links) (omega arith)))

      other_last : (x : ℕ) → x ≢ last.key → IsEndOfKey (keys_of links) x (length links) (slice_index ends x)
      other_last x d =
          subst (λ m. IsEndOfKey (keys_of links) x m (slice_index ends x)) count
          (end_less (keys_of links) last.key x (slice_index ends x) (λ e. d (sym e))
          (subst (λ m. IsEndOfKey (keys_of links ++ last.key ∷ []) x m (slice_index ends x)) (let c = count in let p = length_push links last in omega arith)
          (subst (λ ks. IsEndOfKey ks x (length Links) (slice_index ends x)) keys_are (h.last x))))

      pub linked_less : AreLinked links (set ends last.key last.before)
      linked_less = record {
        inside = λ i l. let s = length-set ends last.key last.before in let k = still_inside i l in omega arith;
        before = still_before;
        last = λ x. elim (cases_eq x last.key) [
          | inl e ↦ subst (λ y. IsEndOfKey (keys_of links) y (length links) (slice_index (set ends last.key last.before) y)) (sym e)
              (subst (IsEndOfKey (keys_of links) last.key (length links)) (sym (get_or-set_same ends last.key last.before 0 last_inside)) before_last)
          | inr d ↦ subst (IsEndOfKey (keys_of links) x (length links)) (sym (get_or-set_other ends last.key x last.before 0 d)) (other_last x d)
        ];
      }

-- room for more keys changes nothing
pub linked_room : (links : List Link) (old new : List ℕ) → length old ≤ length new → ((key : ℕ) → slice_index new key ≡ slice_index old key) → AreLinked links old → AreLinked links new
linked_room links old new more same h = record {
  inside = λ i l. let k = h.inside i l in omega arith;
  before = h.before;
  last = λ x. subst (IsEndOfKey (keys_of links) x (length links)) (sym (same x)) (h.last x);
}

-- ---- what is known of ends

module _ (links : List Link) (ends keys : List ℕ) (h : AreLinked links ends) (view : keys_of links ≡ keys) where
  all_places : length keys ≡ length links
  all_places = sym (ap length view) ∙ length-map links (λ (l : Link). l.key)

  pub end_is : (key n : ℕ) → slice_index ends key ≡ n → IsEndOfKey keys key (length keys) n
  end_is key n e =
      subst (λ ks. IsEndOfKey ks key (length keys) n) view
      (subst (λ m. IsEndOfKey (keys_of links) key m n) (sym all_places) (subst (IsEndOfKey (keys_of links) key (length links)) e (h.last key)))

  pub before_is : (place : ℕ) (link : Link) → place < length keys → link ≡ get_or links place link → IsEndOfKey keys (slice_index keys place) place link.before
  before_is place link l e =
      let inside : place < length links = let a = all_places in omega arith in
      let same : link_at links place ≡ link = get_or_default links place (record { key = 0; before = 0 }) link inside ∙ sym e in
      let key_is : (link_at links place).key ≡ slice_index keys place =
      sym (get_or-map (λ (l : Link). l.key) links place (record { key = 0; before = 0 }) 0 inside) ∙ ap (λ ks. slice_index ks place) view in
      subst (λ ks. IsEndOfKey ks (slice_index keys place) place link.before) view
      (subst (λ k. IsEndOfKey (keys_of links) k place link.before) key_is
      (subst (IsEndOfKey (keys_of links) (link_at links place).key place) (ap (λ (l : Link). l.before) same) (h.before place inside)))
