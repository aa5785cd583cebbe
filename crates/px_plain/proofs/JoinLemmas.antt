-- When equalities can't hold beside disequalities.
use Rattle.std.proofs.Common.{◌≡◌, ◌≢◌, inl, inr, ℕ, ◌+◌, ◌%◌, ◌^◌, ◌<◌, List, length, refl, sym, ap, subst, ◌∙◌, arith}
use Rattle.std.specs.Prelude.{Bool, false, Option, Some, None}
use Rattle.px_terms.specs.declared.variables.VarInfo.{VarInfo}
use Rattle.px_plain.specs.declared.nodes.Difference.{Difference}
use Rattle.px_plain.specs.declared.claims.Change.{Change}
use Rattle.px_plain.specs.declared.claims.Change.TheVariants as change
use Rattle.px_plain.specs.declared.merging.Meeting.{Meeting}
use Rattle.px_plain.specs.declared.merging.Meeting.TheVariants as meeting
use Rattle.px_plain.specs.declared.trees.Tree.{Tree}
use Rattle.px_plain.specs.declared.trees.Link.{Link}
use Rattle.px_plain.specs.Forest.{IsAbove}
use Rattle.px_plain.specs.Differences.{difference_at, AreInside}
use Rattle.px_plain.specs.Trees.{Flat, KeepsFlat, IsLink, IsSomeOne, linked, rank_at}
use Rattle.px_plain.specs.Joins.{AllApart, CannotJoin, IsMeetingOf, CannotMeet, CannotBeNull, IsPair, IsMadeNode, HaveOneType, HaveTwoTypes, AreNull, owner_at, Unmergeable, null_owner, two_owners, MayCome, MayBeNull, MeetsOwned, MeetsNull, Meets, CannotMerge, unmergeable, broken, broken_null, MergesBelow, MergesNull, JoinsPlaces}
use Rattle.px_plain.proofs.TreeLinks.{linked_length, other_parent, flat_linked, keeps_after, one_holds, one_only}

-- a difference that holds in the trees isn't apart in values that they keep
pub some_one_broken : (u : List Tree) (us : List Difference) → IsSomeOne u us → AreInside (length u) us → (f : Flat u) (w : ℕ → ℕ) → KeepsFlat w f → ¬ AllApart w us
some_one_broken u us s i f w h a = a s.at s.inside (one_holds u f (difference_at us s.at) (i.from s.at s.inside) (i.to s.at s.inside) (s.one f) w h)

module _ (t : List Tree) (us : List Difference) (l : Link) (k : IsLink t l) where
  pub inside_after : AreInside (length t) us → AreInside (length (linked t l)) us
  inside_after i = subst (λ n. AreInside n us) (sym (linked_length t l k)) i

  pub broken_link : (f : Flat t) (w : ℕ → ℕ) → KeepsFlat w f → IsSomeOne (linked t l) us → AreInside (length t) us → AllApart w us → ¬ IsAbove w l.root l.parent l.offset
  broken_link f w h s i a b = some_one_broken (linked t l) us s (inside_after i) (flat_linked t l k f) w (keeps_after t l k f w h b) a

-- an equality whose ends have one root and aren't so far above it can't hold
pub clash_of_one : (t : List Tree) (us : List Difference) (d : Difference) → d.from < length t → d.to < length t →
    ((f : Flat t) → (f.root d.from ≡ f.root d.to) × ((f.above d.from + d.plus) % 2 ^ 32 ≢ f.above d.to)) → CannotJoin t us d
clash_of_one t us d from to c f w h a k = (c f).1 (one_only t f d from to (c f).0 w h k)

-- ---- two places

abbrev pub the_link : List Tree → ℕ → ℕ → Link
the_link t r p = record { root = r; parent = p; offset = 0; rank = rank_at t p }

pub is_link : (t : List Tree) (r p : ℕ) → IsMeetingOf t r p → IsLink t (the_link t r p)
is_link t r p m = record { root_inside = m.root_inside; parent_inside = m.parent_inside; root = m.root; parent = m.parent; two = m.two; rank = refl; small = omega arith }

pub cannot_meet : (t : List Tree) (us : List Difference) (r p : ℕ) → IsMeetingOf t r p → IsSomeOne (linked t (the_link t r p)) us → AreInside (length t) us → (f : Flat t) → CannotMeet f us r p
cannot_meet t us r p m s i f w h a b = broken_link t us (the_link t r p) (is_link t r p m) f w h s i a b

module _ (t : List Tree) (a b : ℕ) (m : IsMeetingOf t a 0) (n : IsMeetingOf t b 0) (two : a ≢ b) where
  pub meeting_after : IsMeetingOf (linked t (the_link t a 0)) b 0
  meeting_after =
      let k = is_link t a 0 m in
      let s = linked_length t (the_link t a 0) k in
      let i = n.root_inside in
      let j = n.parent_inside in
      record {
        root_inside = omega arith;
        parent_inside = omega arith;
        root = other_parent t (the_link t a 0) k b (λ e. two (sym e)) ∙ n.root;
        parent = other_parent t (the_link t a 0) k 0 (λ e. m.two (sym e)) ∙ n.parent;
        two = n.two;
      }

  pub cannot_be_null : (us : List Difference) → IsSomeOne (linked (linked t (the_link t a 0)) (the_link (linked t (the_link t a 0)) b 0)) us → AreInside (length t) us → (f : Flat t) → CannotBeNull f us a b
  cannot_be_null us s i f w h p x y =
      let k = is_link t a 0 m in
      let u : List Tree = linked t (the_link t a 0) in
      broken_link u us (the_link u b 0) (is_link u b 0 meeting_after) (flat_linked t (the_link t a 0) k f) w (keeps_after t (the_link t a 0) k f w h x) s
      (inside_after t us (the_link t a 0) k i) p y

-- ---- the ends of an equality of places

pub pair_broken : {t : List Tree} (f : Flat t) (us : List Difference) (r p a b : ℕ) → IsPair r p a b → CannotMeet f us r p → CannotMeet f us a b
pair_broken f us r p a b (inl (e, g)) h = subst (λ z. CannotMeet f us z b) e (subst (CannotMeet f us r) g h)
pair_broken f us r p a b (inr (e, g)) h = λ w k q x.
    let y = ap w e in
    let z = ap w g in
    h w k q (omega arith)

-- roots that aren't null nor those of made variables, and have one type
module _ (vars : List VarInfo) (owners : List Bool) (a b : ℕ) (two : a ≢ b) (first : ¬ IsMadeNode vars a) (second : ¬ IsMadeNode vars b) where
  pair_may : (r p : ℕ) → a ≢ 0 → b ≢ 0 → HaveOneType vars a b → owner_at owners r ≡ false → IsPair r p a b → MayCome vars owners r p
  pair_may r p x y one free (inl (e, g)) = record {
    some = λ z. x (sym e ∙ z);
    free = free;
    single = λ m. first (subst (IsMadeNode vars) e m);
    other = λ m. second (subst (IsMadeNode vars) g m);
    types = inr (λ k n i j q s. one k n i j (sym e ∙ q) (sym g ∙ s));
  }
  pair_may r p x y one free (inr (e, g)) = record {
    some = λ z. y (sym e ∙ z);
    free = free;
    single = λ m. second (subst (IsMadeNode vars) e m);
    other = λ m. first (subst (IsMadeNode vars) g m);
    types = inr (λ k n i j q s u v. sym (one n k j i (sym g ∙ s) (sym e ∙ q) v u));
  }

  null_may : (r p : ℕ) → p ≡ 0 → r ≢ 0 → owner_at owners r ≡ false → IsPair r p a b → MayCome vars owners r p
  null_may r p z x free (inl (e, g)) = record {
    some = x;
    free = free;
    single = λ m. first (subst (IsMadeNode vars) e m);
    other = λ m. second (subst (IsMadeNode vars) g m);
    types = inl z;
  }
  null_may r p z x free (inr (e, g)) = record {
    some = x;
    free = free;
    single = λ m. second (subst (IsMadeNode vars) e m);
    other = λ m. first (subst (IsMadeNode vars) g m);
    types = inl z;
  }

  pub owned_meets : (r : Meeting) → a ≢ 0 → b ≢ 0 → HaveOneType vars a b → MeetsOwned owners a b r → Meets vars owners a b r
  owned_meets meeting.Clash x y one h = (two, two_owners h.0 h.1)
  owned_meets meeting.Same x y one h = absurd h
  owned_meets (meeting.Below r p) x y one h = (two, h.0, pair_may r p x y one h.1 h.0)
  owned_meets (meeting.Null r s) x y one h = absurd h

  pub null_meets : (r : Meeting) → AreNull vars a b → (a ≢ 0 → b ≢ 0 → HaveTwoTypes vars a b) → MeetsNull owners a b r → Meets vars owners a b r
  null_meets meeting.Clash n types h = (two, null_owner n h)
  null_meets meeting.Same n types h = absurd h
  null_meets (meeting.Below r p) n types h = (two, h.0, null_may r p h.1 h.2 h.3 h.0)
  null_meets (meeting.Null r s) n types h =
      let x : a ≢ 0 = λ z. h.2 (h.0 ∙ z) in
      let y : b ≢ 0 = λ z. h.3 (h.1 ∙ z) in (
        two,
        h.0,
        h.1,
        record {
          first_some = h.2;
          second_some = h.3;
          first_free = h.4;
          second_free = h.5;
          first_single = λ m. first (subst (IsMadeNode vars) h.0 m);
          second_single = λ m. second (subst (IsMadeNode vars) h.1 m);
          types = subst (λ z. HaveTwoTypes vars z s) (sym h.0) (subst (HaveTwoTypes vars a) (sym h.1) (types x y));
        },
      )

-- what was done for the roots was done for the equality
module _ (vars : List VarInfo) (owners : List Bool) (t : List Tree) (us : List Difference) (d : Difference) (u : List Tree) (a b : ℕ)
    (first : (f : Flat t) → a ≡ f.root d.from) (second : (f : Flat t) → b ≡ f.root d.to) where
  at_ends : (P : ℕ → ℕ → Type 0) (f : Flat t) → P a b → P (f.root d.from) (f.root d.to)
  at_ends P f h = subst (λ z. P z (f.root d.to)) (first f) (subst (P a) (second f) h)

  pub same_joins : a ≡ b → u ≡ t → JoinsPlaces vars owners t us d u (Some change.Nothing)
  same_joins e q = (q, λ f. sym (first f) ∙ e ∙ second f)

  pub clash_joins : a ≢ b → Unmergeable vars owners a b → u ≡ t → JoinsPlaces vars owners t us d u None
  clash_joins n h q = (q, λ f. at_ends (CannotMerge vars owners us f) f (unmergeable n h))

  pub below_joins : (r p : ℕ) → IsPair r p a b → MayCome vars owners r p → (o : Option Change) → MergesBelow t us r p u o → JoinsPlaces vars owners t us d u o
  below_joins r p pair may None h = (h.0, λ f. at_ends (CannotMerge vars owners us f) f (broken (pair_broken f us r p a b pair (h.1 f))))
  below_joins r p pair may (Some change.Nothing) h = absurd h
  below_joins r p pair may (Some (change.Words l)) h = absurd h
  below_joins r p pair may (Some change.UnequalWords) h = absurd h
  below_joins r p pair may (Some (change.Places l)) h = record {
    trees = h.0;
    link = h.1;
    level = h.4;
    may = subst (λ z. MayCome vars owners z l.parent) (sym h.2) (subst (MayCome vars owners r) (sym h.3) may);
    ends = λ f. at_ends (λ x y. IsPair l.root l.parent x y) f (subst (λ z. IsPair z l.parent a b) (sym h.2) (subst (λ z. IsPair r z a b) (sym h.3) pair));
    unequal = h.5;
  }
  below_joins r p pair may (Some (change.Null l m)) h = absurd h
  below_joins r p pair may (Some change.UnequalPlaces) h = absurd h
  below_joins r p pair may (Some (change.Owner x)) h = absurd h

  pub null_joins : (r s : ℕ) → r ≡ a → s ≡ b → MayBeNull vars owners r s → (o : Option Change) → MergesNull t us r s u o → JoinsPlaces vars owners t us d u o
  null_joins r s e g may None h = (
    h.0,
    λ f. at_ends (CannotMerge vars owners us f) f
        (subst (λ z. CannotMerge vars owners us f z b) e (subst (CannotMerge vars owners us f r) g (broken_null may.types (h.1 f)))),
  )
  null_joins r s e g may (Some change.Nothing) h = absurd h
  null_joins r s e g may (Some (change.Words l)) h = absurd h
  null_joins r s e g may (Some change.UnequalWords) h = absurd h
  null_joins r s e g may (Some (change.Places l)) h = absurd h
  null_joins r s e g may (Some (change.Null l m)) h = record {
    trees = h.0;
    first = h.1;
    second = h.2;
    first_null = h.5;
    second_null = h.6;
    first_level = h.7;
    second_level = h.8;
    may = subst (λ z. MayBeNull vars owners z m.root) (sym h.3) (subst (MayBeNull vars owners r) (sym h.4) may);
    ends = λ f. (h.3 ∙ e ∙ first f, h.4 ∙ g ∙ second f);
    unequal = h.9;
  }
  null_joins r s e g may (Some change.UnequalPlaces) h = absurd h
  null_joins r s e g may (Some (change.Owner x)) h = absurd h
