-- What the items that are held of a state say is refuted where what the state assumes is.
use Rattle.std.proofs.Common.{◌≡◌, ◌≢◌, inl, inr, ℕ, ◌+◌, List, [], ◌∷◌, ◌++◌, map, length, Bool, true, false, not, cond, Option, Some, None, slice_get, refl, ap, ap₂, sym, ◌∙◌, subst, arith, append_assoc, append-nil, length-append}
use Rattle.std.specs.Prelude.{All, Contains, filter, reverse}
use Rattle.std.specs.List.{list_all}
use Rattle.std.proofs.lemmas.Bool.{eqb-true}
use Rattle.std.proofs.lemmas.List.{reverse-append}
use Rattle.std.proofs.lemmas.List.Elements.{All-nil, All-head, All-tail, All-cons, All-append, All-contains_itself}
use Rattle.px_terms.specs.Conjuncts.{IsPlain, IsTrueUnder}
use Rattle.px_terms.specs.Valuations.{Valuation, IsPlace, Fits}
use Rattle.px_terms.specs.declared.types.TypeId.{TypeId}
use Rattle.px_terms.specs.declared.types.Value.{Value}
use Rattle.px_terms.specs.declared.types.Value.TheVariants as value
use Rattle.px_terms.specs.declared.types.ValueType.{ValueType}
use Rattle.px_terms.specs.declared.types.ValueType.TheVariants.{Int, Pointer}
use Rattle.px_terms.specs.declared.variables.VarInfo.{VarInfo}
use Rattle.px_terms.specs.declared.conjuncts.Place.TheVariants as place
use Rattle.px_terms.specs.declared.conjuncts.Conj.{Conj}
use Rattle.px_terms.specs.declared.conjuncts.Conj.TheVariants.{OtherPlace}
use Rattle.px_terms.proofs.Evaluation.{All-left, All-right}
use Rattle.px_terms.proofs.Tests.{same_number, never_both}
use Rattle.px_plain.specs.Held.{HeldItem, OfVar, OfConj, OfApart, held_vars, held_apart, held_conjuncts, held_count, apart_conjuncts, place_of_variable}
use Rattle.px_plain.specs.Models.{IsPlainlyRefuted}
use Rattle.px_solver.specs.Decisions.{IsRefuted}
use Rattle.px_solver.specs.Pushed.{pushed_conjuncts}
use Rattle.px_solver.proofs.Growing.{refuted_stays}
use Rattle.px_solver.proofs.PlacesApart.{some_rule_held}
use Rattle.px_entry.specs.declared.atoms.Atom.{Atom}
use Rattle.px_entry.specs.Sorts.{same_type, is_some_and, is_made}
use Rattle.px_entry.specs.Constraint.{found_atoms, same_block, apart_from, apart_all, separate}
use Rattle.px_entry.proofs.Lists.{Each, all_each, each_all, each_from}
use Rattle.px_callgraph.specs.declared.states.State.{State}
use Rattle.px_symexec.specs.Prefixes.{constraint}
use Rattle.px_explore.specs.Trails.{conjuncts_in, places_in, places_of, AreOf}
use Rattle.px_explore.specs.Weights.{is_placed}

-- ---- the parts of items

pub pushed_is : (items : List HeldItem) → pushed_conjuncts items ≡ reverse (conjuncts_in items)
pushed_is [] = refl
pushed_is (OfVar i ∷ items) = pushed_is items
pushed_is (OfConj c ∷ items) = ap (λ z. c ∷ z) (pushed_is items) ∙ sym (reverse-append (conjuncts_in items) (c ∷ []))
pushed_is (OfApart x ∷ items) = pushed_is items

pub count_is : (items : List HeldItem) → held_count items ≡ length (conjuncts_in items) + length (places_in items)
count_is [] = refl
count_is (OfVar i ∷ items) = count_is items
count_is (OfConj c ∷ items) =
    let n = count_is items in
    let e : length (conjuncts_in items ++ c ∷ []) ≡ length (conjuncts_in items) + 1 = length-append (conjuncts_in items) (c ∷ []) in
    omega (arith, n, e)
count_is (OfApart x ∷ items) =
    let n = count_is items in
    let e : length (places_in items ++ x ∷ []) ≡ length (places_in items) + 1 = length-append (places_in items) (x ∷ []) in
    omega (arith, n, e)

module _ (Q : ℕ → Type 0) where
  -- of the places in either order
  apart_places : (items : List HeldItem) → All Q (held_apart items) → All Q (places_in items)
  apart_places [] h = h
  apart_places (OfVar i ∷ items) h = apart_places items h
  apart_places (OfConj c ∷ items) h = apart_places items h
  apart_places (OfApart x ∷ items) h = All-append Q (places_in items) (x ∷ []) (apart_places items (All-tail Q x (held_apart items) h)) (All-cons Q x [] (All-head Q x (held_apart items) h) (All-nil Q))

  places_apart : (items : List HeldItem) → All Q (places_in items) → All Q (held_apart items)
  places_apart [] h = h
  places_apart (OfVar i ∷ items) h = places_apart items h
  places_apart (OfConj c ∷ items) h = places_apart items h
  places_apart (OfApart x ∷ items) h = All-cons Q x (held_apart items) (All-head Q x [] (All-right Q (places_in items) (x ∷ []) h)) (places_apart items (All-left Q (places_in items) (x ∷ []) h))

-- the last of the blocks whose places these are
record Last (x : ℕ) (ps : List ℕ) (fs : List Atom) : Type 0 where
  before : List Atom
  last : Atom
  blocks : fs ≡ before ++ last ∷ []
  place_is : x ≡ last.place.0
  places : ps ≡ places_of before

last_of : (ps : List ℕ) (x : ℕ) (fs : List Atom) → ps ++ x ∷ [] ≡ places_of fs → Last x ps fs
last_of [] x [] e = cc
last_of [] x (a ∷ []) e = record { before = []; last = a; blocks = refl; place_is = cc; places = refl }
last_of [] x (a ∷ b ∷ fs) e = cc
last_of (p ∷ ps) x [] e = cc
last_of (p ∷ ps) x (a ∷ fs) e =
    let h : p ≡ a.place.0 = cc in
    let t : ps ++ x ∷ [] ≡ places_of fs = cc in
    let r = last_of ps x fs t in
    record { before = a ∷ r.before; last = r.last; blocks = ap (λ z. a ∷ z) r.blocks; place_is = r.place_is; places = ap₂ (λ y z. y ∷ z) h r.places }

apart_last : (earlier fs : List Atom) (a : Atom) → apart_all earlier (fs ++ a ∷ []) ≡ apart_all earlier fs ++ apart_from (earlier ++ fs) a
apart_last earlier [] a = append-nil (apart_from earlier a) ∙ ap (λ z. apart_from z a) (sym (append-nil earlier))
apart_last earlier (f ∷ fs) a =
    ap (λ z. apart_from earlier f ++ z) (apart_last (earlier ++ f ∷ []) fs a)
    ∙ ap (λ z. apart_from earlier f ++ (apart_all (earlier ++ f ∷ []) fs ++ apart_from z a)) (append_assoc earlier (f ∷ []) fs)
    ∙ sym (append_assoc (apart_from earlier f) (apart_all (earlier ++ f ∷ []) fs) (apart_from (earlier ++ f ∷ fs) a))

map_of_each : {A B : Type 0} (P : B → Type 0) (f : A → B) (xs : List A) → Each (λ x. P (f x)) xs → Each P (map f xs)
map_of_each P f [] h = tt
map_of_each P f (x ∷ xs) h = (h.0, map_of_each P f xs h.1)

-- ---- what is said of conjuncts

abbrev not_null : ℕ → Conj
not_null x = OtherPlace (place_of_variable x) place.Null

abbrev differ : ℕ → ℕ → Conj
differ x y = OtherPlace (place_of_variable x) (place_of_variable y)

-- P holds of what says that the block differs from each of these
abbrev EachDiffers : (Conj → Type 0) → Atom → List Atom → Type 0
EachDiffers P a bs = Each P (map (λ (b : Atom). OtherPlace (place.Var a.place) (place.Var b.place)) bs)

module _ (P : Conj → Type 0) where
  held_pure : (items : List HeldItem) → All P (held_conjuncts items) → All P (conjuncts_in items)
  held_pure [] h = h
  held_pure (OfVar i ∷ items) h = held_pure items h
  held_pure (OfConj c ∷ items) h =
      All-append P (conjuncts_in items) (c ∷ []) (held_pure items (All-tail P c (held_conjuncts items) h)) (All-cons P c [] (All-head P c (held_conjuncts items) h) (All-nil P))
  held_pure (OfApart x ∷ items) h = held_pure items (All-right P (apart_conjuncts x (held_apart items)) (held_conjuncts items) h)

  pub pure_pushed : (items : List HeldItem) → All P (conjuncts_in items) → All P (pushed_conjuncts items)
  pure_pushed [] h = h
  pure_pushed (OfVar i ∷ items) h = pure_pushed items h
  pure_pushed (OfConj c ∷ items) h =
      All-cons P c (pushed_conjuncts items) (All-head P c [] (All-right P (conjuncts_in items) (c ∷ []) h)) (pure_pushed items (All-left P (conjuncts_in items) (c ∷ []) h))
  pure_pushed (OfApart x ∷ items) h = pure_pushed items h

  -- of each of the places
  each_differs : (x : ℕ) (ys : List ℕ) → Each P (map (differ x) ys) → Each (λ y. P (differ x y)) ys
  each_differs x [] h = tt
  each_differs x (y ∷ ys) h = (h.0, each_differs x ys h.1)

  -- of some of the others
  some_differ : (a : Atom) (others : List Atom) → Each (λ y. P (differ a.place.0 y)) (places_of others) →
      Each P (map (λ (b : Atom). OtherPlace (place.Var a.place) (place.Var b.place)) (filter (same_block a) others))
  some_differ a [] h = tt
  some_differ a (b ∷ others) h = by (same_block a b) (some_differ a others h.1)
    where
      by : (yes : Bool) → EachDiffers P a (filter (same_block a) others) → EachDiffers P a (cond yes (b ∷ filter (same_block a) others) (filter (same_block a) others))
      by true r = (h.0, r)
      by false r = r

  -- what a place apart says is said of the last block
  said_of : (x : ℕ) (a : Atom) (fs : List Atom) → x ≡ a.place.0 → All (λ y. P (differ x y)) (places_of fs) → P (not_null x) → Each P (apart_from fs a)
  said_of x a fs e h n = (subst (λ z. P (not_null z)) e n, some_differ a fs (subst (λ z. Each (λ y. P (differ z y)) (places_of fs)) e (all_each _ (places_of fs) h)))

  -- what is held is assumed of blocks
  held_separate : (items : List HeldItem) (fs : List Atom) → places_in items ≡ places_of fs → All P (held_conjuncts items) → All P (apart_all [] fs)
  held_separate [] [] e h = All-nil P
  held_separate [] (a ∷ fs) e h = cc
  held_separate (OfVar i ∷ items) fs e h = held_separate items fs e h
  held_separate (OfConj c ∷ items) fs e h = held_separate items fs e (All-tail P c (held_conjuncts items) h)
  held_separate (OfApart x ∷ items) fs e h =
      let l = last_of (places_in items) x fs e in
      let own = All-left P (apart_conjuncts x (held_apart items)) (held_conjuncts items) h in
      let rest = All-right P (apart_conjuncts x (held_apart items)) (held_conjuncts items) h in
      let n = All-head P (not_null x) (map (differ x) (held_apart items)) own in
      let ds : All (λ y. P (differ x y)) (held_apart items) =
      each_all _ (held_apart items) (each_differs x (held_apart items) (all_each P (map (differ x) (held_apart items)) (All-tail P (not_null x) (map (differ x) (held_apart items)) own))) in
      let ps : All (λ y. P (differ x y)) (places_of l.before) = subst (All (λ y. P (differ x y))) l.places (apart_places (λ y. P (differ x y)) items ds) in
      subst (λ z. All P (apart_all [] z)) (sym l.blocks)
      (subst (All P) (sym (apart_last [] l.before l.last))
      (All-append P (apart_all [] l.before) (apart_from l.before l.last) (held_separate items l.before l.places rest)
      (each_all P (apart_from l.before l.last) (said_of x l.last l.before l.place_is ps n))))

-- What is assumed of blocks is held, where any two blocks of two types differ that aren't null.
module _ (P : Conj → Type 0) (Such : Atom → Type 0)
    (others : (a b : Atom) → Such a → Such b → same_block a b ≡ false → P (not_null a.place.0) → P (not_null b.place.0) → P (differ a.place.0 b.place.0)) where
  abbrev Apart : Atom → Type 0
  Apart a = Such a × P (not_null a.place.0)

  all_differ : (a : Atom) (fs : List Atom) → Apart a → Each Apart fs → Each P (map (λ (b : Atom). OtherPlace (place.Var a.place) (place.Var b.place)) (filter (same_block a) fs)) →
      Each (λ y. P (differ a.place.0 y)) (places_of fs)
  all_differ a [] h k e = tt
  all_differ a (b ∷ fs) h k e = by (same_block a b) refl e (all_differ a fs h k.1)
    where
      by : (yes : Bool) → same_block a b ≡ yes → EachDiffers P a (cond yes (b ∷ filter (same_block a) fs) (filter (same_block a) fs)) →
          (EachDiffers P a (filter (same_block a) fs) → Each (λ y. P (differ a.place.0 y)) (places_of fs)) → Each (λ y. P (differ a.place.0 y)) (places_of (b ∷ fs))
      by true q e r = (e.0, r e.1)
      by false q e r = (others a b h.0 k.0.0 q h.1 k.0.1, r e)

  -- each is a block
  not_nulls : (earlier fs : List Atom) → Each Such fs → All P (apart_all earlier fs) → Each Apart fs
  not_nulls earlier [] s h = tt
  not_nulls earlier (a ∷ fs) s h = (
    (s.0, All-head P _ _ (All-left P (apart_from earlier a) (apart_all (earlier ++ a ∷ []) fs) h)),
    not_nulls (earlier ++ a ∷ []) fs s.1 (All-right P (apart_from earlier a) (apart_all (earlier ++ a ∷ []) fs) h),
  )

  each_left : (xs ys : List Atom) → Each Such (xs ++ ys) → Each Such xs
  each_left [] ys h = tt
  each_left (x ∷ xs) ys h = (h.0, each_left xs ys h.1)

  each_right : (xs ys : List Atom) → Each Such (xs ++ ys) → Each Such ys
  each_right [] ys h = h
  each_right (x ∷ xs) ys h = each_right xs ys h.1

  assumed_held : (items : List HeldItem) (fs : List Atom) → places_in items ≡ places_of fs → Each Such fs → All P (conjuncts_in items) → All P (apart_all [] fs) → All P (held_conjuncts items)
  assumed_held [] fs e s p h = All-nil P
  assumed_held (OfVar i ∷ items) fs e s p h = assumed_held items fs e s p h
  assumed_held (OfConj c ∷ items) fs e s p h =
      All-cons P c (held_conjuncts items) (All-head P c [] (All-right P (conjuncts_in items) (c ∷ []) p)) (assumed_held items fs e s (All-left P (conjuncts_in items) (c ∷ []) p) h)
  assumed_held (OfApart x ∷ items) fs e s p h =
      let l = last_of (places_in items) x fs e in
      let such : Each Such (l.before ++ l.last ∷ []) = subst (Each Such) l.blocks s in
      let all : All P (apart_all [] l.before ++ apart_from l.before l.last) = subst (All P) (apart_last [] l.before l.last) (subst (λ z. All P (apart_all [] z)) l.blocks h) in
      let earlier = All-left P (apart_all [] l.before) (apart_from l.before l.last) all in
      let own = All-right P (apart_all [] l.before) (apart_from l.before l.last) all in
      let n : P (not_null l.last.place.0) = All-head P _ _ own in
      let ds = all_differ l.last l.before ((each_right l.before (l.last ∷ []) such).0, n) (not_nulls [] l.before (each_left l.before (l.last ∷ []) such) earlier) (all_each P _ (All-tail P _ _ own)) in
      let ps : All (λ y. P (differ l.last.place.0 y)) (held_apart items) =
      places_apart (λ y. P (differ l.last.place.0 y)) items (subst (All (λ y. P (differ l.last.place.0 y))) (sym l.places) (each_all _ (places_of l.before) ds)) in
      All-append P (apart_conjuncts x (held_apart items)) (held_conjuncts items)
      (subst (λ z. All P (apart_conjuncts z (held_apart items))) (sym l.place_is)
      (All-cons P (not_null l.last.place.0) (map (differ l.last.place.0) (held_apart items)) n (each_all P _ (map_of_each P (differ l.last.place.0) (held_apart items) (all_each _ (held_apart items) ps)))))
      (assumed_held items l.before l.places (each_left l.before (l.last ∷ []) such) p earlier)

-- ---- blocks of two types

-- the place of the block is a pointer to its type
abbrev pub IsPlaced : List VarInfo → Atom → Type 0
IsPlaced vars a = (i : VarInfo) × (slice_get vars a.place.0 ≡ Some i) × (i.value ≡ Pointer a.block)

pub placed : (vars : List VarInfo) (a : Atom) → is_placed vars a ≡ true → IsPlaced vars a
placed vars a e = by (slice_get vars a.place.0) refl e
  where
    pointer_to : (t : ValueType) (b : TypeId) → same_type t (Pointer b) ≡ true → t ≡ Pointer b
    pointer_to Int b e = cc
    pointer_to (Pointer s) b e = ap (λ n. Pointer (record { 0 = n })) (eqb-true s.0 b.0 e)

    by : (o : Option VarInfo) → slice_get vars a.place.0 ≡ o → is_some_and o (λ (i : VarInfo). same_type i.value (Pointer a.block)) ≡ true → IsPlaced vars a
    by None g e = cc
    by (Some i) g e = (i, g, pointer_to i.value a.block e)

two_types : (vars : List VarInfo) (v : Valuation) → Fits vars v → (a b : Atom) → IsPlaced vars a → IsPlaced vars b → same_block a b ≡ false →
    IsTrueUnder v (not_null a.place.0) → IsTrueUnder v (not_null b.place.0) → IsTrueUnder v (differ a.place.0 b.place.0)
two_types vars v f a b (i, g, t) (k, h, u) n p q = (
  (p.0.0, q.0.0),
  λ e. let (m, c) = block_of (v a.place.0) p.0.0 p.1 in
      never_both (same_block a b) (same_number a.block.0 b.block.0 (ap (λ (z : TypeId). z.0) (f.types a.place.0 b.place.0 i k a.block b.block m g h t u c (sym e ∙ c)))) n,
)
  where
    -- a place that isn't null is a block
    block_of : (v : Value) → IsPlace v → v ≢ value.Null → (b : ℕ) × (v ≡ value.Block b)
    block_of (value.Word z) p n = absurd p
    block_of value.Null p n = absurd (n refl)
    block_of (value.Block b) p n = (b, refl)
    block_of value.Unwritten p n = absurd p

-- ---- refuted

found_each : (vars : List VarInfo) (Such : Atom → Type 0) (atoms : List Atom) → Each Such atoms → Each Such (found_atoms vars atoms)
found_each vars Such [] h = tt
found_each vars Such (a ∷ atoms) h = by (not (is_made vars a.place.0)) (found_each vars Such atoms h.1)
  where
    by : (yes : Bool) → Each Such (found_atoms vars atoms) → Each Such (cond yes (a ∷ found_atoms vars atoms) (found_atoms vars atoms))
    by true r = (h.0, r)
    by false r = r

-- what a state assumes is held
assumed_all : (P : Conj → Type 0) (s : State) (items : List HeldItem) → AreOf s items → All P (held_conjuncts items) → All P (constraint s)
assumed_all P s items o h =
    All-append P s.pure (separate s.vars s.atoms) (subst (All P) o.pure (held_pure P items h)) (held_separate P items (found_atoms s.vars s.atoms) o.places h)

pub assumed_refuted : (s : State) (items : List HeldItem) (kinds : List ℕ) → AreOf s items → IsRefuted s.vars (constraint s) kinds → IsRefuted (held_vars items) (held_conjuncts items) kinds
assumed_refuted s items kinds o r =
    subst (λ vars. IsRefuted vars (held_conjuncts items) kinds) (append-nil s.vars ∙ sym o.vars)
    (refuted_stays.grows s.vars [] (constraint s) (held_conjuncts items) kinds (assumed_all (Contains (held_conjuncts items)) s items o (All-contains_itself (held_conjuncts items))) r)

plainly_refuted : (s : State) (items : List HeldItem) → AreOf s items → list_all (is_placed s.vars) s.atoms ≡ true → IsPlainlyRefuted s.vars (held_conjuncts items) → IsPlainlyRefuted s.vars (constraint s)
plainly_refuted s items o t r = λ v f m.
    let P = λ (c : Conj). IsPlain c → IsTrueUnder v c in
    let such = found_each s.vars (IsPlaced s.vars) s.atoms (each_from (is_placed s.vars) (IsPlaced s.vars) (placed s.vars) s.atoms t) in
    r v f
    (assumed_held P (IsPlaced s.vars) (λ a b i k n p q d. two_types s.vars v f a b i k n (p tt) (q tt)) items (found_atoms s.vars s.atoms) o.places such
    (subst (All P) (sym o.pure) (All-left P s.pure (separate s.vars s.atoms) m)) (All-right P s.pure (separate s.vars s.atoms) m))

pushed_among : (s : State) (items : List HeldItem) → AreOf s items → All (Contains (constraint s)) (pushed_conjuncts items)
pushed_among s items o =
    pure_pushed (Contains (constraint s)) items (subst (All (Contains (constraint s))) (sym o.pure) (All-left (Contains (constraint s)) s.pure (separate s.vars s.atoms) (All-contains_itself (constraint s))))

pub held_refuted : (s : State) (items : List HeldItem) (kinds : List ℕ) → AreOf s items → list_all (is_placed s.vars) s.atoms ≡ true →
    IsRefuted (held_vars items) (held_conjuncts items) kinds → IsRefuted s.vars (constraint s) kinds
held_refuted s items kinds o t (inl r) = inl (plainly_refuted s items o t (subst (λ vars. IsPlainlyRefuted vars (held_conjuncts items)) o.vars r))
held_refuted s items kinds o t (inr r) =
    subst (λ vars. IsRefuted vars (constraint s) kinds) (append-nil s.vars)
    (refuted_stays.grows s.vars [] (pushed_conjuncts items) (constraint s) kinds (pushed_among s items o) (inr ((some_rule_held kinds items).1 r)))
