-- What a state has more than an earlier one, and that it may be put on.
use Rattle.std.proofs.Common.{◌≡◌, ℕ, zero, suc, ◌+◌, ◌<◌, ◌≤◌, List, [], ◌∷◌, ◌++◌, length, get_or, take, drop, Bool, true, false, not, cond, Option, slice_get, refl, ap, sym, ◌∙◌, subst, arith, append_assoc, append-nil, length-append}
use Rattle.std.specs.Prelude.{All, filter, Result, Ok, Err, OnOk, IfErr}
use Rattle.std.proofs.Math.Seq.{drop-cons}
use Rattle.std.proofs.lemmas.List.{length-map, map-append, take-append-drop, take-map, drop_all, get_or_default}
use Rattle.std.proofs.lemmas.List.Elements.{filter-append}
use Rattle.px_terms.specs.Conjuncts.{IsWellSorted, IsPointerVariable}
use Rattle.px_terms.specs.declared.variables.VarInfo.{VarInfo}
use Rattle.px_terms.specs.declared.conjuncts.Conj.{Conj}
use Rattle.px_terms.proofs.Evaluation.{All-left, All-right}
use Rattle.px_plain.specs.Held.{HeldItem, OfVar, OfApart, held_vars, held_count}
use Rattle.px_entry.specs.declared.atoms.Atom.{Atom}
use Rattle.px_entry.specs.Sorts.{is_made, is_made_sort, is_some_and}
use Rattle.px_entry.specs.Constraint.{found_atoms, apart_from, apart_all, separate}
use Rattle.px_entry.proofs.Lists.{Each, all_each, each_all}
use Rattle.px_callgraph.specs.declared.states.State.{State}
use Rattle.px_callgraph.specs.Laws.{IsAskable}
use Rattle.px_explore.specs.declared.trail.Trail.{Trail}
use Rattle.px_explore.specs.Trails.{conjuncts_in, places_in, IsStacked, IsOn, AreUpon, Stacks, PutsOn, places_of, found_places, AreOf, IsAfter, IsKept, IsAt, IsBehind, Reaches}
use Rattle.px_explore.specs.Pushes.{TakesVars, TakesConjuncts, TakesPlace, TakesPlaces}
use Rattle.px_explore.proofs.TrailLemmas.{parts_of, stacks_none, stacks_on, upon_more, upon_place, stacks_var, IsDone, done_next, done_few}
use Rattle.px_explore.proofs.HeldLemmas.{count_is}

-- ---- the places of blocks that aren't made

abbrev is_found : List VarInfo → ℕ → Bool
is_found vars x = not (is_made vars x)

found_is : (vars : List VarInfo) (atoms : List Atom) → found_places vars atoms ≡ filter (is_found vars) (places_of atoms)
found_is vars [] = refl
found_is vars (a ∷ atoms) =
    by (is_found vars a.place.0) (found_atoms vars atoms) ∙ ap (λ z. cond (is_found vars a.place.0) (a.place.0 ∷ z) z) (found_is vars atoms)
  where
    by : (yes : Bool) (rest : List Atom) → places_of (cond yes (a ∷ rest) rest) ≡ cond yes (a.place.0 ∷ places_of rest) (places_of rest)
    by true rest = refl
    by false rest = refl

pub found_more : (vars : List VarInfo) (us bs : List Atom) → found_places vars (us ++ bs) ≡ found_places vars us ++ found_places vars bs
found_more vars us bs =
    found_is vars (us ++ bs) ∙ ap (filter (is_found vars)) (map-append (λ (a : Atom). a.place.0) us bs) ∙ filter-append (is_found vars) (places_of us) (places_of bs)
    ∙ ap (λ z. z ++ filter (is_found vars) (places_of bs)) (sym (found_is vars us)) ∙ ap (λ z. found_places vars us ++ z) (sym (found_is vars bs))

found_same : (vars more : List VarInfo) (x : ℕ) → x < length vars → is_found (vars ++ more) x ≡ is_found vars x
found_same vars more x l = ap (λ z. not (made z)) (get_more vars more x l)
  where
    made : Option VarInfo → Bool
    made o = is_some_and o (λ i. is_made_sort i.sort)

    get_more : (vars more : List VarInfo) (x : ℕ) → x < length vars → slice_get (vars ++ more) x ≡ slice_get vars x
    get_more [] more x l = let n : ⊥ = omega arith in absurd n
    get_more (i ∷ vars) more zero l = refl
    get_more (i ∷ vars) more (suc x) l = get_more vars more x (omega arith)

filter_same : (vars more : List VarInfo) (atoms : List Atom) → Each (λ (a : Atom). a.place.0 < length vars) atoms →
    filter (is_found (vars ++ more)) (places_of atoms) ≡ filter (is_found vars) (places_of atoms)
filter_same vars more [] h = refl
filter_same vars more (a ∷ atoms) h =
    ap (λ z. cond z (a.place.0 ∷ filter (is_found (vars ++ more)) (places_of atoms)) (filter (is_found (vars ++ more)) (places_of atoms))) (found_same vars more a.place.0 h.0)
    ∙ ap (λ z. cond (is_found vars a.place.0) (a.place.0 ∷ z) z) (filter_same vars more atoms h.1)

-- ---- few conjuncts and places

longer : (earlier fs : List Atom) → length fs ≤ length (apart_all earlier fs)
longer earlier [] = omega arith
longer earlier (a ∷ fs) =
    let h = longer (earlier ++ a ∷ []) fs in
    let e : length (apart_all earlier (a ∷ fs)) ≡ length (apart_from earlier a) + length (apart_all (earlier ++ a ∷ []) fs) = length-append (apart_from earlier a) (apart_all (earlier ++ a ∷ []) fs) in
    omega (arith, h, e)

pub few : (s : State) → IsAskable s → length s.pure + length (found_places s.vars s.atoms) ≤ 65536
few s h =
    let e : length (s.pure ++ separate s.vars s.atoms) ≡ length s.pure + length (separate s.vars s.atoms) = length-append s.pure (separate s.vars s.atoms) in
    let m : length (found_places s.vars s.atoms) ≡ length (found_atoms s.vars s.atoms) = length-map (found_atoms s.vars s.atoms) _ in
    let l = longer [] (found_atoms s.vars s.atoms) in
    let f = h.few_conjuncts in omega (arith, e, m, l, f)

-- ---- pointers

not_nulls : (vars : List VarInfo) (earlier fs : List Atom) → All (IsWellSorted vars) (apart_all earlier fs) → Each (λ (a : Atom). IsPointerVariable vars a.place.0) fs
not_nulls vars earlier [] h = tt
not_nulls vars earlier (a ∷ fs) h = (
  (all_each (IsWellSorted vars) (apart_from earlier a) (All-left (IsWellSorted vars) (apart_from earlier a) (apart_all (earlier ++ a ∷ []) fs) h)).0.0,
  not_nulls vars (earlier ++ a ∷ []) fs (All-right (IsWellSorted vars) (apart_from earlier a) (apart_all (earlier ++ a ∷ []) fs) h),
)

each_found : (vars : List VarInfo) (P : Atom → Type 0) (atoms : List Atom) → Each P (found_atoms vars atoms) → Each (λ (a : Atom). is_made vars a.place.0 ≡ false → P a) atoms
each_found vars P [] h = tt
each_found vars P (a ∷ atoms) h = by (is_made vars a.place.0) refl h (each_found vars P atoms)
  where
    by : (made : Bool) → is_made vars a.place.0 ≡ made → Each P (cond (not made) (a ∷ found_atoms vars atoms) (found_atoms vars atoms)) →
        (Each P (found_atoms vars atoms) → Each (λ (b : Atom). is_made vars b.place.0 ≡ false → P b) atoms) →
        (is_made vars a.place.0 ≡ false → P a) × Each (λ (b : Atom). is_made vars b.place.0 ≡ false → P b) atoms
    by true e h r = (λ f. cc, r h)
    by false e h r = (λ f. h.0, r h.1)

pub pointers : (s : State) → IsAskable s → All (λ (a : Atom). is_made s.vars a.place.0 ≡ false → IsPointerVariable s.vars a.place.0) s.atoms
pointers s h =
    each_all _ s.atoms (each_found s.vars (λ (a : Atom). IsPointerVariable s.vars a.place.0) s.atoms
    (not_nulls s.vars [] (found_atoms s.vars s.atoms) (All-right (IsWellSorted s.vars) s.pure (separate s.vars s.atoms) h.sorted)))

-- ---- what a state has more than an earlier one

module _ (old : Trail) (D : List Conj → Type 0) (s t : State) (items : List HeldItem) (at : IsAt old D s items) (after : IsAfter s t) (ask : IsAskable t) where
  vars_split : (held_vars items ≡ take old.vars t.vars) × (held_vars items ++ drop old.vars t.vars ≡ t.vars)
  vars_split = parts_of (held_vars items) s.vars after.vars.0 t.vars old.vars at.of.vars at.vars after.vars.1

  pure_split : (conjuncts_in items ≡ take old.pure t.pure) × (conjuncts_in items ++ drop old.pure t.pure ≡ t.pure)
  pure_split = parts_of (conjuncts_in items) s.pure after.pure.0 t.pure old.pure at.of.pure at.pure after.pure.1

  -- the first blocks of the state are those of the earlier one
  first_places : places_of (take old.atoms t.atoms) ≡ places_of s.atoms
  first_places =
      let n : old.atoms ≡ length (places_of s.atoms) = at.atoms ∙ sym (length-map s.atoms _) in
      sym (take-map (λ (a : Atom). a.place.0) old.atoms t.atoms) ∙ sym (parts_of (places_of s.atoms) (places_of s.atoms) after.places.0 (places_of t.atoms) old.atoms refl n after.places.1).0

  places_taken : places_in items ≡ found_places t.vars (take old.atoms t.atoms)
  places_taken =
      at.of.places ∙ found_is s.vars s.atoms ∙ sym (filter_same s.vars after.vars.0 s.atoms (all_each _ s.atoms at.places))
      ∙ ap (λ z. filter (is_found z) (places_of s.atoms)) (sym after.vars.1) ∙ ap (filter (is_found t.vars)) (sym first_places) ∙ sym (found_is t.vars (take old.atoms t.atoms))

  places_split : places_in items ++ found_places t.vars (drop old.atoms t.atoms) ≡ found_places t.vars t.atoms
  places_split =
      ap (λ z. z ++ found_places t.vars (drop old.atoms t.atoms)) places_taken ∙ sym (found_more t.vars (take old.atoms t.atoms) (drop old.atoms t.atoms))
      ∙ ap (found_places t.vars) (take-append-drop old.atoms t.atoms)

  few_places : length t.pure + length (places_in items) ≤ 65536
  few_places =
      let f = few t ask in
      let e : length (places_in items) + length (found_places t.vars (drop old.atoms t.atoms)) ≡ length (found_places t.vars t.atoms) =
      sym (length-append (places_in items) (found_places t.vars (drop old.atoms t.atoms))) ∙ ap length places_split in omega (arith, f, e)

  pub takes_vars : TakesVars old t.vars old.vars
  takes_vars = record { items = items; stacked = at.on.stacked; vars_are = vars_split.0; few = ask.few_variables }

  module _ (one : Trail) (vs : Stacks old one (drop old.vars t.vars) []) where
    pub takes_conjuncts : TakesConjuncts one D t.pure old.pure
    takes_conjuncts =
        let (all, k, u) = stacks_on old one D (drop old.vars t.vars) [] items vs at.on in
        let v : held_vars all ≡ t.vars = u.vars_are ∙ vars_split.1 in record {
          items = all;
          on = k;
          pure_is = u.pure_is ∙ append-nil (conjuncts_in items) ∙ pure_split.0;
          sorted = subst (λ z. All (IsWellSorted z) t.pure) (sym v) (All-left (IsWellSorted t.vars) t.pure (separate t.vars t.atoms) ask.sorted);
          few_vars = subst (λ z. length z ≤ 65536) (sym v) ask.few_variables;
          few = subst (λ z. length t.pure + length z ≤ 65536) (sym (u.places_are ∙ append-nil (places_in items))) few_places;
        }

    module _ (two : Trail) (E : List Conj → Type 0) (ps : PutsOn one D two E (drop old.pure t.pure)) where
      -- what is held then
      then_held : (all : List HeldItem) × IsOn two E all × AreUpon items all (drop old.vars t.vars) (drop old.pure t.pure) []
      then_held =
          let (mid, k, u) = stacks_on old one D (drop old.vars t.vars) [] items vs at.on in
          let (all, l, w) = ps mid k in (
            all,
            l,
            subst (λ z. AreUpon items all z (drop old.pure t.pure) []) (append-nil (drop old.vars t.vars)) (upon_more items mid all (drop old.vars t.vars) [] [] (drop old.pure t.pure) [] [] u w),
          )

      pub takes_places : TakesPlaces two t.vars t.atoms old.atoms
      takes_places =
          let (all, k, u) = then_held in record {
            items = all;
            stacked = k.stacked;
            vars_are = u.vars_are ∙ vars_split.1;
            places_are = u.places_are ∙ append-nil (places_in items) ∙ places_taken;
            pointers = pointers t ask;
            few = subst (λ z. length z + length (found_places t.vars t.atoms) ≤ 65536) (sym (u.pure_is ∙ pure_split.1)) (few t ask);
          }

      pub reached_all : (new : Trail) → Stacks two new [] (found_places t.vars (drop old.atoms t.atoms)) → (above : List HeldItem) × IsOn new E (above ++ items) × AreOf t (above ++ items)
      reached_all new xs =
          let (mid, k, u) = then_held in
          let (all, l, w) = stacks_on two new E [] (found_places t.vars (drop old.atoms t.atoms)) mid xs k in
          let v = upon_more items mid all (drop old.vars t.vars) [] (drop old.pure t.pure) [] [] (found_places t.vars (drop old.atoms t.atoms)) u w in
          let vars : held_vars all ≡ t.vars = v.vars_are ∙ ap (λ z. held_vars items ++ z) (append-nil (drop old.vars t.vars)) ∙ vars_split.1 in
          let pure : conjuncts_in all ≡ t.pure = v.pure_is ∙ ap (λ z. conjuncts_in items ++ z) (append-nil (drop old.pure t.pure)) ∙ pure_split.1 in
          (v.above, subst (IsOn new E) v.all_is l, subst (AreOf t) v.all_is (record { vars = vars; pure = pure; places = v.places_are ∙ places_split }))

-- ---- the next item of a list

pub vars_next : (a b : Trail) (vars : List VarInfo) (from n : ℕ) (done : List VarInfo) → TakesVars a vars from → Stacks a b done [] → IsDone done from n vars → n < length vars →
    (items : List HeldItem) × IsStacked b items × (length (held_vars items) < 65536)
vars_next a b vars from n done t f d l =
    let (all, k, u) = f t.items t.stacked in
    let e : held_vars all ≡ take from vars ++ done = u.vars_are ∙ ap (λ z. z ++ done) t.vars_are in
    let m : length (held_vars all) ≡ length (take from vars ++ done) = ap length e in
    let w = done_few done vars from n l d in
    let f = t.few in (all, k, omega (arith, m, w, f))

-- the next one was put on
pub vars_put : (a b c : Trail) (vars : List VarInfo) (from n : ℕ) (d : VarInfo) → n < length vars → (done : List VarInfo) × Stacks a b done [] × IsDone done from n vars →
    ((items : List HeldItem) → IsStacked b items → IsStacked c (OfVar (get_or vars n d) ∷ items)) → (done : List VarInfo) × Stacks a c done [] × IsDone done from (n + 1) vars
vars_put a b c vars from n d l (done, s, h) f =
    let i = get_or vars n d in (done ++ i ∷ [], stacks_var a b c done i s f, done_next done vars from n i l (get_or_default vars n d i l) h)

pub conjuncts_next : (a : Trail) (A : List Conj → Type 0) (b : Trail) (B : List Conj → Type 0) (pure : List Conj) (from n : ℕ) (c : Conj) (done : List Conj) → TakesConjuncts a A pure from → PutsOn a A b B done →
    IsDone done from n pure → n < length pure → c ≡ get_or pure n c →
    (items : List HeldItem) × IsOn b B items × (length (held_vars items) ≤ 65536) × IsWellSorted (held_vars items) c × (held_count items < 65536)
conjuncts_next a A b B pure from n c done t f d l g =
    let (all, k, u) = f t.items t.on in
    let v : held_vars t.items ≡ held_vars all = sym (u.vars_are ∙ append-nil (held_vars t.items)) in
    let e : length (conjuncts_in all) ≡ length (take from pure ++ done) = ap length (u.pure_is ∙ ap (λ z. z ++ done) t.pure_is) in
    let p : length (places_in all) ≡ length (places_in t.items) = ap length (u.places_are ∙ append-nil (places_in t.items)) in
    let w = done_few done pure from n l d in
    let q = t.few in
    let m = count_is all in (
      all,
      k,
      subst (λ z. length z ≤ 65536) v t.few_vars,
      subst (λ z. IsWellSorted z c) v (subst (IsWellSorted (held_vars t.items)) (sym g) (t.sorted n c l)),
      omega (arith, m, e, p, w, q),
    )

-- the places of those up to a number were put on
abbrev pub ArePlaced : List VarInfo → List Atom → ℕ → ℕ → List ℕ → Type 0
ArePlaced vars atoms from n done = done ++ found_places vars (drop n atoms) ≡ found_places vars (drop from atoms)

next_found : (vars : List VarInfo) (atoms : List Atom) (n : ℕ) (a : Atom) → n < length atoms → a ≡ get_or atoms n a → found_places vars (drop n atoms) ≡ found_places vars (a ∷ []) ++ found_places vars (drop (n + 1) atoms)
next_found vars atoms n a l g =
    let e : suc n ≡ n + 1 = omega arith in
    ap (found_places vars) (drop-cons atoms n a l ∙ ap (λ z. z ∷ drop (suc n) atoms) (sym g) ∙ ap (λ z. a ∷ drop z atoms) e) ∙ found_more vars (a ∷ []) (drop (n + 1) atoms)

pub placed_next : (vars : List VarInfo) (atoms : List Atom) (from n : ℕ) (done : List ℕ) (a : Atom) → n < length atoms → a ≡ get_or atoms n a → ArePlaced vars atoms from n done →
    ArePlaced vars atoms from (n + 1) (done ++ found_places vars (a ∷ []))
placed_next vars atoms from n done a l g h =
    append_assoc done (found_places vars (a ∷ [])) (found_places vars (drop (n + 1) atoms)) ∙ ap (λ z. done ++ z) (sym (next_found vars atoms n a l g)) ∙ h

pub placed_all : (vars : List VarInfo) (atoms : List Atom) (from n : ℕ) (done : List ℕ) → length atoms ≤ n → ArePlaced vars atoms from n done → done ≡ found_places vars (drop from atoms)
placed_all vars atoms from n done l h = sym (append-nil done) ∙ ap (λ z. done ++ found_places vars z) (sym (drop_all n atoms l)) ∙ h

-- the place of a block that isn't made
found_one : (vars : List VarInfo) (a : Atom) → is_made vars a.place.0 ≡ false → found_places vars (a ∷ []) ≡ a.place.0 ∷ []
found_one vars a e = ap (λ z. places_of (cond (not z) (a ∷ []) [])) e

pub made_one : (vars : List VarInfo) (a : Atom) → is_made vars a.place.0 ≡ true → found_places vars (a ∷ []) ≡ []
made_one vars a e = ap (λ z. places_of (cond (not z) (a ∷ []) [])) e

pub places_next : (a b : Trail) (vars : List VarInfo) (atoms : List Atom) (from n : ℕ) (x : Atom) (done : List ℕ) → TakesPlaces a vars atoms from → Stacks a b [] done → ArePlaced vars atoms from n done →
    n < length atoms → x ≡ get_or atoms n x → TakesPlace b vars x
places_next a b vars atoms from n x done t f d l g =
    let (all, k, u) = f t.items t.stacked in
    let v : vars ≡ held_vars all = sym (u.vars_are ∙ append-nil (held_vars t.items) ∙ t.vars_are) in
    let c : length (conjuncts_in all) ≡ length (conjuncts_in t.items) = ap length (u.pure_is ∙ append-nil (conjuncts_in t.items)) in
    let first = found_places vars (take from atoms) in
    let p : length (places_in all) ≡ length first + length done = ap length (u.places_are ∙ ap (λ z. z ++ done) t.places_are) ∙ length-append first done in
    let rest = found_places vars (drop n atoms) in
    let r : length done + length rest ≡ length (found_places vars (drop from atoms)) = sym (length-append done rest) ∙ ap length d in
    let w : length first + length (found_places vars (drop from atoms)) ≡ length (found_places vars atoms) =
    sym (length-append first (found_places vars (drop from atoms))) ∙ ap length (sym (found_more vars (take from atoms) (drop from atoms)) ∙ ap (found_places vars) (take-append-drop from atoms)) in
    let m = count_is all in
    let q = t.few in record {
      items = all;
      stacked = k;
      found = λ e.
          let o : length rest ≡ suc (length (found_places vars (drop (n + 1) atoms))) =
          ap length (next_found vars atoms n x l g ∙ ap (λ z. z ++ found_places vars (drop (n + 1) atoms)) (found_one vars x e)) in
          (subst (λ z. IsPointerVariable z x.place.0) v (subst (λ (z : Atom). is_made vars z.place.0 ≡ false → IsPointerVariable vars z.place.0) (sym g) (t.pointers n x l) e), omega (arith, m, c, p, r, w, o, q));
    }

-- a block that isn't made is put on, and one that is made isn't
pub place_put : (a b : Trail) (vars : List VarInfo) (x : Atom) → is_made vars x.place.0 ≡ false → ((items : List HeldItem) → IsStacked a items → IsStacked b (OfApart x.place.0 ∷ items)) →
    Stacks a b [] (found_places vars (x ∷ []))
place_put a b vars x e f = subst (Stacks a b []) (sym (found_one vars x e)) (λ items h. (OfApart x.place.0 ∷ items, f items h, upon_place items x.place.0))

pub place_left : (a : Trail) (vars : List VarInfo) (x : Atom) → is_made vars x.place.0 ≡ true → Stacks a a [] (found_places vars (x ∷ []))
place_left a vars x e = subst (Stacks a a []) (sym (made_one vars x e)) (stacks_none a)

pub stacks_then : (a b c : Trail) (xs ys : List ℕ) → Stacks a b [] xs → Stacks b c [] ys → Stacks a c [] (xs ++ ys)
stacks_then a b c xs ys f g items h =
    let (mid, k, u) = f items h in
    let (all, l, w) = g mid k in (all, l, upon_more items mid all [] [] [] [] xs ys u w)

-- ---- clauses of `reach`

pub kept_stack : (a b : Trail) (D : List Conj → Type 0) (t : State) (vars : List VarInfo) (places : List ℕ) → IsBehind a D t → Stacks a b vars places → IsKept b D
kept_stack a b D t vars places (s, items, at, after) f = let (all, k, u) = stacks_on a b D vars places items f at.on in (all, k)

pub kept_on : (a b c : Trail) (D E : List Conj → Type 0) (t : State) (vars : List VarInfo) (pure : List Conj) → IsBehind a D t → Stacks a b vars [] → PutsOn b D c E pure → IsKept c E
kept_on a b c D E t vars pure (s, items, at, after) f g =
    let (mid, k, u) = stacks_on a b D vars [] items f at.on in
    let (all, l, w) = g mid k in (all, l)

pub kept_then : (a b c d : Trail) (D E : List Conj → Type 0) (t : State) (vars : List VarInfo) (pure : List Conj) (places : List ℕ) → IsBehind a D t → Stacks a b vars [] → PutsOn b D c E pure → Stacks c d [] places →
    IsKept d E
kept_then a b c d D E t vars pure places (s, items, at, after) f g h =
    let (mid, k, u) = stacks_on a b D vars [] items f at.on in
    let (all, l, w) = g mid k in
    let (more, m, x) = stacks_on c d E [] places all h l in (more, m)

-- by an answer or the other
pub either_way : {X E : Type 0} {A C : Type 0} (B : E → Type 0) (r : Result X E) → OnOk r A → IfErr r B → (A → C) → ((e : E) → B e → C) → C
either_way B (Ok x) a b f g = f a
either_way B (Err e) a b f g = g e b

pub behind_vars : (old : Trail) (D : List Conj → Type 0) (t : State) → IsAskable t → IsBehind old D t → TakesVars old t.vars old.vars
behind_vars old D t ask (s, items, at, after) = takes_vars old D s t items at after ask

pub behind_conjuncts : (old one : Trail) (D : List Conj → Type 0) (t : State) → IsAskable t → IsBehind old D t → Stacks old one (drop old.vars t.vars) [] → TakesConjuncts one D t.pure old.pure
behind_conjuncts old one D t ask (s, items, at, after) vs = takes_conjuncts old D s t items at after ask one vs

pub behind_places : (old one two : Trail) (D E : List Conj → Type 0) (t : State) → IsAskable t → IsBehind old D t → Stacks old one (drop old.vars t.vars) [] → PutsOn one D two E (drop old.pure t.pure) →
    TakesPlaces two t.vars t.atoms old.atoms
behind_places old one two D E t ask (s, items, at, after) vs ps = takes_places old D s t items at after ask one vs two E ps

pub reaches : (old one two new : Trail) (D E : List Conj → Type 0) (t : State) → IsAskable t → Stacks old one (drop old.vars t.vars) [] → PutsOn one D two E (drop old.pure t.pure) →
    Stacks two new [] (found_places t.vars (drop old.atoms t.atoms)) → Reaches old D new E t
reaches old one two new D E t ask vs ps xs s items at after = reached_all old D s t items at after ask one vs two E ps new xs

-- ---- of slices of its lists

module _ (old : Trail) (D : List Conj → Type 0) (t : State) (ask : IsAskable t) (vars : List VarInfo) (pure : List Conj) (atoms : List Atom) (v : vars ≡ t.vars) where
  pub slice_vars : IsBehind old D t → TakesVars old vars old.vars
  slice_vars b = subst (λ z. TakesVars old z old.vars) (sym v) (behind_vars old D t ask b)

  module _ (one : Trail) (vs : Stacks old one (drop old.vars vars) []) (p : pure ≡ t.pure) where
    vars_there : Stacks old one (drop old.vars t.vars) []
    vars_there = subst (λ z. Stacks old one (drop old.vars z) []) v vs

    pub slice_conjuncts : IsBehind old D t → TakesConjuncts one D pure old.pure
    slice_conjuncts b = subst (λ z. TakesConjuncts one D z old.pure) (sym p) (behind_conjuncts old one D t ask b vars_there)

    module _ (two : Trail) (E : List Conj → Type 0) (ps : PutsOn one D two E (drop old.pure pure)) (others : List VarInfo) (o : others ≡ t.vars) (a : atoms ≡ t.atoms) where
      pure_there : PutsOn one D two E (drop old.pure t.pure)
      pure_there = subst (λ z. PutsOn one D two E (drop old.pure z)) p ps

      pub slice_places : IsBehind old D t → TakesPlaces two others atoms old.atoms
      slice_places b =
          subst (λ z. TakesPlaces two z atoms old.atoms) (sym o) (subst (λ z. TakesPlaces two t.vars z old.atoms) (sym a) (behind_places old one two D E t ask b vars_there pure_there))

      pub slice_reaches : (new : Trail) → Stacks two new [] (found_places others (drop old.atoms atoms)) → Reaches old D new E t
      slice_reaches new xs =
          reaches old one two new D E t ask vars_there pure_there (subst (λ z. Stacks two new [] (found_places t.vars (drop old.atoms z))) a (subst (λ z. Stacks two new [] (found_places z (drop old.atoms atoms))) o xs))
