-- A constraint that is true places the atoms.
use Rattle.std.proofs.Common.{◌≡◌, ◌≢◌, ◌⊎◌, ℕ, Bool, true, false, not, cond, Some, None, List, [], ◌∷◌, ◌++◌, map, slice_get, refl, sym, ap, ◌∙◌, subst, inl, inr}
use Rattle.std.specs.Prelude.{filter}
use Rattle.std.proofs.lemmas.Bool.{eqb-true, eq-eqb}
use Rattle.px_terms.specs.Valuations.{Valuation, IsPlace, Fits}
use Rattle.px_terms.specs.Conjuncts.{IsTrueUnder}
use Rattle.px_terms.specs.declared.types.Value.{Value}
use Rattle.px_terms.specs.declared.types.Value.TheVariants as value
use Rattle.px_terms.specs.declared.types.TypeId.{TypeId}
use Rattle.px_terms.specs.declared.types.BlockType.{BlockType}
use Rattle.px_terms.specs.declared.types.ValueType.{ValueType}
use Rattle.px_terms.specs.declared.types.ValueType.TheVariants.{Int, Pointer}
use Rattle.px_terms.specs.declared.variables.VarInfo.{VarInfo}
use Rattle.px_terms.specs.declared.conjuncts.Place.TheVariants as place
use Rattle.px_terms.specs.declared.conjuncts.Conj.{Conj}
use Rattle.px_terms.specs.declared.conjuncts.Conj.TheVariants.{OtherPlace}
use Rattle.px_entry.specs.declared.atoms.Atom.{Atom}
use Rattle.px_entry.specs.Sorts.{same_type, is_made}
use Rattle.px_entry.specs.Constraint.{found_atoms, same_block, apart_from, apart_all}
use Rattle.px_entry.proofs.Lists.{Each}
use Rattle.px_meaning.specs.Triples.{block_of, heap_of}
use Rattle.px_meaning.proofs.Joins.{with_other}
use Rattle.px_soundness.proofs.WellFormed.{GoodAtom, OwnPlaces}
use Rattle.px_soundness.proofs.AtomHeaps.{Placed, at_heap, heap_cons}
use Rattle.px_soundness.proofs.Truths.{variable_is, made_is, made_block}
use Rattle.px_callgraph.proofs.KeepLemmas.{each_weaker}
use Rattle.px_check.proofs.ValueLemmas.{each_split}

-- ---- lists

each_unmap : {A B : Type 0} (P : B → Type 0) (f : A → B) (xs : List A) → Each P (map f xs) → Each (λ x. P (f x)) xs
each_unmap P f [] h = tt
each_unmap P f (x ∷ xs) h = (h.0, each_unmap P f xs h.1)

each_unfilter : {A : Type 0} (P : A → Type 0) (test : A → Bool) (xs : List A) → Each P (filter test xs) → Each (λ x. test x ≡ true → P x) xs
each_unfilter P test [] h = tt
each_unfilter P test (x ∷ xs) h = by (test x) refl h (each_unfilter P test xs)
  where
    by : (b : Bool) → test x ≡ b → Each P (cond b (x ∷ filter test xs) (filter test xs)) → (Each P (filter test xs) → Each (λ x. test x ≡ true → P x) xs) → Each (λ x. test x ≡ true → P x) (x ∷ xs)
    by true is h rest = (λ e. h.0, rest h.1)
    by false is h rest = (λ e. absurd (let f : false ≡ true = sym is ∙ e in cc), rest h)

-- ---- pairs of found atoms

module _ (v : Valuation) where
  -- both have one block type, and so different places
  abbrev Differ : Atom → Atom → Type 0
  Differ a b = same_block a b ≡ true → v a.place.0 ≢ v b.place.0

  abbrev IsThere : Atom → Type 0
  IsThere a = (n : ℕ) × (v a.place.0 ≡ value.Block n)

  abbrev Pairs : List Atom → Type 0
  Pairs [] = Unit {0}
  Pairs (a ∷ rest) = IsThere a × Each (λ b. Differ b a) rest × Pairs rest

  there_from : (u : Value) → IsPlace u → u ≢ value.Null → (n : ℕ) × (u ≡ value.Block n)
  there_from (value.Word z) p d = absurd p
  there_from value.Null p d = absurd (d refl)
  there_from (value.Block n) p d = (n, refl)
  there_from value.Unwritten p d = absurd p

  crossed : (earlier xs : List Atom) → Each (IsTrueUnder v) (apart_all earlier xs) → Each (λ b. IsThere b × Each (Differ b) earlier) xs
  crossed earlier [] h = tt
  crossed earlier (b ∷ rest) h =
      let (own, later) = each_split (IsTrueUnder v) (apart_from earlier b) (apart_all (earlier ++ b ∷ []) rest) h in (
        (
          there_from (v b.place.0) own.0.0.0 own.0.1,
          each_weaker (λ (a : Atom). same_block b a ≡ true → IsTrueUnder v (OtherPlace (place.Var b.place) (place.Var a.place))) (Differ b) (λ a f e. (f e).1) earlier
              (each_unfilter (λ (a : Atom). IsTrueUnder v (OtherPlace (place.Var b.place) (place.Var a.place))) (same_block b) earlier
              (each_unmap (IsTrueUnder v) (λ (a : Atom). OtherPlace (place.Var b.place) (place.Var a.place)) (filter (same_block b) earlier) own.1)),
        ),
        each_weaker (λ c. IsThere c × Each (Differ c) (earlier ++ b ∷ [])) (λ c. IsThere c × Each (Differ c) earlier) (λ c q. (q.0, (each_split (Differ c) earlier (b ∷ []) q.1).0)) rest (crossed (earlier ++ b ∷ []) rest later),
      )

  pairs_of : (earlier xs : List Atom) → Each (IsTrueUnder v) (apart_all earlier xs) → Pairs xs
  pairs_of earlier [] h = tt
  pairs_of earlier (b ∷ rest) h =
      let (own, later) = each_split (IsTrueUnder v) (apart_from earlier b) (apart_all (earlier ++ b ∷ []) rest) h in (
        there_from (v b.place.0) own.0.0.0 own.0.1,
        each_weaker (λ c. IsThere c × Each (Differ c) (earlier ++ b ∷ [])) (λ c. Differ c b) (λ c q. (each_split (Differ c) earlier (b ∷ []) q.1).1.0) rest (crossed (earlier ++ b ∷ []) rest later),
        pairs_of (earlier ++ b ∷ []) rest later,
      )

-- ---- all atoms

type_is : (t : ValueType) (b : TypeId) → same_type t (Pointer b) ≡ true → t ≡ Pointer b
type_is Int b e = cc
type_is (Pointer c) b e = ap (λ n. Pointer (record { 0 = n })) (eqb-true c.0 b.0 e)

block_number : {n m : ℕ} → value.Block n ≡ value.Block m → n ≡ m
block_number e = cc

module _ (types : List BlockType) (vars : List VarInfo) (pure : List Conj) (v : Valuation) (fits : Fits vars v) where
  abbrev Own : Atom → Atom → Type 0
  Own a b = (is_made vars a.place.0 ≡ true) ⊎ (is_made vars b.place.0 ≡ true) → a.place.0 ≢ b.place.0

  -- two atoms have different blocks
  apart : (a b : Atom) → GoodAtom types vars pure a → GoodAtom types vars pure b → Own a b → (is_made vars a.place.0 ≡ false → is_made vars b.place.0 ≡ false → Differ v b a) → IsThere v a → v a.place.0 ≢ v b.place.0
  apart a b g h own differ there same =
      let (i, at, p) = variable_is vars _ a.place.0 g.points in
      let (k, at', q) = variable_is vars _ b.place.0 h.points in
      by i k at at' (type_is i.value a.block p) (type_is k.value b.block q) (is_made vars a.place.0) (is_made vars b.place.0) refl refl
    where
      by : (i k : VarInfo) → slice_get vars a.place.0 ≡ Some i → slice_get vars b.place.0 ≡ Some k → i.value ≡ Pointer a.block → k.value ≡ Pointer b.block →
          (m n : Bool) → is_made vars a.place.0 ≡ m → is_made vars b.place.0 ≡ n → ⊥
      by i k at at' t t' true n is is' = let (x, e, made) = made_is vars a.place.0 is in fits.made a.place.0 b.place.0 x k e at' made (own (inl is)) same
      by i k at at' t t' false true is is' = let (x, e, made) = made_is vars b.place.0 is' in fits.made b.place.0 a.place.0 x i e at made (λ eq. own (inr is') (sym eq)) (sym same)
      by i k at at' t t' false false is is' =
          let one : a.block ≡ b.block = fits.types a.place.0 b.place.0 i k a.block b.block there.0 at at' t t' there.1 (sym same ∙ there.1) in
          differ is is' (eq-eqb b.block.0 a.block.0 (sym (ap (λ (z : TypeId). z.0) one))) (sym same)

  none_of : (n : ℕ) (rest : List Atom) → Each (λ b. (m : ℕ) × (v b.place.0 ≡ value.Block m) × (n ≢ m)) rest → heap_of v rest n ≡ None
  none_of n [] h = refl
  none_of n (b ∷ rest) h = at_heap n (heap_cons v b rest h.0.0 h.0.1) ∙ with_other (heap_of v rest) h.0.0 (block_of v b) n h.0.2 ∙ none_of n rest h.1

  -- what is known of the found atoms among these
  abbrev Known : List Atom → Type 0
  Known atoms = Pairs v (found_atoms vars atoms)

  found_if : (a : Atom) (rest : List Atom) → Known (a ∷ rest) → (m : Bool) → is_made vars a.place.0 ≡ m →
      (m ≡ false → IsThere v a × Each (λ b. Differ v b a) (found_atoms vars rest)) × Known rest
  found_if a rest h m is = by m is (subst (λ q. Pairs v (cond (not q) (a ∷ found_atoms vars rest) (found_atoms vars rest))) is h)
    where
      by : (m : Bool) → is_made vars a.place.0 ≡ m → Pairs v (cond (not m) (a ∷ found_atoms vars rest) (found_atoms vars rest)) →
          (m ≡ false → IsThere v a × Each (λ b. Differ v b a) (found_atoms vars rest)) × Known rest
      by true is p = (λ e. absurd (let f : true ≡ false = e in cc), p)
      by false is p = (λ e. (p.0, p.1), p.2)

  there_is : (a : Atom) (rest : List Atom) → Known (a ∷ rest) → IsThere v a
  there_is a rest h = by (is_made vars a.place.0) refl
    where
      by : (m : Bool) → is_made vars a.place.0 ≡ m → IsThere v a
      by true is = made_block vars v a.place.0 fits is
      by false is = ((found_if a rest h false is).0 refl).0

  not_false : (b : Bool) → b ≡ false → not b ≡ true
  not_false true e = cc
  not_false false e = refl

  all_apart : (a : Atom) (n : ℕ) → v a.place.0 ≡ value.Block n → GoodAtom types vars pure a → (rest : List Atom) → Each (GoodAtom types vars pure) rest → Each (Own a) rest → Known rest →
      Each (λ b. not (is_made vars b.place.0) ≡ true → is_made vars a.place.0 ≡ false → Differ v b a) rest → Each (λ b. (m : ℕ) × (v b.place.0 ≡ value.Block m) × (n ≢ m)) rest
  all_apart a n at g [] h own known differ = tt
  all_apart a n at g (b ∷ rest) h own known differ =
      let (m, at') = there_is b rest known in (
        (m, at', λ same. apart a b g h.0 own.0 (λ f f'. differ.0 (not_false (is_made vars b.place.0) f') f) (n, at) (at ∙ ap value.Block same ∙ sym at')),
        all_apart a n at g rest h.1 own.1 (found_if b rest known (is_made vars b.place.0) refl).1 differ.1,
      )

  pub placed_of : (atoms : List Atom) → Each (GoodAtom types vars pure) atoms → OwnPlaces vars atoms → Known atoms → Placed v atoms
  placed_of [] g o k = tt
  placed_of (a ∷ rest) g o k =
      let (n, at) = there_is a rest k in
      let found = found_if a rest k (is_made vars a.place.0) refl in
      let differ = each_unfilter (λ (b : Atom). is_made vars a.place.0 ≡ false → Differ v b a) (λ (b : Atom). not (is_made vars b.place.0)) rest (later found.0) in
      (n, at, none_of n rest (all_apart a n at g.0 rest g.1 o.0 found.1 differ), placed_of rest g.1 o.1 found.1)
    where
      later : ((is_made vars a.place.0 ≡ false) → IsThere v a × Each (λ b. Differ v b a) (found_atoms vars rest)) → Each (λ (b : Atom). is_made vars a.place.0 ≡ false → Differ v b a) (found_atoms vars rest)
      later f = by (is_made vars a.place.0) refl f
        where
          all_true : (xs : List Atom) → is_made vars a.place.0 ≡ true → Each (λ (b : Atom). is_made vars a.place.0 ≡ false → Differ v b a) xs
          all_true [] e = tt
          all_true (x ∷ xs) e = (λ g. absurd (let f : true ≡ false = sym e ∙ g in cc), all_true xs e)

          by : (m : Bool) → is_made vars a.place.0 ≡ m → ((is_made vars a.place.0 ≡ false) → IsThere v a × Each (λ b. Differ v b a) (found_atoms vars rest)) → Each (λ (b : Atom). is_made vars a.place.0 ≡ false → Differ v b a) (found_atoms vars rest)
          by true is f = all_true (found_atoms vars rest) is
          by false is f = each_weaker (λ b. Differ v b a) (λ b. is_made vars a.place.0 ≡ false → Differ v b a) (λ b d e. d) (found_atoms vars rest) (f is).1

  -- the atoms' part of the constraint places the atoms
  pub constraint_places : (atoms : List Atom) → Each (GoodAtom types vars pure) atoms → OwnPlaces vars atoms → Each (IsTrueUnder v) (apart_all [] (found_atoms vars atoms)) → Placed v atoms
  constraint_places atoms g o h = placed_of atoms g o (pairs_of v [] (found_atoms vars atoms) h)
