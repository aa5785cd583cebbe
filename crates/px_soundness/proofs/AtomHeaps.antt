-- The heap of a list of atoms.
use Rattle.std.proofs.Common.{◌≡◌, ◌≢◌, ℕ, zero, suc, Bool, true, false, cond, nat_eq, Option, Some, None, List, [], ◌∷◌, ◌++◌, slice_get, refl, sym, ap, ◌∙◌, subst, inl, inr}
use Rattle.std.specs.Prelude.{option_map}
use Rattle.std.proofs.lemmas.Option.{same_Some}
use mathlib.Core.Path.{fun_ext}
use Rattle.px_terms.specs.Valuations.{Valuation}
use Rattle.px_terms.specs.declared.types.Value.TheVariants.{Block}
use Rattle.px_entry.specs.declared.atoms.Atom.{Atom}
use Rattle.px_entry.specs.declared.atoms.AtomState.{AtomState}
use Rattle.px_entry.specs.Standing.{is_block, atom_at, ArePlaced}
use Rattle.px_callgraph.specs.Accesses.{with_state, set_atom}
use Rattle.px_meaning.specs.Heaps.{HeapMap, HeapBlock, with_block, no_blocks, only_block, or_else, join, AreApart}
use Rattle.px_meaning.specs.Triples.{block_of, heap_of}
use Rattle.px_meaning.proofs.Joins.{with_same, with_other, with_twice, with_swapped, join_none, join_lacks, join_only, only_join, same_or_other}
use Rattle.px_terms.proofs.Tests.{same_either_way}

-- ---- small facts

pub absent : {A : Type 0} {x : A} {P : Type 0} → None ≡ Some x → P
absent e = absurd (cc)

pub none_not_some : {A : Type 0} (o : Option A) (x : A) → o ≡ None → o ≡ Some x → ⊥
none_not_some o x e f = cc

pub at_heap : {h g : HeapMap} (n : ℕ) → h ≡ g → h n ≡ g n
at_heap n e = ap (λ (f : HeapMap). f n) e

map_none : (v : Valuation) (o : Option Atom) → option_map (block_of v) o ≡ None → o ≡ None
map_none v None e = refl
map_none v (Some a) e = absent (sym e)

-- ---- places

-- the places are blocks, each of its own
abbrev pub Placed : Valuation → List Atom → Type 0
Placed v [] = Unit {0}
Placed v (a ∷ rest) = (n : ℕ) × (v a.place.0 ≡ Block n) × (heap_of v rest n ≡ None) × Placed v rest

pub placed_from : (v : Valuation) (xs : List Atom) → ArePlaced v xs → Placed v xs
placed_from v [] h = tt
placed_from v (a ∷ rest) (n, e, out, h) = (n, e, ap (option_map (block_of v)) out, placed_from v rest h)

pub placed_to : (v : Valuation) (xs : List Atom) → Placed v xs → ArePlaced v xs
placed_to v [] h = tt
placed_to v (a ∷ rest) (n, e, out, h) = (n, e, map_none v (atom_at v rest n) out, placed_to v rest h)

-- ---- heaps

append_if : (v : Valuation) (q : Bool) (a : Atom) (x y : Option Atom) (z : Option HeapBlock) → option_map (block_of v) x ≡ or_else (option_map (block_of v) y) z →
    option_map (block_of v) (cond q (Some a) x) ≡ or_else (option_map (block_of v) (cond q (Some a) y)) z
append_if v true a x y z e = refl
append_if v false a x y z e = e

append_at : (v : Valuation) (xs ys : List Atom) (n : ℕ) → heap_of v (xs ++ ys) n ≡ or_else (heap_of v xs n) (heap_of v ys n)
append_at v [] ys n = refl
append_at v (a ∷ xs) ys n = append_if v (is_block n (v a.place.0)) a (atom_at v (xs ++ ys) n) (atom_at v xs n) (heap_of v ys n) (append_at v xs ys n)

pub heap_append : (v : Valuation) (xs ys : List Atom) → heap_of v (xs ++ ys) ≡ join (heap_of v xs) (heap_of v ys)
heap_append v xs ys = fun_ext (λ n. append_at v xs ys n)

cons_if : (v : Valuation) (q : Bool) (a : Atom) (x : Option Atom) → option_map (block_of v) (cond q (Some a) x) ≡ cond q (Some (block_of v a)) (option_map (block_of v) x)
cons_if v true a x = refl
cons_if v false a x = refl

-- one more atom in front, where its place is the block n
pub heap_cons : (v : Valuation) (a : Atom) (rest : List Atom) (n : ℕ) → v a.place.0 ≡ Block n → heap_of v (a ∷ rest) ≡ with_block (heap_of v rest) n (block_of v a)
heap_cons v a rest n e = fun_ext (λ m.
    cons_if v (is_block m (v a.place.0)) a (atom_at v rest m)
    ∙ ap (λ q. cond q (Some (block_of v a)) (heap_of v rest m)) (ap (is_block m) e ∙ same_either_way n m))

-- the block of the i-th atom
pub place_of : (v : Valuation) (xs : List Atom) (i : ℕ) (a : Atom) → Placed v xs → slice_get xs i ≡ Some a → (n : ℕ) × (v a.place.0 ≡ Block n)
place_of v [] i a p e = absent e
place_of v (b ∷ rest) zero a (n, pl, out, ps) e = (n, subst (λ (x : Atom). v x.place.0 ≡ Block n) (same_Some _ _ e) pl)
place_of v (b ∷ rest) (suc i) a (n, pl, out, ps) e = place_of v rest i a ps e

pub there : (v : Valuation) (xs : List Atom) (i : ℕ) (a : Atom) (n : ℕ) → Placed v xs → slice_get xs i ≡ Some a → v a.place.0 ≡ Block n → heap_of v xs n ≡ Some (block_of v a)
there v [] i a n p e h = absent e
there v (b ∷ rest) zero a n (m, pl, out, ps) e h =
    subst (λ (x : Atom). heap_of v (x ∷ rest) n ≡ Some (block_of v a)) (sym (same_Some _ _ e))
    (at_heap n (heap_cons v a rest n h) ∙ with_same (heap_of v rest) n (block_of v a))
there v (b ∷ rest) (suc i) a n (m, pl, out, ps) e h =
    let inner = there v rest i a n ps e h in
    let differs : n ≢ m = λ same. none_not_some (heap_of v rest m) (block_of v a) out (subst (λ x. heap_of v rest x ≡ Some (block_of v a)) same inner) in
    at_heap n (heap_cons v b rest m pl) ∙ with_other (heap_of v rest) m (block_of v b) n differs ∙ inner

pub changed : (v : Valuation) (xs : List Atom) (i : ℕ) (a : Atom) (n : ℕ) (st : AtomState) → Placed v xs → slice_get xs i ≡ Some a → v a.place.0 ≡ Block n →
    heap_of v (set_atom i st xs) ≡ with_block (heap_of v xs) n (block_of v (with_state st a))
changed v [] i a n st p e h = absent e
changed v (b ∷ rest) zero a n st (m, pl, out, ps) e h =
    let h' : v b.place.0 ≡ Block n = subst (λ (x : Atom). v x.place.0 ≡ Block n) (sym (same_Some _ _ e)) h in
    heap_cons v (with_state st b) rest n h'
    ∙ sym (with_twice (heap_of v rest) n (block_of v b) (block_of v (with_state st b)))
    ∙ ap (λ f. with_block f n (block_of v (with_state st b))) (sym (heap_cons v b rest n h'))
    ∙ ap (λ (x : Atom). with_block (heap_of v (b ∷ rest)) n (block_of v (with_state st x))) (same_Some _ _ e)
changed v (b ∷ rest) (suc i) a n st (m, pl, out, ps) e h =
    let inner = there v rest i a n ps e h in
    let differs : n ≢ m = λ same. none_not_some (heap_of v rest m) (block_of v a) out (subst (λ x. heap_of v rest x ≡ Some (block_of v a)) same inner) in
    heap_cons v b (set_atom i st rest) m pl
    ∙ ap (λ f. with_block f m (block_of v b)) (changed v rest i a n st ps e h)
    ∙ with_swapped (heap_of v rest) n m (block_of v (with_state st a)) (block_of v b) differs
    ∙ ap (λ f. with_block f n (block_of v (with_state st a))) (sym (heap_cons v b rest m pl))

-- ---- where one heap has a block, another has

abbrev pub Within : HeapMap → HeapMap → Type 0
Within h g = (n : ℕ) → g n ≡ None → h n ≡ None

pub within_with : (h : HeapMap) (n : ℕ) (c d : HeapBlock) → h n ≡ Some c → Within (with_block h n d) h
within_with h n c d e m out = elim (same_or_other m n) [
  | inl f ↦ absurd (none_not_some (h n) c (ap h (sym f.0) ∙ out) e)
  | inr f ↦ with_other h n d m f.0 ∙ out
]

pub apart_within : (h g f : HeapMap) → Within h g → AreApart g f → AreApart h f
apart_within h g f w a n = elim (a n) [ inl e ↦ inl (w n e) | inr e ↦ inr e ]

with_none : (h : HeapMap) (m n : ℕ) (c d : HeapBlock) → with_block h m c n ≡ None → with_block h m d n ≡ None
with_none h m n c d none = elim (nat_eq n m) as (λ b. cond b (Some c) (h n) ≡ None → cond b (Some d) (h n) ≡ None) [ true ↦ (λ e. absent (sym e)) | false ↦ (λ e. e) ] none

pub front_none : (h g : HeapMap) (n : ℕ) → join h g n ≡ None → h n ≡ None
front_none h g n none = elim (h n) as (λ o. or_else o (g n) ≡ None → o ≡ None) [ None ↦ (λ e. refl) | Some c ↦ (λ e. e) ] none

pub back_none : (h g : HeapMap) (n : ℕ) → join h g n ≡ None → g n ≡ None
back_none h g n none = elim (h n) as (λ o. or_else o (g n) ≡ None → g n ≡ None) [ None ↦ (λ e. e) | Some c ↦ (λ e. absent (sym e)) ] none

pub within_join : (h g k : HeapMap) → Within h g → Within (join h k) (join g k)
within_join h g k w n none = join_lacks h k n (w n (front_none g k n none)) ∙ back_none g k n none

within_cons : (v : Valuation) (b : Atom) (xs ys : List Atom) → Within (heap_of v xs) (heap_of v ys) → Within (heap_of v (b ∷ xs)) (heap_of v (b ∷ ys))
within_cons v b xs ys w n out = by (is_block n (v b.place.0)) out
  where
    by : (q : Bool) → option_map (block_of v) (cond q (Some b) (atom_at v ys n)) ≡ None → option_map (block_of v) (cond q (Some b) (atom_at v xs n)) ≡ None
    by true e = e
    by false e = w n e

-- changing a state in place keeps the places
pub placed_set : (v : Valuation) (xs : List Atom) (i : ℕ) (st : AtomState) → Placed v (set_atom i st xs) → Placed v xs × Within (heap_of v xs) (heap_of v (set_atom i st xs))
placed_set v [] i st p = (tt, λ n out. refl)
placed_set v (b ∷ rest) zero st (m, pl, out, ps) = (
  (m, pl, out, ps),
  λ n none. at_heap n (heap_cons v b rest m pl) ∙ with_none (heap_of v rest) m n (block_of v (with_state st b)) (block_of v b) (sym (at_heap n (heap_cons v (with_state st b) rest m pl)) ∙ none),
)
placed_set v (b ∷ rest) (suc i) st (m, pl, out, ps) =
    let inner = placed_set v rest i st ps in ((m, pl, inner.1 m out, inner.0), within_cons v b rest (set_atom i st rest) inner.1)

-- ---- one more atom at the end

pub placed_front : (v : Valuation) (xs ys : List Atom) → Placed v (xs ++ ys) → Placed v xs
placed_front v [] ys p = tt
placed_front v (b ∷ rest) ys (m, pl, out, ps) =
    (m, pl, front_none (heap_of v rest) (heap_of v ys) m (sym (at_heap m (heap_append v rest ys)) ∙ out), placed_front v rest ys ps)

pub placed_last : (v : Valuation) (xs : List Atom) (a : Atom) → Placed v (xs ++ a ∷ []) → (n : ℕ) × (v a.place.0 ≡ Block n) × (heap_of v xs n ≡ None)
placed_last v [] a (n, pl, out, ps) = (n, pl, refl)
placed_last v (b ∷ rest) a (m, pl, out, ps) =
    let inner = placed_last v rest a ps in
    let n = inner.0 in
    let there_n : heap_of v (rest ++ a ∷ []) n ≡ Some (block_of v a) =
    at_heap n (heap_append v rest (a ∷ [])) ∙ join_lacks (heap_of v rest) (heap_of v (a ∷ [])) n inner.2 ∙ at_heap n (heap_cons v a [] n inner.1) ∙ with_same no_blocks n (block_of v a) in
    let differs : n ≢ m = λ same. none_not_some (heap_of v (rest ++ a ∷ []) m) (block_of v a) out (subst (λ x. heap_of v (rest ++ a ∷ []) x ≡ Some (block_of v a)) same there_n) in
    (n, inner.1, at_heap n (heap_cons v b rest m pl) ∙ with_other (heap_of v rest) m (block_of v b) n differs ∙ inner.2)

pub placed_more : (v : Valuation) (xs : List Atom) (a : Atom) (n : ℕ) → Placed v xs → v a.place.0 ≡ Block n → heap_of v xs n ≡ None → Placed v (xs ++ a ∷ [])
placed_more v [] a n p e out = (n, e, refl, tt)
placed_more v (b ∷ rest) a n (m, pl, out, ps) e none =
    let none' : with_block (heap_of v rest) m (block_of v b) n ≡ None = sym (at_heap n (heap_cons v b rest m pl)) ∙ none in
    let differs : m ≢ n = λ same.
    none_not_some (with_block (heap_of v rest) m (block_of v b) n) (block_of v b) none' (subst (λ x. with_block (heap_of v rest) m (block_of v b) x ≡ Some (block_of v b)) same (with_same (heap_of v rest) m (block_of v b))) in (
      m,
      pl,
      at_heap m (heap_append v rest (a ∷ [])) ∙ join_lacks (heap_of v rest) (heap_of v (a ∷ [])) m out ∙ at_heap m (heap_cons v a [] n e) ∙ with_other no_blocks n (block_of v a) m differs,
      placed_more v rest a n ps e (sym (with_other (heap_of v rest) m (block_of v b) n (λ same. differs (sym same))) ∙ none'),
    )

pub heap_more : (v : Valuation) (xs : List Atom) (a : Atom) (n : ℕ) → v a.place.0 ≡ Block n → heap_of v xs n ≡ None → heap_of v (xs ++ a ∷ []) ≡ with_block (heap_of v xs) n (block_of v a)
heap_more v xs a n at out =
    heap_append v xs (a ∷ []) ∙ ap (join (heap_of v xs)) (heap_cons v a [] n at ∙ sym (only_join n (block_of v a) no_blocks) ∙ join_none (only_block n (block_of v a)))
    ∙ join_only (heap_of v xs) n (block_of v a) out

-- the blocks of the first atoms are among those of more
pub within_front : (v : Valuation) (xs ys : List Atom) → Within (heap_of v xs) (heap_of v (xs ++ ys))
within_front v xs ys n none = front_none (heap_of v xs) (heap_of v ys) n (sym (at_heap n (heap_append v xs ys)) ∙ none)

-- ---- the blocks that were found

-- they are placed, and among those of the atoms
pub record Kept (v : Valuation) (pre atoms : List Atom) : Type 0 where
  pub placed : Placed v pre
  pub within : Within (heap_of v pre) (heap_of v atoms)

pub kept_more : (v : Valuation) (pre atoms : List Atom) (a : Atom) (n : ℕ) → v a.place.0 ≡ Block n → heap_of v atoms n ≡ None → Kept v pre atoms → Kept v (pre ++ a ∷ []) (atoms ++ a ∷ [])
kept_more v pre atoms a n at out k = record {
  placed = placed_more v pre a n k.placed at (k.within n out);
  within = λ m none. at_heap m (heap_append v pre (a ∷ [])) ∙ within_join (heap_of v pre) (heap_of v atoms) (heap_of v (a ∷ [])) k.within m (sym (at_heap m (heap_append v atoms (a ∷ []))) ∙ none);
}

pub apart_met : (v : Valuation) (xs : List Atom) (a : Atom) (n : ℕ) (further : HeapMap) → v a.place.0 ≡ Block n → heap_of v xs n ≡ None →
    AreApart (heap_of v (xs ++ a ∷ [])) further → AreApart (heap_of v xs) (join (heap_of v (a ∷ [])) further)
apart_met v xs a n further at out apart x = elim (same_or_other x n) [
  | inl e ↦ inl (ap (heap_of v xs) e.0 ∙ out)
  | inr e ↦ elim (apart x) [
    | inl none ↦ inl (within_front v xs (a ∷ []) x none)
    | inr none ↦ inr (join_lacks (heap_of v (a ∷ [])) further x (at_heap x (heap_cons v a [] n at) ∙ with_other no_blocks n (block_of v a) x e.0) ∙ none)
  ]
]
