-- Truth of lists of conjuncts, a part after another.
use Rattle.std.proofs.Common.{◌≡◌, ◌↔◌, ℕ, ◌+◌, ◌<◌, ◌≤◌, List, [], ◌∷◌, ◌++◌, length, Bool, true, false, not, drop, take, map, get_or, refl, sym, ◌∙◌, ap, subst}
use Rattle.std.specs.Prelude.{All, filter, cond}
use Rattle.std.specs.List.{list_all}
use Rattle.std.proofs.lemmas.List.{append-nil, drop_more, take_more}
use Rattle.std.proofs.Math.ListN.{drop_of_length-le}
use Rattle.std.proofs.lemmas.List.Elements.{All-nil, All-cons, All-append, filter-append}
use Rattle.px_terms.specs.Variables.{mentioned}
use Rattle.px_terms.specs.declared.variables.VarInfo.{VarInfo}
use Rattle.px_terms.specs.declared.conjuncts.Place.TheVariants as place
use Rattle.px_terms.specs.declared.conjuncts.Conj.{Conj}
use Rattle.px_terms.specs.declared.conjuncts.Conj.TheVariants.{OtherPlace}
use Rattle.px_entry.specs.declared.atoms.Atom.{Atom}
use Rattle.px_entry.specs.Sorts.{is_made, is_well_sorted}
use Rattle.px_entry.specs.Constraint.{found_atoms, same_block, apart_from, apart_all, separate}
use Rattle.px_entry.proofs.Lists.{Each, each_all, all_each, each_from}
use Rattle.px_entry.proofs.ScopeLemmas.{conjunct_scoped}
use Rattle.px_check.specs.Values.{AreInside, apart_from_each, apart_found}

-- ---- variables that are mentioned

-- well-sorted conjuncts mention variables of the list alone
pub all_inside : (vars : List VarInfo) (cs : List Conj) → list_all (is_well_sorted vars) cs ≡ true → AreInside (length vars) cs
all_inside vars cs e =
    each_all _ cs (each_from (is_well_sorted vars) (λ c. All (λ x. x < length vars) (mentioned c)) (λ c h. each_all (λ x. x < length vars) (mentioned c) (conjunct_scoped vars c h)) cs e)

-- ---- a part after another

pub each_split : {A : Type 0} (P : A → Type 0) (xs ys : List A) → Each P (xs ++ ys) → Each P xs × Each P ys
each_split P [] ys h = (tt, h)
each_split P (x ∷ xs) ys h = let r = each_split P xs ys h.1 in ((h.0, r.0), r.1)

pub all_split : {A : Type 0} (P : A → Type 0) (xs ys : List A) → All P (xs ++ ys) → All P xs × All P ys
all_split P xs ys h = let r = each_split P xs ys (all_each P (xs ++ ys) h) in (each_all P xs r.0, each_all P ys r.1)

module _ (P : Conj → Type 0) (A : Type 0) where
  -- what is left says what the whole says; a part of it is true
  pub goes_on : (left here next : List Conj) → left ≡ here ++ next → All P here → (All P left ↔ A) → (All P next ↔ A)
  goes_on left here next e h k =
      (λ n. k.0 (subst (All P) (sym e) (All-append P here next h n)), λ a. (all_split P here next (subst (All P) e (k.1 a))).1)

  -- a part of it isn't
  pub breaks_off : (left here next : List Conj) → left ≡ here ++ next → (¬ All P here) → (All P left ↔ A) → A → ⊥
  breaks_off left here next e h k a = h (all_split P here next (subst (All P) e (k.1 a))).0

  -- nothing is left
  pub is_whole : (left : List Conj) → left ≡ [] → (All P left ↔ A) → A
  is_whole left e k = k.0 (subst (All P) (sym e) (All-nil P))

pub one_of : (P : Conj → Type 0) (c : Conj) → All P (c ∷ []) ↔ P c
one_of P c = (λ h. (all_each P (c ∷ []) h).0, λ h. All-cons P c [] h (All-nil P))

-- ---- blocks

found_append : (vars : List VarInfo) (xs ys : List Atom) → found_atoms vars (xs ++ ys) ≡ found_atoms vars xs ++ found_atoms vars ys
found_append vars xs ys = filter-append _ xs ys

map_append : {A B : Type 0} (f : A → B) (xs ys : List A) → map f (xs ++ ys) ≡ map f xs ++ map f ys
map_append f [] ys = refl
map_append f (x ∷ xs) ys = ap (λ z. f x ∷ z) (map_append f xs ys)

other : Atom → Atom → Conj
other a b = OtherPlace (place.Var a.place) (place.Var b.place)

pub each_apart : (vars : List VarInfo) (a b : Atom) (rest : List Atom) →
    apart_from_each a (found_atoms vars (b ∷ rest)) ≡ apart_from_each a (found_atoms vars (b ∷ [])) ++ apart_from_each a (found_atoms vars rest)
each_apart vars a b rest =
    ap (apart_from_each a) (found_append vars (b ∷ []) rest)
    ∙ ap (map _) (filter-append (same_block a) (found_atoms vars (b ∷ [])) (found_atoms vars rest))
    ∙ map_append _ (filter (same_block a) (found_atoms vars (b ∷ []))) (filter (same_block a) (found_atoms vars rest))

-- what is left to say of blocks, once the place of the first is made or isn't
abbrev LeftOf : List VarInfo → List Atom → Atom → List Atom → Bool → List Conj
LeftOf vars before a rest m = apart_all (found_atoms vars before) (cond (not m) (a ∷ found_atoms vars rest) (found_atoms vars rest))

abbrev PartOf : List VarInfo → List Atom → Atom → Bool → List Conj
PartOf vars before a m = elim m [ true ↦ [] | false ↦ apart_from (found_atoms vars before) a ]

with_one : (vars : List VarInfo) (before : List Atom) (a : Atom) (m : Bool) → is_made vars a.place.0 ≡ m → found_atoms vars (before ++ a ∷ []) ≡ found_atoms vars before ++ cond (not m) (a ∷ []) []
with_one vars before a m e = found_append vars before (a ∷ []) ∙ ap (λ t. found_atoms vars before ++ cond (not t) (a ∷ []) []) e

block_by : (vars : List VarInfo) (before : List Atom) (a : Atom) (rest : List Atom) (m : Bool) → is_made vars a.place.0 ≡ m →
    LeftOf vars before a rest m ≡ PartOf vars before a m ++ apart_all (found_atoms vars (before ++ a ∷ [])) (found_atoms vars rest)
block_by vars before a rest true e = ap (λ z. apart_all z (found_atoms vars rest)) (sym (append-nil (found_atoms vars before)) ∙ sym (with_one vars before a true e))
block_by vars before a rest false e = ap (λ z. apart_from (found_atoms vars before) a ++ apart_all z (found_atoms vars rest)) (sym (with_one vars before a false e))

pub block_apart : (vars : List VarInfo) (before : List Atom) (a : Atom) (rest : List Atom) →
    apart_all (found_atoms vars before) (found_atoms vars (a ∷ rest)) ≡ apart_found vars before a ++ apart_all (found_atoms vars (before ++ a ∷ [])) (found_atoms vars rest)
block_apart vars before a rest = block_by vars before a rest (is_made vars a.place.0) refl

-- ---- the tests of blocks

module _ (P : Conj → Type 0) (vars : List VarInfo) where
  -- a block whose place isn't made says two things
  own_found : (before : List Atom) (a : Atom) → is_made vars a.place.0 ≡ false → apart_found vars before a ≡ (OtherPlace (place.Var a.place) place.Null ∷ []) ++ apart_from_each a (found_atoms vars before)
  own_found before a e = ap (PartOf vars before a) e

  pub own_apart : (before : List Atom) (a : Atom) (t : Bool) → is_made vars a.place.0 ≡ false → P (OtherPlace (place.Var a.place) place.Null) →
      (t ≡ true ↔ All P (apart_from_each a (found_atoms vars before))) → (t ≡ true ↔ All P (apart_found vars before a))
  own_apart before a t e h k =
      let o : Conj = OtherPlace (place.Var a.place) place.Null in
      let f = own_found before a e in (
        λ q. subst (All P) (sym f) (All-append P (o ∷ []) (apart_from_each a (found_atoms vars before)) ((one_of P o).1 h) (k.0 q)),
        λ q. k.1 (all_split P (o ∷ []) (apart_from_each a (found_atoms vars before)) (subst (All P) f q)).1,
      )

-- ---- loops over conjuncts and blocks

refuses : (t : Bool) (A : Type 0) → t ≡ false → (A → t ≡ true) → A → ⊥
refuses t A e h a = let f : false ≡ true = sym e ∙ h a in cc

next_block : (xs : List Atom) (i : ℕ) (b : Atom) → i < length xs → b ≡ get_or xs i b → drop i xs ≡ b ∷ drop (i + 1) xs
next_block xs i b l e = drop_more xs i b l ∙ ap (λ z. z ∷ drop (i + 1) xs) (sym e)

blocks_taken : (xs : List Atom) (i : ℕ) (b : Atom) → i < length xs → b ≡ get_or xs i b → take (i + 1) xs ≡ take i xs ++ b ∷ []
blocks_taken xs i b l e = take_more xs i b l ∙ ap (λ z. take i xs ++ z ∷ []) (sym e)

module _ (P : Conj → Type 0) (vars : List VarInfo) (a : Atom) (earlier : List Atom) (i : ℕ) where
  abbrev Whole : Type 0
  Whole = All P (apart_from_each a (found_atoms vars earlier))

  abbrev Left : Type 0
  Left = All P (apart_from_each a (found_atoms vars (drop i earlier)))

  one_left : (b : Atom) → i < length earlier → b ≡ get_or earlier i b →
      apart_from_each a (found_atoms vars (drop i earlier)) ≡ apart_from_each a (found_atoms vars (b ∷ [])) ++ apart_from_each a (found_atoms vars (drop (i + 1) earlier))
  one_left b l e = ap (λ z. apart_from_each a (found_atoms vars z)) (next_block earlier i b l e) ∙ each_apart vars a b (drop (i + 1) earlier)

  pub apart_stops : (b : Atom) (t : Bool) → i < length earlier → b ≡ get_or earlier i b → (t ≡ true ↔ All P (apart_from_each a (found_atoms vars (b ∷ [])))) → t ≡ false → (Left ↔ Whole) → Whole → ⊥
  apart_stops b t l e k f inv =
      breaks_off P Whole (apart_from_each a (found_atoms vars (drop i earlier))) (apart_from_each a (found_atoms vars (b ∷ []))) (apart_from_each a (found_atoms vars (drop (i + 1) earlier)))
      (one_left b l e) (refuses t _ f k.1) inv

  pub apart_goes : (b : Atom) (t : Bool) → i < length earlier → b ≡ get_or earlier i b → (t ≡ true ↔ All P (apart_from_each a (found_atoms vars (b ∷ [])))) → t ≡ true → (Left ↔ Whole) →
      (All P (apart_from_each a (found_atoms vars (drop (i + 1) earlier))) ↔ Whole)
  apart_goes b t l e k f inv =
      goes_on P Whole (apart_from_each a (found_atoms vars (drop i earlier))) (apart_from_each a (found_atoms vars (b ∷ []))) (apart_from_each a (found_atoms vars (drop (i + 1) earlier)))
      (one_left b l e) (k.0 f) inv

  pub apart_ends : length earlier ≤ i → (Left ↔ Whole) → Whole
  apart_ends l inv = is_whole P Whole (apart_from_each a (found_atoms vars (drop i earlier))) (ap (λ z. apart_from_each a (found_atoms vars z)) (drop_of_length-le earlier l)) inv

module _ (P : Conj → Type 0) (vars : List VarInfo) (atoms : List Atom) (i : ℕ) where
  abbrev All_of : Type 0
  All_of = All P (separate vars atoms)

  abbrev Rest : Type 0
  Rest = All P (apart_all (found_atoms vars (take i atoms)) (found_atoms vars (drop i atoms)))

  one_block : (b : Atom) → i < length atoms → b ≡ get_or atoms i b →
      apart_all (found_atoms vars (take i atoms)) (found_atoms vars (drop i atoms)) ≡
      apart_found vars (take i atoms) b ++ apart_all (found_atoms vars (take (i + 1) atoms)) (found_atoms vars (drop (i + 1) atoms))
  one_block b l e =
      ap (λ z. apart_all (found_atoms vars (take i atoms)) (found_atoms vars z)) (next_block atoms i b l e)
      ∙ block_apart vars (take i atoms) b (drop (i + 1) atoms)
      ∙ ap (λ z. apart_found vars (take i atoms) b ++ apart_all (found_atoms vars z) (found_atoms vars (drop (i + 1) atoms))) (sym (blocks_taken atoms i b l e))

  pub separate_stops : (b : Atom) (t : Bool) → i < length atoms → b ≡ get_or atoms i b → (t ≡ true ↔ All P (apart_found vars (take i atoms) b)) → t ≡ false → (Rest ↔ All_of) → All_of → ⊥
  separate_stops b t l e k f inv =
      breaks_off P All_of (apart_all (found_atoms vars (take i atoms)) (found_atoms vars (drop i atoms))) (apart_found vars (take i atoms) b)
      (apart_all (found_atoms vars (take (i + 1) atoms)) (found_atoms vars (drop (i + 1) atoms))) (one_block b l e) (refuses t _ f k.1) inv

  pub separate_goes : (b : Atom) (t : Bool) → i < length atoms → b ≡ get_or atoms i b → (t ≡ true ↔ All P (apart_found vars (take i atoms) b)) → t ≡ true → (Rest ↔ All_of) →
      (All P (apart_all (found_atoms vars (take (i + 1) atoms)) (found_atoms vars (drop (i + 1) atoms))) ↔ All_of)
  separate_goes b t l e k f inv =
      goes_on P All_of (apart_all (found_atoms vars (take i atoms)) (found_atoms vars (drop i atoms))) (apart_found vars (take i atoms) b)
      (apart_all (found_atoms vars (take (i + 1) atoms)) (found_atoms vars (drop (i + 1) atoms))) (one_block b l e) (k.0 f) inv

  pub separate_ends : length atoms ≤ i → (Rest ↔ All_of) → All_of
  separate_ends l inv =
      is_whole P All_of (apart_all (found_atoms vars (take i atoms)) (found_atoms vars (drop i atoms)))
      (ap (λ z. apart_all (found_atoms vars (take i atoms)) (found_atoms vars z)) (drop_of_length-le atoms l)) inv
