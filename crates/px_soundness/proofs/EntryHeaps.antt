-- The heaps of a callee's entry: what it finds and what it leaves of that stand at the same places.
use Rattle.std.proofs.Common.{◌≡◌, ◌≢◌, ℕ, Bool, true, false, cond, nat_eq, not, ◌&&◌, Option, Some, None, List, [], ◌∷◌, ◌++◌, map, refl, sym, ap, ◌∙◌, subst, append_assoc}
use Rattle.std.specs.Prelude.{option_map, filter}
use Rattle.std.proofs.lemmas.Bool.{and_parts, eqb-true}
use mathlib.Core.Path.{fun_ext}
use Rattle.px_terms.specs.Valuations.{Valuation, IsPlace}
use Rattle.px_terms.specs.Conjuncts.{IsTrueUnder}
use Rattle.px_terms.specs.declared.types.Value.{Value}
use Rattle.px_terms.specs.declared.types.Value.TheVariants as value
use Rattle.px_terms.specs.declared.variables.VarInfo.{VarInfo}
use Rattle.px_terms.specs.declared.conjuncts.Place.TheVariants as place
use Rattle.px_terms.specs.declared.conjuncts.Conj.TheVariants.{OtherPlace}
use Rattle.px_entry.specs.declared.atoms.Atom.{Atom}
use Rattle.px_entry.specs.Constraint.{found_atoms, made_atoms, same_block, apart_from, apart_all}
use Rattle.px_entry.specs.Regular.{same_blocks}
use Rattle.px_entry.specs.Standing.{is_block, atom_at}
use Rattle.px_entry.specs.Sorts.{is_made}
use Rattle.px_entry.proofs.Lists.{Each, each_append}
use Rattle.px_meaning.specs.Heaps.{HeapBlock, or_else, join}
use Rattle.px_meaning.specs.Triples.{block_of, heap_of}
use Rattle.px_soundness.proofs.AtomHeaps.{Placed, absent, none_not_some, placed_front, placed_last, there}
use Rattle.px_soundness.proofs.CallFrames.{AreAlike}

module _ (v : Valuation) where
  -- ---- the same places

  none_if : (q : Bool) (a b : Atom) (x y : Option Atom) → (option_map (block_of v) x ≡ None → option_map (block_of v) y ≡ None) → option_map (block_of v) (cond q (Some a) x) ≡ None → option_map (block_of v) (cond q (Some b) y) ≡ None
  none_if true a b x y f e = absent (sym e)
  none_if false a b x y f e = f e

  pub same_head : (a b : Atom) (xs ys : List Atom) → same_blocks (a ∷ xs) (b ∷ ys) ≡ true → (a.place.0 ≡ b.place.0) × (a.block.0 ≡ b.block.0) × (same_blocks xs ys ≡ true)
  same_head a b xs ys e =
      let p = and_parts (nat_eq a.place.0 b.place.0 && nat_eq a.block.0 b.block.0) (same_blocks xs ys) e in
      let q = and_parts (nat_eq a.place.0 b.place.0) (nat_eq a.block.0 b.block.0) p.0 in
      (eqb-true a.place.0 b.place.0 q.0, eqb-true a.block.0 b.block.0 q.1, p.1)

  pub alike : (xs ys : List Atom) → same_blocks xs ys ≡ true → AreAlike (heap_of v xs) (heap_of v ys)
  alike [] [] e n = (λ h. h, λ h. h)
  alike [] (b ∷ ys) e n = cc
  alike (a ∷ xs) [] e n = cc
  alike (a ∷ xs) (b ∷ ys) e n =
      let (place, block, rest) = same_head a b xs ys e in
      let h = alike xs ys rest n in
      let same : is_block n (v a.place.0) ≡ is_block n (v b.place.0) = ap (λ z. is_block n (v z)) place in (
        λ out. none_if (is_block n (v b.place.0)) a b (atom_at v xs n) (atom_at v ys n) h.0 (subst (λ q. option_map (block_of v) (cond q (Some a) (atom_at v xs n)) ≡ None) same out),
        λ out. none_if (is_block n (v a.place.0)) b a (atom_at v ys n) (atom_at v xs n) h.1 (subst (λ q. option_map (block_of v) (cond q (Some b) (atom_at v ys n)) ≡ None) (sym same) out),
      )

  pub placed_alike : (xs ys : List Atom) → same_blocks xs ys ≡ true → Placed v xs → Placed v ys
  placed_alike [] [] e p = tt
  placed_alike [] (b ∷ ys) e p = cc
  placed_alike (a ∷ xs) [] e p = cc
  placed_alike (a ∷ xs) (b ∷ ys) e (n, at, out, p) =
      let (place, block, rest) = same_head a b xs ys e in
      (n, sym (ap v place) ∙ at, (alike xs ys rest n).0 out, placed_alike xs ys rest p)

  -- ---- what the places of found blocks claim is so

  block_place : (u : Value) (n : ℕ) → u ≡ value.Block n → IsPlace u
  block_place u n e = subst IsPlace (sym e) tt

  not_null : (u : Value) (n : ℕ) → u ≡ value.Block n → u ≢ value.Null
  not_null u n e f = let g : value.Block n ≡ value.Null = sym e ∙ f in cc

  -- each has a block that is none of another list's
  abbrev AreOther : ℕ → List Atom → Type 0
  AreOther n xs = Each (λ (b : Atom). (m : ℕ) × (v b.place.0 ≡ value.Block m) × (n ≢ m)) xs

  others : (n : ℕ) (xs : List Atom) → Placed v xs → heap_of v xs n ≡ None → AreOther n xs
  others n [] p out = tt
  others n (b ∷ rest) (m, at, none, p) out = ((m, at, λ same. by same), others n rest p (behind (is_block n (v b.place.0)) out))
    where
      behind : (q : Bool) → option_map (block_of v) (cond q (Some b) (atom_at v rest n)) ≡ None → heap_of v rest n ≡ None
      behind true e = absent (sym e)
      behind false e = e

      by : n ≡ m → ⊥
      by same = none_not_some (heap_of v (b ∷ rest) n) (block_of v b) out (there v (b ∷ rest) 0 b n (m, at, none, p) refl (at ∙ ap value.Block (sym same)))

  others_true : (a : Atom) (n : ℕ) → v a.place.0 ≡ value.Block n → (xs : List Atom) → AreOther n xs → Each (IsTrueUnder v) (map (λ (b : Atom). OtherPlace (place.Var a.place) (place.Var b.place)) (filter (same_block a) xs))
  others_true a n at [] h = tt
  others_true a n at (b ∷ xs) h = by (same_block a b) (others_true a n at xs h.1)
    where
      by : (q : Bool) → Each (IsTrueUnder v) (map (λ (b : Atom). OtherPlace (place.Var a.place) (place.Var b.place)) (filter (same_block a) xs)) →
          Each (IsTrueUnder v) (map (λ (b : Atom). OtherPlace (place.Var a.place) (place.Var b.place)) (cond q (b ∷ filter (same_block a) xs) (filter (same_block a) xs)))
      by true t = (((block_place (v a.place.0) n at, block_place (v b.place.0) h.0.0 h.0.1), λ e. h.0.2 (let f : value.Block n ≡ value.Block h.0.0 = sym at ∙ e ∙ h.0.1 in cc)), t)
      by false t = t

  apart_true : (earlier : List Atom) (a : Atom) → Placed v (earlier ++ a ∷ []) → Each (IsTrueUnder v) (apart_from earlier a)
  apart_true earlier a p =
      let (n, at, out) = placed_last v earlier a p in
      (((block_place (v a.place.0) n at, tt), not_null (v a.place.0) n at), others_true a n at earlier (others n earlier (placed_front v earlier (a ∷ []) p) out))

  pub apart_all_true : (earlier xs : List Atom) → Placed v (earlier ++ xs) → Each (IsTrueUnder v) (apart_all earlier xs)
  apart_all_true earlier [] p = tt
  apart_all_true earlier (a ∷ xs) p =
      let q : Placed v ((earlier ++ a ∷ []) ++ xs) = subst (Placed v) (sym (append_assoc earlier (a ∷ []) xs)) p in
      each_append (IsTrueUnder v) (apart_from earlier a) (apart_all (earlier ++ a ∷ []) xs) (apart_true earlier a (placed_front v (earlier ++ a ∷ []) xs q)) (apart_all_true (earlier ++ a ∷ []) xs q)

  -- ---- what is left of found blocks, and what was made

  cons_if : (q : Bool) (a : Atom) (x : Option Atom) → option_map (block_of v) (cond q (Some a) x) ≡ cond q (Some (block_of v a)) (option_map (block_of v) x)
  cons_if true a x = refl
  cons_if false a x = refl

  cons_at : (a : Atom) (xs : List Atom) (n : ℕ) (q : Bool) → is_block n (v a.place.0) ≡ q → heap_of v (a ∷ xs) n ≡ cond q (Some (block_of v a)) (heap_of v xs n)
  cons_at a xs n q is = cons_if (is_block n (v a.place.0)) a (atom_at v xs n) ∙ ap (λ b. cond b (Some (block_of v a)) (heap_of v xs n)) is

  block_number : (u : Value) (n m : ℕ) → u ≡ value.Block m → is_block n u ≡ true → m ≡ n
  block_number u n m at is = eqb-true m n (subst (λ z. is_block n z ≡ true) at is)

  first_none : (x y : Option HeapBlock) → or_else x y ≡ None → x ≡ None
  first_none None y e = refl
  first_none (Some b) y e = e

  module _ (made : Atom → Bool) where
    abbrev kept_of : List Atom → List Atom
    kept_of xs = filter (λ a. not (made a)) xs

    abbrev made_of : List Atom → List Atom
    made_of xs = filter made xs

    split_cons : (a : Atom) (xs : List Atom) (n : ℕ) → heap_of v xs n ≡ or_else (heap_of v (kept_of xs) n) (heap_of v (made_of xs) n) → (is_block n (v a.place.0) ≡ true → heap_of v xs n ≡ None) →
        (t q : Bool) → is_block n (v a.place.0) ≡ q → heap_of v (a ∷ xs) n ≡ or_else (heap_of v (cond (not t) (a ∷ kept_of xs) (kept_of xs)) n) (heap_of v (cond t (a ∷ made_of xs) (made_of xs)) n)
    split_cons a xs n rest out false true is = cons_at a xs n true is ∙ ap (λ o. or_else o (heap_of v (made_of xs) n)) (sym (cons_at a (kept_of xs) n true is))
    split_cons a xs n rest out false false is = cons_at a xs n false is ∙ rest ∙ ap (λ o. or_else o (heap_of v (made_of xs) n)) (sym (cons_at a (kept_of xs) n false is))
    split_cons a xs n rest out true true is =
        cons_at a xs n true is
        ∙ ap (λ o. or_else o (Some (block_of v a))) (sym (first_none (heap_of v (kept_of xs) n) (heap_of v (made_of xs) n) (sym rest ∙ out is)))
        ∙ ap (or_else (heap_of v (kept_of xs) n)) (sym (cons_at a (made_of xs) n true is))
    split_cons a xs n rest out true false is = cons_at a xs n false is ∙ rest ∙ ap (or_else (heap_of v (kept_of xs) n)) (sym (cons_at a (made_of xs) n false is))

    split_at : (xs : List Atom) → Placed v xs → (n : ℕ) → heap_of v xs n ≡ or_else (heap_of v (kept_of xs) n) (heap_of v (made_of xs) n)
    split_at [] p n = refl
    split_at (a ∷ xs) (m, at, out, p) n =
        split_cons a xs n (split_at xs p n) (λ is. subst (λ z. heap_of v xs z ≡ None) (block_number (v a.place.0) n m at is) out) (made a) (is_block n (v a.place.0)) refl

  pub post_is : (vars : List VarInfo) (post : List Atom) → Placed v post → heap_of v post ≡ join (heap_of v (found_atoms vars post)) (heap_of v (made_atoms vars post))
  post_is vars post p = fun_ext (split_at (λ a. is_made vars a.place.0) post p)
