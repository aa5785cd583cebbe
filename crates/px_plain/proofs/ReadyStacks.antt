-- A stack that holds nothing, and that has the node of 0.
use Rattle.std.proofs.Common.{◌≡◌, ◌≢◌, ◌⊎◌, inl, inr, ℕ, zero, suc, ◌+◌, ◌^◌, ◌<◌, ◌≤◌, List, [], ◌∷◌, length, length-append, refl, sym, ap, subst, ◌∙◌, arith}
use Rattle.std.specs.Prelude.{◌↔◌, Bool, true, false, Option, Some, slice_get}
use Rattle.std.proofs.lemmas.List.Elements.{All-nil}
use Rattle.std.proofs.lemmas.Option.{slice_get_within}
use Rattle.std.proofs.lemmas.Bool.{cases_Bool}
use Rattle.px_terms.specs.Conjuncts.{IsWellSorted}
use Rattle.px_terms.specs.declared.variables.VarInfo.{VarInfo}
use Rattle.px_terms.specs.declared.conjuncts.Conj.{Conj}
use Rattle.px_terms.proofs.Tests.{never_both}
use Rattle.px_plain.specs.declared.nodes.Difference.{Difference}
use Rattle.px_plain.specs.declared.trees.Tree.{Tree}
use Rattle.px_plain.specs.declared.claims.Mark.{Mark}
use Rattle.px_plain.specs.declared.claims.Mark.TheVariants as mark
use Rattle.px_plain.specs.Models.{IsPlainlyRefuted}
use Rattle.px_plain.specs.Places.{ArePlaceNumbers}
use Rattle.px_plain.specs.Readings.{word_difference, place_difference}
use Rattle.px_plain.specs.Held.{HeldItem, OfVar, OfConj, OfApart, held_vars, held_apart, held_conjuncts, held_count}
use Rattle.px_plain.specs.Trees.{Flat, KeepsFlat, IsRanked}
use Rattle.px_plain.specs.Joins.{owner_at}
use Rattle.px_plain.specs.Steps.{Content, bare, grounded, ground, mark_at, last_step, is_refuted}
use Rattle.px_plain.specs.Stands.{EqualBy, UnequalBy, Solves, AnyWords, IsMarkedBy, Stands, IsOf, HoldsItems}
use Rattle.px_plain.proofs.OpenStacks.{not_refuted_yet}
use Rattle.px_plain.proofs.TakenClaims.{refuted, unrefuted, places_size}

abbrev one : List Tree
one = ground ∷ []

flat_one : Flat one
flat_one = record {
  root = λ v. 0;
  above = λ v. 0;
  inside = λ v l. omega arith;
  is_root = λ v l. refl;
  small = λ v l. omega arith;
  here = λ v l e. omega arith;
  level = λ v l e. refl;
  up = λ v l. refl;
  far = λ v l d. absurd (d (first_parent v l));
}
  where
    first_parent : (v : ℕ) → v < length one → Rattle.px_plain.specs.Trees.parent_at one v ≡ v
    first_parent zero l = refl
    first_parent (suc v) l = absurd (omega arith)

flat_root : (v : ℕ) → flat_one.root v ≡ 0
unfolding flat_one
flat_root v = refl

flat_above : (v : ℕ) → flat_one.above v ≡ 0
unfolding flat_one
flat_above v = refl

ranked_one : IsRanked one
ranked_one = record {
  inside = λ v l. at (λ v. Rattle.px_plain.specs.Trees.parent_at one v < length one) (omega arith) v l;
  rising = λ v l. at (λ v. Rattle.px_plain.specs.Trees.parent_at one v ≢ v → Rattle.px_plain.specs.Trees.rank_at one v < Rattle.px_plain.specs.Trees.rank_at one (Rattle.px_plain.specs.Trees.parent_at one v)) (λ d. absurd (d refl)) v l;
  bare = λ v l. at (λ v. Rattle.px_plain.specs.Trees.parent_at one v ≡ v → Rattle.px_plain.specs.Trees.offset_at one v ≡ 0) (λ e. refl) v l;
  low = λ v l. at (λ v. Rattle.px_plain.specs.Trees.rank_at one v < 2 ^ 32) (omega arith) v l;
}
  where
    at : (P : ℕ → Type 0) → P 0 → (v : ℕ) → v < length one → P v
    at P h zero l = h
    at P h (suc v) l = absurd (omega arith)

keeps_one : (w : ℕ → ℕ) → KeepsFlat w flat_one
keeps_one w v l =
    let z : v ≡ 0 = omega arith in
    let a = flat_above v in
    let b = ap w (flat_root v) in
    let c = ap w z in
    omega arith

abbrev solves_none : (read : Conj → Option Difference) (asked : (ℕ → ℕ) → Type 0) → Solves read asked [] [] one []
solves_none read asked = record {
  flat = flat_one;
  there = λ w a h. keeps_one w;
  back = λ w k. All-nil (EqualBy read w);
  unequal_there = λ w h j l. absurd (omega arith);
  apart_there = λ w h. record { null = λ i l. absurd (omega arith); pairs = λ i j b l. absurd (omega arith) };
  unequal_back = λ w a p. All-nil (UnequalBy read w);
  inside = record { from = λ i l. absurd (omega arith); to = λ i l. absurd (omega arith) };
  separate = λ j l. absurd (omega arith);
}

none_owner : (r : ℕ) → owner_at (false ∷ []) r ≡ false
none_owner zero = refl
none_owner (suc r) = refl

none_marked : (u : ℕ) → mark_at (mark.Free ∷ []) u ≡ mark.Free
none_marked zero = refl
none_marked (suc u) = refl

no_two : (m : Mark) → mark.Free ≡ m → m ≢ mark.Unwritten
no_two m e f = free_not (e ∙ f)
  where
    free_not : mark.Free ≡ mark.Unwritten → ⊥
    free_not e = cc

not_written : mark.Free ≡ mark.Written → ⊥
not_written e = cc

no_variable : (x : ℕ) (i : VarInfo) → slice_get [] x ≡ Some i → ⊥
no_variable x i e = let l = slice_get_within [] x i e in absurd (omega arith)

stands_none : Stands [] [] [] 0 grounded
stands_none = record {
  words = solves_none word_difference AnyWords;
  places = solves_none place_difference (ArePlaceNumbers []);
  placed = record {
    null = flat_root 0;
    level = λ v l. flat_above v;
    types = λ x y i j g. absurd (no_variable x i g);
    pointers = λ x i g. absurd (no_variable x i g);
    made = λ x i g. absurd (no_variable x i g);
    owned = λ k l. absurd (omega arith);
    owner = λ r e. absurd (never_both (owner_at (false ∷ []) r) e (none_owner r));
    some = λ k l. absurd (omega arith);
    distinct = λ i j b l. absurd (omega arith);
    inside = λ k l. absurd (omega arith);
  };
  marks = record {
    there = λ void all. record {
      unwritten = λ u e. absurd (no_two (mark_at (mark.Free ∷ []) u) (sym (none_marked u)) e);
      written = λ u e. absurd (not_written (sym (none_marked u) ∙ e));
    };
    back = λ void g. All-nil (IsMarkedBy void);
    cells = λ x i e g. absurd (no_variable x i g);
    written = λ k l. absurd (omega arith);
  };
  bare = λ i l. absurd (omega arith);
  words_ranked = ranked_one;
  places_ranked = ranked_one;
  few_words = omega arith;
  word_ranks = first_rank;
  place_ranks = first_rank;
}
  where
    first_rank : (v : ℕ) → v < length one → Rattle.px_plain.specs.Trees.rank_at one v ≤ 0
    first_rank zero l = omega arith
    first_rank (suc v) l = absurd (omega arith)

is_none : IsOf grounded []
is_none = record {
  sorted = All-nil (IsWellSorted []);
  few = omega arith;
  count = omega arith;
  vars = refl;
  depth = refl;
  words = refl;
  places = refl;
  marks = refl;
  owners = refl;
  answer = stands_none;
}

-- what had no node of 0 holds nothing
pub begun : (c e : Content) → c.words ≡ [] → (c ≡ bare → e ≡ grounded) → (items : List HeldItem) → HoldsItems c items → HoldsItems e items × IsOf e items
begun c e z q [] (inl b) = let f = q b in (inr f, subst (λ x. IsOf x []) (sym f) is_none)
begun c e z q [] (inr b) = absurd (not_empty (sym (ap (λ (x : Content). x.words) b) ∙ z))
  where
    not_empty : ground ∷ [] ≡ [] → ⊥
    not_empty f = cc
begun c e z q (i ∷ items) h = let n = h.0.words in let s = ap length z in absurd (omega arith)

-- what has one is as it was
pub ready : (c e : Content) → c.words ≢ [] → e ≡ c → (items : List HeldItem) → HoldsItems c items → HoldsItems e items × IsOf e items
ready c e n q [] (inl b) = absurd (n (ap (λ (x : Content). x.words) b))
ready c e n q [] (inr b) = let f = q ∙ b in (inr f, subst (λ x. IsOf x []) (sym f) is_none)
ready c e n q (i ∷ items) h = subst (λ x. HoldsItems x (i ∷ items) × IsOf x (i ∷ items)) (sym q) (h, h.0)

-- ---- the answer

pub answered : (c : Content) (items : List HeldItem) → HoldsItems c items → (b : Bool) → b ≡ is_refuted (last_step c.steps) → b ≡ true ↔ IsPlainlyRefuted (held_vars items) (held_conjuncts items)
answered c [] h b e = (
  λ q. absurd (never_both b q (e ∙ none_refuted h)),
  λ r. absurd (not_refuted_yet [] [] [] 0 grounded (All-nil (IsWellSorted [])) (omega arith) (omega arith) refl stands_none r),
)
  where
    none_refuted : (c ≡ bare) ⊎ (c ≡ grounded) → is_refuted (last_step c.steps) ≡ false
    none_refuted (inl q) = ap (λ (x : Content). is_refuted (last_step x.steps)) q
    none_refuted (inr q) = ap (λ (x : Content). is_refuted (last_step x.steps)) q
answered c (i ∷ items) h b e =
    let g = h.0 in (
      λ q. refuted c (i ∷ items) g (sym e ∙ q),
      λ r. elim (cases_Bool b) [
        | inl q ↦ q
        | inr q ↦ absurd (not_refuted_yet (held_vars (i ∷ items)) (held_apart (i ∷ items)) (held_conjuncts (i ∷ items)) (held_count (i ∷ items)) c g.sorted g.few g.count (places_size c (i ∷ items) g) (unrefuted c (i ∷ items) g (sym e ∙ q)) r)
      ],
    )

-- ---- two lists that one stack holds

pub counted : (items : List HeldItem) → held_count items + length (held_vars items) ≡ length items
counted [] = refl
counted (OfVar i ∷ items) = let h = counted items in let n = length-append (held_vars items) (i ∷ []) in let s : length (OfVar i ∷ items) ≡ length items + 1 = omega arith in omega arith
counted (OfConj c ∷ items) = let h = counted items in let s : length (OfConj c ∷ items) ≡ length items + 1 = omega arith in omega arith
counted (OfApart x ∷ items) = let h = counted items in let s : length (OfApart x ∷ items) ≡ length items + 1 = omega arith in omega arith

module _ (c : Content) (items others : List HeldItem) (g : IsOf c items) (o : IsOf c others) where
  pub same_vars : held_vars items ≡ held_vars others
  same_vars = sym g.vars ∙ o.vars

  pub same_count : held_count items ≡ held_count others
  same_count =
      let a = counted items in
      let b = counted others in
      let p = g.depth in
      let q = o.depth in
      let v = ap length same_vars in
      omega arith
