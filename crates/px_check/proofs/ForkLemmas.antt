-- Forks, and the steps that lists have in common at first.
use Rattle.std.proofs.Common.{◌≡◌, ◌↔◌, Bool, true, false, None, ℕ, zero, suc, ◌+◌, ◌<◌, ◌≤◌, List, [], ◌∷◌, ◌++◌, length, get_or, take, Some, slice_get, sym, ◌∙◌, ap, subst, arith}
use Rattle.std.specs.Prelude.{All}
use Rattle.std.proofs.lemmas.List.{take_all}
use Rattle.std.proofs.lemmas.List.Elements.{All-push}
use Rattle.px_entry.specs.declared.derivations.Step.{Step}
use Rattle.px_callgraph.specs.JobTree.{JobTree}
use Rattle.px_callgraph.specs.declared.outcomes.StepOutcome.TheVariants.{Next}
use Rattle.px_callgraph.specs.Alternatives.{Walk}
use Rattle.px_walks.specs.Walks.{walk_of}
use Rattle.px_check.specs.declared.forks.Fork.{Fork}
use Rattle.px_check.specs.Follows.{Follows, IsForkOf, IsForkFor}

pub one_more_shared : (xs ys : List Step) (i : ℕ) (x : Step) → take i xs ≡ take i ys → i < length xs → x ≡ get_or xs i x → slice_get ys i ≡ Some x → take (i + 1) xs ≡ take (i + 1) ys
one_more_shared xs ys i x same less at there = let e : suc i ≡ i + 1 = omega arith in subst (λ n. take n xs ≡ take n ys) e (by xs ys i same less at there)
  where
    by : (xs ys : List Step) (i : ℕ) → take i xs ≡ take i ys → i < length xs → x ≡ get_or xs i x → slice_get ys i ≡ Some x → take (suc i) xs ≡ take (suc i) ys
    by [] ys i same less at there = absurd (none i less)
      where
        none : (i : ℕ) → i < 0 → ⊥
        none i h = omega (arith, h)
    by (z ∷ xs) [] zero same less at there = cc
    by (z ∷ xs) [] (suc i) same less at there = cc
    by (z ∷ xs) (y ∷ ys) zero same less at there = let f : y ≡ x = cc in ap (λ w. w ∷ []) (sym at ∙ sym f)
    by (z ∷ xs) (y ∷ ys) (suc i) same less at there =
        let f : z ≡ y = cc in
        let g : take i xs ≡ take i ys = cc in
        ap (λ w. w ∷ take (suc i) xs) f ∙ ap (λ ws. y ∷ ws) (by xs ys i g (omega (arith, less)) at there)

pub all_shared : (xs ys : List Step) (i : ℕ) → take i xs ≡ take i ys → length xs ≤ i → i ≤ length xs → take (length xs) xs ≡ take (length xs) ys
all_shared xs ys i same least most = let e : i ≡ length xs = omega (arith, least, most) in subst (λ n. take n xs ≡ take n ys) e same

-- whether a step stands at a place, where another does or none
pub at_some : (steps : List Step) (i : ℕ) (x y : Step) (b : Bool) → slice_get steps i ≡ Some x → (b ≡ true ↔ x ≡ y) → (b ≡ true ↔ slice_get steps i ≡ Some y)
at_some steps i x y b there k = (λ e. there ∙ ap Some (k.0 e), λ h. k.1 (let f : Some x ≡ Some y = sym there ∙ h in cc))

pub at_none : (steps : List Step) (i : ℕ) (y : Step) → slice_get steps i ≡ None → (false ≡ true ↔ slice_get steps i ≡ Some y)
at_none steps i y there = (λ e. cc, λ h. let f : None ≡ Some y = sym there ∙ h in cc)

-- ---- forks

-- one more is put upon them
pub kept : (j : JobTree) (old new : List Fork) (f : Fork) (w : Walk) → new ≡ old ++ f ∷ [] → walk_of f.walk ≡ w → Follows j f.taken.now f.place (Next w) → All (IsForkOf j) old →
    All (IsForkOf j) new
kept j old new f w e same h all = subst (All (IsForkOf j)) (sym e) (All-push (IsForkOf j) old f all (subst (λ z. Follows j f.taken.now f.place (Next z)) (sym same) h))

-- steps that begin with those of a fork go on there
pub fork_for : (j : JobTree) (steps : List Step) (f : Fork) (n : ℕ) → IsForkOf j f → take n f.taken.now ≡ take n steps → length f.taken.now ≤ n → n ≤ length f.taken.now → IsForkFor j steps f
fork_for j steps f n h same most least =
    let e : n ≡ f.place = equal h.size most least in
    (h, ap (λ m. take m steps) (sym e) ∙ sym same ∙ take_all n f.taken.now most)
  where
    equal : length f.taken.now ≡ f.place → length f.taken.now ≤ n → n ≤ length f.taken.now → n ≡ f.place
    equal s l m = omega (arith, s, l, m)

-- and the steps of a fork lead where it stands
pub goes_on : (j : JobTree) (steps : List Step) (f : Fork) → IsForkFor j steps f → Follows j (take f.place steps) f.place (Next (walk_of f.walk))
goes_on j steps f (h, e) = subst (λ z. Follows j z f.place (Next (walk_of f.walk))) (sym e) h
