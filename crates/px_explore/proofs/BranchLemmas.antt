-- How what is left to visit changes where a point of choice is put on, or its next way is taken.
use Rattle.std.proofs.Common.{◌≡◌, ℕ, zero, suc, ◌+◌, ◌<◌, ◌≤◌, List, [], ◌∷◌, ◌++◌, length, get_or, drop, refl, sym, ◌∙◌, ap, subst, arith, append-nil, append_assoc}
use Rattle.std.specs.Prelude.{Contains, Result, Ok, Err, IfOk}
use Rattle.std.proofs.Math.Seq.{drop-cons}
use Rattle.px_entry.specs.declared.derivations.Step.{Step}
use Rattle.px_callgraph.specs.declared.states.Way.{Way}
use Rattle.px_callgraph.specs.JobTree.{JobTree}
use Rattle.px_callgraph.specs.Alternatives.{Walk, Leads, ways, act}
use Rattle.px_walks.specs.Walks.{walk_of}
use Rattle.px_explore.specs.declared.stops.Fork.{Fork}
use Rattle.px_explore.specs.declared.branch_points.BranchPoint.{BranchPoint}
use Rattle.px_explore.specs.Taken.{steps_with}
use Rattle.px_explore.specs.Paths.{paths}
use Rattle.px_explore.specs.Stops.{extensions}
use Rattle.px_explore.specs.Thinned.{IsLeft}
use Rattle.px_explore.specs.BranchPoints.{left_at, left_of, AreForks, IsAdvanced}
use Rattle.px_explore.proofs.StandLemmas.{stands_by}

-- the value has both
pub both_ok : {X E : Type 0} (P Q R : X → Type 0) (r : Result X E) → ((x : X) → P x → Q x → R x) → IfOk r P → IfOk r Q → IfOk r R
both_ok P Q R (Ok x) f p q = f x p q
both_ok P Q R (Err e) f p q = tt

-- of equal walks and steps
pub same_steps : (w v : Walk) (name : Way) (so_far steps new : List Step) → w ≡ v → so_far ≡ steps → new ≡ steps_with w name so_far → new ≡ steps_with v name steps
same_steps w v name so_far steps new e f h = h ∙ ap (λ z. steps_with z name so_far) e ∙ ap (steps_with v name) f

pub left_push : (j : JobTree) (fs : List BranchPoint) (f : BranchPoint) → left_of j (fs ++ f ∷ []) ≡ left_at j f ++ left_of j fs
left_push j [] f = sym (append-nil (left_at j f))
left_push j (g ∷ fs) f = ap (λ z. z ++ left_at j g) (left_push j fs f) ∙ append_assoc (left_at j f) (left_of j fs) (left_at j g)

pub forks_push : (j : JobTree) (fs : List BranchPoint) (f : BranchPoint) → AreForks j fs → IsLeft j f.fork → AreForks j (fs ++ f ∷ [])
forks_push j [] f h k = (k, tt)
forks_push j (g ∷ fs) f h k = (h.0, forks_push j fs f h.1 k)

pub forks_pop : (j : JobTree) (fs : List BranchPoint) (f : BranchPoint) → AreForks j (fs ++ f ∷ []) → IsLeft j f.fork × AreForks j fs
forks_pop j [] f h = (h.0, tt)
forks_pop j (g ∷ fs) f h = let r = forks_pop j fs f h.1 in (r.0, (h.0, r.1))

-- those by the next way, and those by the ways after it
one_more : (j : JobTree) (steps new : List Step) (w : Walk) (listed : List Way) (next : ℕ) (name : Way) (from : Leads) → next < length listed → name ≡ get_or listed next name →
    new ≡ steps_with w name steps → from ≡ act j w name → extensions j steps w (drop next listed) ≡ paths j new from ++ extensions j steps w (drop (next + 1) listed)
one_more j steps new w listed next name from h g t n =
    let e : suc next ≡ next + 1 = omega arith in
    ap (λ z. extensions j steps w z) (drop-cons listed next name h)
    ∙ ap (λ z. paths j (steps_with w z steps) (act j w z) ++ extensions j steps w (drop (suc next) listed)) (sym g)
    ∙ ap (λ z. paths j z (act j w name) ++ extensions j steps w (drop (suc next) listed)) (sym t)
    ∙ ap (λ z. paths j new z ++ extensions j steps w (drop (suc next) listed)) (sym n) ∙ ap (λ z. paths j new from ++ extensions j steps w (drop z listed)) e

none_left : (xs : List Way) (n : ℕ) → length xs ≤ n → drop n xs ≡ []
none_left [] zero h = refl
none_left [] (suc n) h = refl
none_left (x ∷ xs) zero h = absurd (omega arith)
none_left (x ∷ xs) (suc n) h = none_left xs n (omega arith)

-- a point whose next way is taken, and that isn't done
pub advanced : (j : JobTree) (f g : BranchPoint) (old new : List BranchPoint) (steps : List Step) (name : Way) (from : Leads) → length j.body.parameters ≤ 8192 → IsLeft j f.fork →
    g.fork ≡ f.fork → g.next ≡ f.next + 1 → new ≡ old ++ g ∷ [] → f.next < length f.fork.ways.items → name ≡ get_or f.fork.ways.items f.next name →
    steps ≡ steps_with (walk_of f.fork.walk) name f.fork.steps → from ≡ act j (walk_of f.fork.walk) name → IsAdvanced j f old new steps from
advanced j f g old new steps name from l k a b p h i t n =
    let w = walk_of f.fork.walk in
    let so_far = f.fork.steps in
    let listed = f.fork.ways.items in
    let e : left_at j g ≡ extensions j so_far w (drop (f.next + 1) listed) =
    ap (λ (z : Fork). extensions j z.steps (walk_of z.walk) (drop g.next z.ways.items)) a ∙ ap (λ z. extensions j so_far w (drop z listed)) b in record {
      left = ap (λ z. paths j steps from ++ z) (ap (left_of j) p ∙ left_push j old g ∙ ap (λ z. z ++ left_of j old) e)
          ∙ sym (append_assoc (paths j steps from) (extensions j so_far w (drop (f.next + 1) listed)) (left_of j old))
          ∙ ap (λ z. z ++ left_of j old) (sym (one_more j so_far steps w listed f.next name from h i t n));
      stands = stands_by j w name from l k.reached (subst (Contains (ways j w)) (sym i) (k.listed f.next name h)) n;
      forks = λ q. subst (AreForks j) (sym p) (forks_push j old g q (subst (IsLeft j) (sym a) k));
    }

-- and one that is done
pub advanced_last : (j : JobTree) (f : BranchPoint) (old new : List BranchPoint) (steps : List Step) (name : Way) (from : Leads) → length j.body.parameters ≤ 8192 → IsLeft j f.fork →
    new ≡ old → length f.fork.ways.items ≤ f.next + 1 → f.next < length f.fork.ways.items → name ≡ get_or f.fork.ways.items f.next name →
    steps ≡ steps_with (walk_of f.fork.walk) name f.fork.steps → from ≡ act j (walk_of f.fork.walk) name → IsAdvanced j f old new steps from
advanced_last j f old new steps name from l k p d h i t n =
    let w = walk_of f.fork.walk in
    let so_far = f.fork.steps in
    let listed = f.fork.ways.items in record {
      left = ap (λ z. paths j steps from ++ left_of j z) p
          ∙ ap (λ z. z ++ left_of j old)
          (sym (one_more j so_far steps w listed f.next name from h i t n ∙ ap (λ z. paths j steps from ++ extensions j so_far w z) (none_left listed (f.next + 1) d) ∙ append-nil (paths j steps from)));
      stands = stands_by j w name from l k.reached (subst (Contains (ways j w)) (sym i) (k.listed f.next name h)) n;
      forks = λ q. subst (AreForks j) (sym p) q;
    }
