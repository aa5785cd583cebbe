-- A course that is said stays the same where more acts are looked at.
use Rattle.std.proofs.Common.{◌≡◌, ℕ, zero, suc, ◌+◌, List, [], ◌∷◌, length, Bool, true, false, Option, Some, None, refl, sym, ◌∙◌, ap, subst, arith}
use Rattle.std.specs.Prelude.{⊤}
use Rattle.px_entry.specs.declared.derivations.Rule.{Rule}
use Rattle.px_entry.specs.declared.derivations.Step.{Step}
use Rattle.px_callgraph.specs.JobTree.{JobTree}
use Rattle.px_callgraph.specs.declared.outcomes.StepOutcome.TheVariants.{Next, Ends, Cut, Past}
use Rattle.px_callgraph.specs.Alternatives.{Walk, Leads, start}
use Rattle.px_callgraph.specs.Derivations.{Course, fails_at, comes_to, unsaid, onward, by_use, by_step, by_item, uses_atom, use_rule, item_step, take_listed, is_silent, course, RunsTo}
use Rattle.px_callgraph.specs.declared.states.Way.TheVariants as way

abbrev pub IsSaid : Course → Type 0
IsSaid (fails_at i r) = ⊤
IsSaid (comes_to i s exit result rest) = ⊤
IsSaid unsaid = ⊥

-- what the first says, the second says too
abbrev Says : Course → Course → Type 0
Says c d = IsSaid c → d ≡ c

abbrev SaysMore : (ℕ → List Step → Leads → Course) → (ℕ → List Step → Leads → Course) → Type 0
SaysMore go more = (i : ℕ) (steps : List Step) (a : Leads) → Says (go i steps a) (more i steps a)

onward_more : (failed : Course) (go more : Leads → Course) → ((a : Leads) → Says (go a) (more a)) → (o : Option Leads) → Says (onward failed go o) (onward failed more o)
onward_more failed go more h None s = refl
onward_more failed go more h (Some a) s = h a s

use_more : (go more : ℕ → List Step → Leads → Course) → SaysMore go more → (i : ℕ) (steps : List Step) (n : ℕ) (o : Option Rule) (a : Leads) →
    Says (by_use go i steps n o a) (by_use more i steps n o a)
use_more go more h i steps n None a s = h i steps a s
use_more go more h i [] n (Some r) a s = refl
use_more go more h i (st ∷ steps) n (Some r) a s = by (uses_atom r n st) s
  where
    by : (b : Bool) → Says (elim b as (λ _. Course) [ true ↦ go (suc i) steps a | false ↦ fails_at i st.rule ]) (elim b as (λ _. Course) [ true ↦ more (suc i) steps a | false ↦ fails_at i st.rule ])
    by true s = h (suc i) steps a s
    by false s = refl

step_more : (j : JobTree) (go more : ℕ → List Step → Leads → Course) → SaysMore go more → (i : ℕ) (steps : List Step) (w : Walk) →
    Says (by_step j go i steps w) (by_step j more i steps w)
step_more j go more h i [] w s = refl
step_more j go more h i (st ∷ steps) w s =
    onward_more (fails_at i st.rule) _ _ (use_more go more h (suc i) steps (length w.state.atoms) (use_rule w.control st.rule)) (item_step j w w.control st.rule st.choices) s

item_more : (j : JobTree) (go more : ℕ → List Step → Leads → Course) → SaysMore go more → (i : ℕ) (steps : List Step) (w : Walk) (b : Bool) →
    Says (by_item j go i steps w b) (by_item j more i steps w b)
item_more j go more h i steps w true = onward_more _ _ _ (h i steps) (take_listed j w way.On)
item_more j go more h i steps w false = step_more j go more h i steps w

pub one_more : (n : ℕ) (j : JobTree) → SaysMore (course n j) (course (suc n) j)
one_more zero j i steps a s = absurd s
one_more (suc n) j i steps (Next w) s = item_more j (course n j) (course (suc n) j) (one_more n j) i steps w (is_silent w.control) s
one_more (suc n) j i steps (Ends t exit result) s = refl
one_more (suc n) j i steps (Cut t gap) s = refl
one_more (suc n) j i steps (Past t) s = refl

said_more : (m n : ℕ) (j : JobTree) → SaysMore (course n j) (course (m + n) j)
said_more zero n j i steps a s = let z : zero + n ≡ n = omega arith in ap (λ k. course k j i steps a) z
said_more (suc m) n j i steps a s =
    let e = said_more m n j i steps a s in
    let z : suc m + n ≡ suc (m + n) = omega arith in
    ap (λ k. course k j i steps a) z ∙ one_more (m + n) j i steps a (subst IsSaid (sym e) s) ∙ e

-- a course from the start is one, whatever the number of acts
pub one_course : (j : JobTree) (steps : List Step) (c d : Course) → IsSaid c → IsSaid d → RunsTo j steps c → RunsTo j steps d → c ≡ d
one_course j steps c d s t r q =
    let a : course (q.0 + r.0) j 0 steps (Next (start j)) ≡ c = said_more q.0 r.0 j 0 steps (Next (start j)) (subst IsSaid (sym r.1) s) ∙ r.1 in
    let b : course (r.0 + q.0) j 0 steps (Next (start j)) ≡ d = said_more r.0 q.0 j 0 steps (Next (start j)) (subst IsSaid (sym q.1) t) ∙ q.1 in
    let e : q.0 + r.0 ≡ r.0 + q.0 = omega arith in
    sym a ∙ ap (λ n. course n j 0 steps (Next (start j))) e ∙ b
