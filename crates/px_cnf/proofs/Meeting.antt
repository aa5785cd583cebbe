-- Clauses that are met or below a number, and what more clauses force.
use Rattle.std.proofs.Common.{◌≡◌, ℕ, zero, suc, ◌<◌, ◌≤◌, List, [], ◌∷◌, ◌++◌, refl, sym, ap, ap₂, subst, ◌∙◌, arith}
use Rattle.std.specs.Prelude.{Bool, true, false, not, ◌&&◌, ◌||◌, cond, Contains, ◌⊎◌}
use Rattle.std.specs.List.{list_any}
use Rattle.std.proofs.Common.{inl, inr}
use Rattle.std.proofs.lemmas.Bool.{and_parts, and_from, or_parts}
use Rattle.std.proofs.lemmas.List.Elements.{All-head, All-tail, All-weaker}
use Rattle.std.proofs.lemmas.List.Folds.{list_all-append}
use Rattle.px_cnf.specs.declared.literal.Literal.{Literal}
use Rattle.px_cnf.specs.Clauses.{Assignment, holds, negated, is_met, are_met, Meets, AreBelow, AreClausesBelow, Forced, is_given, by_unit}

-- the first element, or one of the others
pub contains_cases : {X : Type 0} (x y : X) (xs : List X) → Contains (x ∷ xs) y → (x ≡ y) ⊎ Contains xs y
contains_cases x y xs (zero, l, e) = inl e
contains_cases x y xs (suc k, l, e) = inr (k, omega arith, e)

pub contains_head : {X : Type 0} (x : X) (xs : List X) → Contains (x ∷ xs) x
contains_head x xs = (0, omega arith, refl)

-- no element passes a test that none passes
pub none_passes : {X : Type 0} (p : X → Bool) (xs : List X) (x : X) → list_any p xs ≡ false → Contains xs x → p x ≡ false
none_passes p [] x h (k, l, e) = absurd (omega arith)
none_passes p (y ∷ ys) x h c = elim (contains_cases y x ys c) [
  | inl e ↦ subst (λ z. p z ≡ false) e (or_parts (p y) (list_any p ys) h).0
  | inr d ↦ none_passes p ys x (or_parts (p y) (list_any p ys) h).1 d
]

pub holds-negated : (a : Assignment) (l : Literal) → holds a (negated l) ≡ not (holds a l)
holds-negated a l = by_sign (a l.variable) l.positive
  where
    by_sign : (v s : Bool) → cond (not s) v (not v) ≡ not (cond s v (not v))
    by_sign true true = refl
    by_sign true false = refl
    by_sign false true = refl
    by_sign false false = refl

-- assignments that are the same below n make the same of what is below n
pub holds_same : (n : ℕ) (a b : Assignment) (l : Literal) → ((x : ℕ) → x < n → b x ≡ a x) → l.variable < n → holds b l ≡ holds a l
holds_same n a b l s h = ap (λ (v : Bool). cond l.positive v (not v)) (s l.variable h)

pub is_met_same : (n : ℕ) (a b : Assignment) (clause : List Literal) → ((x : ℕ) → x < n → b x ≡ a x) → AreBelow n clause → is_met b clause ≡ is_met a clause
is_met_same n a b [] s h = refl
is_met_same n a b (l ∷ ls) s h =
    ap₂ (λ (x y : Bool). x || y) (holds_same n a b l s (All-head (λ (m : Literal). m.variable < n) l ls h)) (is_met_same n a b ls s (All-tail (λ (m : Literal). m.variable < n) l ls h))

pub are_met_same : (n : ℕ) (a b : Assignment) (clauses : List (List Literal)) → ((x : ℕ) → x < n → b x ≡ a x) → AreClausesBelow n clauses → are_met b clauses ≡ are_met a clauses
are_met_same n a b [] s h = refl
are_met_same n a b (c ∷ cs) s h =
    ap₂ (λ (x y : Bool). x && y) (is_met_same n a b c s (All-head (AreBelow n) c cs h)) (are_met_same n a b cs s (All-tail (AreBelow n) c cs h))

-- both lists are met
pub meets_both : (a : Assignment) (cs ds : List (List Literal)) → Meets a cs → Meets a ds → Meets a (cs ++ ds)
meets_both a cs ds h k = list_all-append (is_met a) cs ds ∙ and_from (are_met a cs) (are_met a ds) h k

pub meets_parts : (a : Assignment) (cs ds : List (List Literal)) → Meets a (cs ++ ds) → Meets a cs × Meets a ds
meets_parts a cs ds h = and_parts (are_met a cs) (are_met a ds) (sym (list_all-append (is_met a) cs ds) ∙ h)

pub meets_at : (a : Assignment) (cs : List (List Literal)) (c : List Literal) → Meets a cs → Contains cs c → is_met a c ≡ true
meets_at a [] c h (k, l, e) = absurd (omega arith)
meets_at a (d ∷ ds) c h k = elim (contains_cases d c ds k) [
  | inl e ↦ subst (λ x. is_met a x ≡ true) e (and_parts (is_met a d) (are_met a ds) h).0
  | inr m ↦ meets_at a ds c (and_parts (is_met a d) (are_met a ds) h).1 m
]

-- what is below a number is below a greater one
pub below_more : (n m : ℕ) (ls : List Literal) → n ≤ m → AreBelow n ls → AreBelow m ls
below_more n m ls l h = All-weaker (λ (x : Literal). x.variable < n) (λ (x : Literal). x.variable < m) (λ x k. omega arith) ls h

pub clauses_below_more : (n m : ℕ) (cs : List (List Literal)) → n ≤ m → AreClausesBelow n cs → AreClausesBelow m cs
clauses_below_more n m cs l h = All-weaker (AreBelow n) (AreBelow m) (λ c k. below_more n m c l k) cs h

-- more clauses and more given literals force what fewer force
pub forced_more : (cs ds : List (List Literal)) (given more : Literal → Type 0) (l : Literal)
    → ((c : List Literal) → Contains cs c → Contains ds c) → ((m : Literal) → given m → Forced ds more m) → Forced cs given l → Forced ds more l
forced_more cs ds given more l f g (is_given h) = g l h
forced_more cs ds given more l f g (by_unit c i k others) = by_unit c (f c i) k (λ m s e. forced_more cs ds given more (negated m) f g (others m s e))
