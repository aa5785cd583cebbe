-- What each item of a list has, by the first one and the rest.
use Rattle.std.proofs.Common.{◌≡◌, ◌↔◌, inl, inr, ℕ, List, ◌∷◌, ◌++◌, map, take, drop, length, Bool, true, subst, ap, sym, ◌∙◌}
use Rattle.std.specs.Prelude.{All}
use Rattle.std.proofs.Math.Seq.{take-append_seam}
use Rattle.std.proofs.lemmas.List.Elements.{All-head, All-tail, All-cons}
use Rattle.px_terms.specs.Rules.{RulesOut, SomeRulesOut}
use Rattle.px_terms.specs.declared.conjuncts.Conj.{Conj}

module _ {A : Type 0} (P : A → Type 0) (xs : List A) (x : A) (rest : List A) (e : xs ≡ x ∷ rest) where
  pub first_of : All P xs → P x
  first_of h = All-head P x rest (subst (All P) e h)

  pub rest_of : All P xs → All P rest
  rest_of h = All-tail P x rest (subst (All P) e h)

-- both change: what each had, each has then
pub each_then : {A : Type 0} (P Q : A → Type 0) (xs : List A) (x : A) (rest : List A) (y : A) (ys : List A) → xs ≡ x ∷ rest
    → (P x → Q y) → (All P rest → All Q ys) → All P xs → All Q (y ∷ ys)
each_then P Q xs x rest y ys e one others h = All-cons Q y ys (one (first_of P xs x rest e h)) (others (rest_of P xs x rest e h))

-- where the rule of the first one doesn't rule out, some rule does where one of the rest does
pub by_the_rest : {A : Type 0} (number : A → ℕ) (cs : List Conj) (xs : List A) (x : A) (rest : List A) (answer : Bool) → xs ≡ x ∷ rest → ¬ RulesOut (number x) cs
    → (answer ≡ true ↔ SomeRulesOut (map number rest) cs) → (answer ≡ true ↔ SomeRulesOut (map number xs) cs)
by_the_rest number cs xs x rest answer e none exactly = subst (λ zs. answer ≡ true ↔ SomeRulesOut (map number zs) cs) (sym e) (
  λ t. inr (exactly.0 t),
  λ h. elim h [ inl r ↦ absurd (none r) | inr s ↦ exactly.1 s ],
)

-- what was lent whole comes back as it was written
pub written_back : {A : Type 0} (old new : List A) (n : ℕ) → n ≡ length old → length new ≡ length old → take n (new ++ drop (length new) old) ≡ new
written_back old new n is many = ap (λ k. take k (new ++ drop (length new) old)) (is ∙ sym many) ∙ take-append_seam new (drop (length new) old)
