-- Conjuncts, one after another, and clauses that are joined.
use Rattle.std.proofs.Common.{◌≡◌, ◌↔◌, ℕ, ◌+◌, ◌<◌, ◌≤◌, List, [], ◌∷◌, ◌++◌, length, take, get_or, refl, sym, ap, subst, ◌∙◌}
use Rattle.std.specs.Prelude.{Contains}
use Rattle.std.proofs.lemmas.List.{take_more, take_all}
use Rattle.std.proofs.lemmas.List.Elements.{All-push, All-append, All-head, Contains-append_left}
use Rattle.px_terms.proofs.Evaluation.{All-left, All-right}
use Rattle.px_terms.specs.declared.conjuncts.Conj.{Conj}
use Rattle.px_plain.specs.Ties.{IsTrueOf}
use Rattle.px_cnf.specs.declared.literal.Literal.{Literal}
use Rattle.px_cnf.specs.Clauses.{Assignment, Meets, AreBelow, AreClausesBelow}
use Rattle.px_cnf.specs.Standing.{AreTrueOf, AreJoined}
use Rattle.px_cnf.proofs.Meeting.{meets_both, meets_parts}

-- one conjunct more
true_more : (w : ℕ → ℕ) (cs : List Conj) (i : ℕ) (c : Conj) → i < length cs → c ≡ get_or cs i c → (AreTrueOf w (take i cs) × IsTrueOf w c) ↔ AreTrueOf w (take (i + 1) cs)
true_more w cs i c l e =
    let t : take (i + 1) cs ≡ take i cs ++ c ∷ [] = take_more cs i c l ∙ ap (λ (d : Conj). take i cs ++ d ∷ []) (sym e) in (
      λ h. subst (AreTrueOf w) (sym t) (All-push (IsTrueOf w) (take i cs) c h.0 h.1),
      λ h. let k = subst (AreTrueOf w) t h in
          (All-left (IsTrueOf w) (take i cs) (c ∷ []) k, All-head (IsTrueOf w) c [] (All-right (IsTrueOf w) (take i cs) (c ∷ []) k)),
    )

pub value_more : (w : ℕ → ℕ) (cs : List Conj) (i : ℕ) (c : Conj) (old new : Type 0) → i < length cs → c ≡ get_or cs i c → (new ↔ (old × IsTrueOf w c)) → (old ↔ AreTrueOf w (take i cs))
    → new ↔ AreTrueOf w (take (i + 1) cs)
value_more w cs i c old new l e h k =
    let m = true_more w cs i c l e in
    (λ x. let (p, q) = h.0 x in m.0 (k.0 p, q), λ x. let (p, q) = m.1 x in h.1 (k.1 p, q))

pub value_end : (w : ℕ → ℕ) (cs : List Conj) (i : ℕ) (met : Type 0) → length cs ≤ i → (met ↔ AreTrueOf w (take i cs)) → met ↔ AreTrueOf w cs
value_end w cs i met l h = subst (λ (ds : List Conj). met ↔ AreTrueOf w ds) (take_all i cs l) h

-- ---- clauses that are joined, from the end of the second list

pub record Joins (first second clauses more : List (List Literal)) : Type 0 where
  pub met : (a : Assignment) → (Meets a clauses × Meets a more) ↔ (Meets a first × Meets a second)
  pub below : (n : ℕ) → AreClausesBelow n first → AreClausesBelow n second → AreClausesBelow n clauses × AreClausesBelow n more
  pub kept : (c : List Literal) → Contains first c → Contains clauses c

pub joins_none : (first second : List (List Literal)) → Joins first second first second
joins_none first second = record { met = λ a. (λ h. h, λ h. h); below = λ n h k. (h, k); kept = λ c h. h }

pub joins_next : (first second clauses more rest next : List (List Literal)) (c : List Literal) → more ≡ rest ++ c ∷ [] → next ≡ clauses ++ c ∷ [] → Joins first second clauses more → Joins first second next rest
joins_next first second clauses more rest next c e f j = record {
  met = λ a. (
    λ h. let (p, q) = meets_parts a clauses (c ∷ []) (subst (Meets a) f h.0) in (j.met a).0 (p, subst (Meets a) (sym e) (meets_both a rest (c ∷ []) h.1 q)),
    λ h. let (p, q) = (j.met a).1 h in
        let (r, s) = meets_parts a rest (c ∷ []) (subst (Meets a) e q) in
        (subst (Meets a) (sym f) (meets_both a clauses (c ∷ []) p s), r),
  );
  below = λ n h k.
      let (p, q) = j.below n h k in
      let r = subst (AreClausesBelow n) e q in
      (subst (AreClausesBelow n) (sym f) (All-append (AreBelow n) clauses (c ∷ []) p (All-right (AreBelow n) rest (c ∷ []) r)), All-left (AreBelow n) rest (c ∷ []) r);
  kept = λ d h. subst (λ (cs : List (List Literal)). Contains cs d) (sym f) (Contains-append_left clauses (c ∷ []) d (j.kept d h));
}

pub joins_end : (first second clauses more : List (List Literal)) → more ≡ [] → Joins first second clauses more → AreJoined first second clauses
joins_end first second clauses more e j = record {
  met = λ a. (λ h. (j.met a).0 (h, subst (Meets a) (sym e) refl), λ h. ((j.met a).1 h).0);
  below = λ n h k. (j.below n h k).0;
  kept = j.kept;
}
