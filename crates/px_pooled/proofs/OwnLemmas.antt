-- Books of the program's own parts.
use Rattle.std.proofs.Common.{◌≡◌, ◌∙◌, ℕ, zero, suc, ◌≤◌, List, [], ◌∷◌, length, map, Bool, true, false, cond, None, Some, sym, ap, subst, arith}
use Rattle.std.specs.List.{AllByRecursion}
use Rattle.std.proofs.lemmas.Option.{same_Some}
use Rattle.px_base.specs.LimitNumbers.{LimitNumbers}
use Rattle.px_base.specs.Bounds.{most_parameters}
use Rattle.px_core.specs.declared.body.Body.{Body}
use Rattle.px_core.specs.BodyTree.{BodyTree, body_tree}
use Rattle.px_syntax.specs.ProgramTree.{ProcedureTree, ProgramTree}
use Rattle.px_lower.specs.LoweredProgram.{lowered}
use Rattle.px_findings.specs.Found.{is_too_large}
use Rattle.px_findings.specs.Bodies.{body_or_empty}
use Rattle.px_findings.proofs.PlanLemmas.{standing}
use Rattle.px_callgraph.specs.CallGraphs.{bodies_in}
use Rattle.px_jobs.specs.Sources.{AreEqualSources}
use Rattle.px_book.specs.Books.{BookParts, new_book}
use Rattle.px_pooled.specs.declared.parts.Parts.{Parts}
use Rattle.px_pooled.specs.Making.{AreSourcesOf, ArePartsOf, AreFew, IsOwn, sources_in}

module _ (P : ProgramTree) (limits : LimitNumbers) (kinds : List ℕ) (p : Parts) (are : ArePartsOf P limits kinds p) where
  -- a book that was made of equal parts
  pub equal_own : (b : BookParts) → p.desk.kept ≡ length b.graph → AreEqualSources b.sources (sources_in p) → IsOwn P limits kinds b
  equal_own b kept same = record {
    sources = record {
      bodies = same.bodies ∙ are.sources.bodies;
      types = same.types ∙ are.sources.types;
      limits_are = same.limits ∙ are.sources.limits_are;
      kinds_are = same.kinds ∙ are.sources.kinds_are;
      out = same.out ∙ are.sources.out;
    };
    many = sym kept ∙ are.many;
  }

  -- a new one
  pub new_own : IsOwn P limits kinds (new_book (sources_in p) p.desk.graph)
  new_own = record { sources = are.sources; many = are.many_graph ∙ are.many }

-- a later one
pub still_own : (P : ProgramTree) (limits : LimitNumbers) (kinds : List ℕ) (b c : BookParts) → c.sources ≡ b.sources → c.graph ≡ b.graph → IsOwn P limits kinds b → IsOwn P limits kinds c
still_own P limits kinds b c sources graph own = record {
  sources = subst (AreSourcesOf P limits kinds) (sym sources) own.sources;
  many = ap length graph ∙ own.many;
}

-- bodies that say the same have as many parameters
pub few_same : (xs ys : List Body) → map body_tree xs ≡ map body_tree ys → AreFew ys → AreFew xs
few_same [] ys e few = tt
few_same (x ∷ xs) [] e few = let no : ⊥ = cc in absurd no
few_same (x ∷ xs) (y ∷ ys) e few =
    let here : body_tree x ≡ body_tree y = cc in
    let rest : map body_tree xs ≡ map body_tree ys = cc in
    (subst (λ (t : BodyTree). length t.parameters ≤ most_parameters) (sym here) few.0, few_same xs ys rest few.1)

-- each of few parameters
pub few_at : (xs : List Body) (n : ℕ) (t : BodyTree) → AreFew xs → bodies_in xs n ≡ Some t → length t.parameters ≤ most_parameters
few_at [] n t few e = let no : ⊥ = cc in absurd no
few_at (x ∷ xs) zero t few e = subst (λ (b : BodyTree). length b.parameters ≤ most_parameters) (same_Some _ _ e) few.0
few_at (x ∷ xs) (suc n) t few e = few_at xs n t few.1 e

-- bodies that were lowered of procedures with few parameters
pub few_lowered : (xs : List Body) (ps : List ProcedureTree) → map body_tree xs ≡ map standing ps → AllByRecursion (λ (p : ProcedureTree). length p.parameters ≤ most_parameters) ps → AreFew xs
few_lowered [] ps e few = tt
few_lowered (x ∷ xs) [] e few = let no : ⊥ = cc in absurd no
few_lowered (x ∷ xs) (p ∷ ps) e few =
    let here : body_tree x ≡ standing p = cc in
    let rest : map body_tree xs ≡ map standing ps = cc in
    (subst (λ (t : BodyTree). length t.parameters ≤ most_parameters) (sym here) (by (is_too_large p) few.0), few_lowered xs ps rest few.1)
  where
    by : (z : Bool) → length p.parameters ≤ most_parameters → length (body_or_empty (cond z None (Some (lowered p)))).parameters ≤ most_parameters
    by true l = omega arith
    by false l = l
