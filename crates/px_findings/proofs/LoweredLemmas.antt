-- Bodies that are lowered one after another.
use Rattle.std.proofs.Common.{◌≡◌, ℕ, ◌+◌, ◌<◌, ◌≤◌, List, [], ◌∷◌, ◌++◌, length, drop, map, Bool, true, false, Option, Some, None, is_none, Ok, Err, refl, sym, ap, ◌∙◌, subst, append-nil, arith, nat_lt}
use Rattle.std.specs.Prelude.{slice_get, option_map, IsSomeAnd, cond}
use Rattle.std.proofs.lemmas.Bool.{ltb-true, ltb-false}
use Rattle.std.proofs.lemmas.List.{drop_all}
use Rattle.px_core.specs.declared.body.Body.{Body}
use Rattle.px_core.specs.Sizes.{commands_size}
use Rattle.px_core.specs.BodyTree.{BodyTree, body_tree}
use Rattle.px_syntax.specs.ProgramTree.{ProcedureTree}
use Rattle.px_lower.specs.declared.fault.LowerFault.TheVariants.{TooLarge}
use Rattle.px_lower.specs.LoweredProgram.{AnswersOf, lowered}
use Rattle.px_findings.specs.Found.{is_too_large, body_in}
use Rattle.px_findings.specs.Bodies.{body_or_empty, AreLowered}
use Rattle.px_findings.proofs.Places.{item_at, one_more}

-- ---- one body

small_in : (p : ProcedureTree) (z : Bool) → z ≡ false → Some (lowered p) ≡ (cond z None (Some (lowered p)))
small_in p true e = let n : ⊥ = cc in absurd n
small_in p false e = refl

large_in : (p : ProcedureTree) (z : Bool) → z ≡ true → None ≡ (cond z None (Some (lowered p)))
large_in p true e = refl
large_in p false e = let n : ⊥ = cc in absurd n

size_small : (n : ℕ) (z : Bool) → nat_lt 2000 n ≡ z → n ≤ 2000 → z ≡ false
size_small n true e l = let m = ltb-true 2000 n e in let k : ⊥ = omega arith in absurd k
size_small n false e l = refl

size_large : (n : ℕ) (z : Bool) → nat_lt 2000 n ≡ z → 2000 < n → z ≡ true
size_large n true e l = refl
size_large n false e l = let m = ltb-false 2000 n e in let k : ⊥ = omega arith in absurd k

pub small_body : (o : Option ProcedureTree) (b : Body) → IsSomeAnd (option_map lowered o) (λ t. AnswersOf t (Ok b)) → Some (body_tree b) ≡ body_in o
small_body None b h = absurd h
small_body (Some p) b h = ap Some h.0 ∙ small_in p (is_too_large p) (size_small (commands_size (lowered p).commands) (is_too_large p) refl h.1)

pub large_body : (o : Option ProcedureTree) (n : ℕ) → IsSomeAnd (option_map lowered o) (λ t. AnswersOf t (Err (TooLarge n))) → None ≡ body_in o
large_body None n h = absurd h
large_body (Some p) n h = large_in p (is_too_large p) (size_large (commands_size (lowered p).commands) (is_too_large p) refl (subst (λ m. 2000 < m) (sym h.0) h.1))

-- ---- one after another

abbrev standing : ProcedureTree → BodyTree
standing p = body_or_empty (body_in (Some p))

abbrev missing : ProcedureTree → Bool
missing p = is_none (body_in (Some p))

-- those so far, and those of the procedures that are left
pub record AreSoFar (ps : List ProcedureTree) (bodies : List BodyTree) (large : List Bool) (i : ℕ) : Type 0 where
  pub bodies_are : bodies ++ map standing (drop i ps) ≡ map standing ps
  pub large_are : large ++ map missing (drop i ps) ≡ map missing ps

none_alike : (body : Option Body) (o : Option BodyTree) → option_map body_tree body ≡ o → is_none body ≡ is_none o
none_alike None o e = ap is_none e
none_alike (Some b) o e = ap is_none e

pub lowered_more : (ps : List ProcedureTree) (bodies new : List BodyTree) (large more : List Bool) (i : ℕ) (body : Option Body) → i < length ps → option_map body_tree body ≡ body_in (slice_get ps i) →
    new ≡ bodies ++ body_or_empty (option_map body_tree body) ∷ [] → more ≡ large ++ is_none body ∷ [] → AreSoFar ps bodies large i → AreSoFar ps new more (i + 1)
lowered_more ps bodies new large more i body below is pushed marked h =
    let (p, at, read) = item_at ps i below in
    let same : option_map body_tree body ≡ body_in (Some p) = is ∙ ap body_in at in
    record {
      bodies_are = one_more standing ps bodies new i p below (sym read) (pushed ∙ ap (λ o. bodies ++ body_or_empty o ∷ []) same) h.bodies_are;
      large_are = one_more missing ps large more i p below (sym read) (marked ∙ ap (λ z. large ++ z ∷ []) (none_alike body (body_in (Some p)) same)) h.large_are;
    }

pub all_lowered : (ps : List ProcedureTree) (bodies : List Body) (large : List Bool) (i : ℕ) → length ps ≤ i → AreSoFar ps (map body_tree bodies) large i → AreLowered ps bodies large
all_lowered ps bodies large i above h =
    let none : drop i ps ≡ [] = drop_all i ps above in
    record {
      bodies_are = sym (append-nil (map body_tree bodies)) ∙ ap (λ z. map body_tree bodies ++ map standing z) (sym none) ∙ h.bodies_are;
      large_are = sym (append-nil large) ∙ ap (λ z. large ++ map missing z) (sym none) ∙ h.large_are;
    }
