-- Lists of bodies that say the same, and of functions that are.
use Rattle.std.proofs.Common.{◌≡◌, ℕ, zero, suc, ◌<◌, List, [], ◌∷◌, length, map, sym, ap, ◌∙◌, arith}
use Rattle.std.specs.Prelude.{slice_index_or}
use Rattle.std.specs.Bool.{Decides}
use Rattle.std.proofs.lemmas.Bool.Decides.{Decides-eqb}
use Rattle.px_base.specs.declared.trace.ProcId.{ProcId}
use Rattle.px_base.specs.contracts.trace.ProcIdPartialEq
use Rattle.px_core.specs.declared.body.Body.{Body}
use Rattle.px_core.specs.BodyTree.{body_tree}

-- the bodies at a place
pub body_at : (xs ys : List Body) (i : ℕ) (x y : Body) → i < length xs → map body_tree xs ≡ map body_tree ys → x ≡ slice_index_or xs i x → y ≡ slice_index_or ys i y → body_tree x ≡ body_tree y
body_at [] ys i x y l e ix iy = absurd (omega arith)
body_at (a ∷ xs) [] i x y l e ix iy = cc
body_at (a ∷ xs) (b ∷ ys) zero x y l e ix iy = let h : body_tree a ≡ body_tree b = cc in ap body_tree ix ∙ h ∙ sym (ap body_tree iy)
body_at (a ∷ xs) (b ∷ ys) (suc i) x y l e ix iy =
    let t : map body_tree xs ≡ map body_tree ys = cc in
    body_at xs ys i x y (omega arith) t ix iy

-- the test for equal functions decides whether they are equal
pub function_decides : (x y : ProcId) → Decides (ProcIdPartialEq.TheImpl.eq-value.it x y) (x ≡ y)
function_decides x y = let d = Decides-eqb x.0 y.0 in (λ e. ap (λ n. function_of n) (d.0 e), λ e. d.1 (ap (λ (p : ProcId). p.0) e))
  where
    function_of : ℕ → ProcId
    function_of n = record { 0 = n }
