-- Statements that are put behind others.
use Rattle.std.proofs.Common.{◌≡◌, subst, Result, OnOk, List, ◌++◌}
use Rattle.px_syntax.specs.TypedTree.{Statement}

-- what is put is also that
pub put_as : {E : Type 0} (r : Result Unit E) (old new xs ys : List Statement) → xs ≡ ys → OnOk r (new ≡ old ++ xs) → OnOk r (new ≡ old ++ ys)
put_as r old new xs ys e h = subst (λ z. OnOk r (new ≡ old ++ z)) e h
