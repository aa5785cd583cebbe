-- The innermost open loop.
use Rattle.std.proofs.Common.{◌≡◌, ℕ, List, [], ◌∷◌, ◌++◌, Option, Some, None, refl, ap, sym, ◌∙◌, suc, ◌-◌, length, slice_get, arith}
use Rattle.std.specs.Prelude.{option_to_list, IfNone}
use Rattle.px_base.specs.declared.trace.Site.{Site}
use Rattle.px_callgraph.specs.Commands.{last_loop, all_but_last}
use Rattle.px_callgraph.proofs.LengthLemmas.{but_last_is}

none_left : (xs : List (Site × ℕ)) → xs ++ [] ≡ [] → xs ≡ all_but_last []
none_left [] e = refl
none_left (x ∷ xs) e = cc

-- what is left where one is taken off the end
pub rest_left : (all rest : List (Site × ℕ)) (o : Option (Site × ℕ)) → all ≡ rest ++ option_to_list o → IfNone o (all ≡ []) → rest ≡ all_but_last all
rest_left all rest None e n = none_left rest (sym e ∙ n) ∙ ap all_but_last (sym n)
rest_left all rest (Some l) e n = sym (but_last_is rest l) ∙ ap all_but_last (sym e)

pub last_get : (xs : List (Site × ℕ)) → slice_get xs (length xs - 1) ≡ last_loop xs
last_get [] = refl
last_get (x ∷ []) = refl
last_get (x ∷ y ∷ xs) =
    let e : length (x ∷ y ∷ xs) - 1 ≡ suc (length (y ∷ xs) - 1) = omega arith in
    ap (slice_get (x ∷ y ∷ xs)) e ∙ last_get (y ∷ xs)
