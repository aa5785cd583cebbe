-- Pieces one after another, and two lists of left-out items put together.
use Rattle.std.proofs.Common.{◌≡◌, ℕ, List, ◌∷◌, [], ◌++◌, ap, ◌∙◌, append_assoc}
use Rattle.px_syntax.specs.declared.program.Left.{Left}
use Rattle.px_text_report.specs.LeftOut.{those_before, those_after, by_place}

-- four pieces one after another
pub four : (out o1 o2 o3 o4 a b c d : List ℕ) → o1 ≡ out ++ a → o2 ≡ o1 ++ b → o3 ≡ o2 ++ c → o4 ≡ o3 ++ d → o4 ≡ out ++ (a ++ (b ++ (c ++ d)))
four out o1 o2 o3 o4 a b c d e1 e2 e3 e4 =
    e4 ∙ ap (λ z. z ++ d) (e3 ∙ ap (λ z. z ++ c) (e2 ∙ ap (λ z. z ++ b) e1))
    ∙ append_assoc ((out ++ a) ++ b) c d ∙ append_assoc (out ++ a) b (c ++ d) ∙ append_assoc out a (b ++ (c ++ d))

-- one item more of the first list, after those of the second that come before it
pub one_more : (all all1 all2 : List Left) (x : Left) (xs ys zs : List Left) → all1 ≡ all ++ those_before x.site ys → all2 ≡ all1 ++ x ∷ [] → zs ≡ those_after x.site ys →
    all2 ++ by_place xs zs ≡ all ++ by_place (x ∷ xs) ys
one_more all all1 all2 x xs ys zs e1 e2 e3 =
    let before = those_before x.site ys in
    let rest = by_place xs (those_after x.site ys) in
    ap (λ z. all2 ++ by_place xs z) e3
    ∙ ap (λ z. z ++ rest) (e2 ∙ ap (λ z. z ++ x ∷ []) e1)
    ∙ append_assoc (all ++ before) (x ∷ []) rest ∙ append_assoc all before (x ∷ rest)
