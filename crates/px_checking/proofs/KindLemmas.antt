-- Domains in the order of their kinds.
use Rattle.std.proofs.Common.{ℕ, ◌≤◌, Bool, List, [], ◌∷◌, Option, map, arith}
use Rattle.std.proofs.lemmas.List.{get_or-map, length-map}
use Rattle.std.proofs.lemmas.List.Elements.{All-from_recursion, recursion_from_All}
use Rattle.std.proofs.lemmas.List.Sorted.{IsPermutation-map, IsPermutation-trans, All-permutation}
use Rattle.std.proofs.lemmas.Map.Keys.{IsDistinct-IsPermutation}
use Rattle.std.specs.Prelude.{nat_eq}
use Rattle.std.specs.List.{IsDistinct}
use Rattle.std.specs.List.Sorted.{IsPermutation, IsNonDecreasing, IsNonDecreasingBy}
use Rattle.px_syntax.specs.ProgramTree.{ProgramTree}
use Rattle.px_checking.specs.Findings.{IsCheckOf}
use Rattle.px_checking.specs.Ways.{Way}
use Rattle.px_checking.specs.Kinds.{AreDifferent, AreOwnKinds, IsRisingOf}
use Rattle.px_terms.proofs.Tests.{same_either_way}

module _ {X : Type 0} (kind : X → ℕ) where
  pub kinds_rise : (xs : List X) → IsNonDecreasingBy kind xs → IsNonDecreasing (map kind xs)
  kinds_rise [] h i j d le lt = absurd (omega arith)
  kinds_rise (x ∷ xs) h i j d le lt =
      let many = length-map (x ∷ xs) kind in
      rw (get_or-map kind (x ∷ xs) i x d (omega (arith, many)), get_or-map kind (x ∷ xs) j x d (omega (arith, many))) (h i j x le (omega (arith, many)))

  pub rising_of : (xs ys : List X) → IsPermutation xs ys → IsNonDecreasingBy kind ys → IsRisingOf (map kind xs) (map kind ys)
  rising_of xs ys same up = (IsPermutation-map kind xs ys same, kinds_rise ys up)

to_distinct : (kinds : List ℕ) → AreDifferent kinds → IsDistinct nat_eq kinds
unfolding IsDistinct
to_distinct [] h = tt
to_distinct (k ∷ kinds) h = (h.0, to_distinct kinds h.1)

from_distinct : (kinds : List ℕ) → IsDistinct nat_eq kinds → AreDifferent kinds
unfolding IsDistinct
from_distinct [] h = tt
from_distinct (k ∷ kinds) h = (h.0, from_distinct kinds h.1)

-- kinds in another order are as different
pub still_own : (given kinds : List ℕ) → IsRisingOf given kinds → AreOwnKinds given → AreOwnKinds kinds
still_own given kinds rising own = (
  recursion_from_All (λ k. (1 ≤ k) × (k ≤ 3)) kinds (All-permutation (λ k. (1 ≤ k) × (k ≤ 3)) given kinds rising.0 (All-from_recursion (λ k. (1 ≤ k) × (k ≤ 3)) given own.0)),
  from_distinct kinds (IsDistinct-IsPermutation nat_eq same_either_way given kinds rising.0 (to_distinct given own.1)),
)

-- a check with the help of domains in some order is one with the same domains in another
pub check_of : (way : Way) (given sorted : List ℕ) (P : ProgramTree) (text : List ℕ) (b : Bool) (line : Option (List ℕ)) → IsRisingOf given sorted → IsCheckOf way sorted P text b line → IsCheckOf way given P text b line
check_of way given sorted P text b line rising c = record {
  kinds = c.kinds;
  rising = (IsPermutation-trans given sorted c.kinds rising.0 c.rising.0, c.rising.1);
  findings = c.findings;
  found = c.found;
  backed = c.backed;
  rest = c.rest;
  after = c.after;
  text_is = c.text_is;
  bug = c.bug;
  line_is = c.line_is;
}
