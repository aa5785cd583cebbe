-- What plain conjuncts say of nodes: node 0 is the number 0 and null, and node x + 1 the variable x.
use Rattle.std.specs.Prelude.{ℕ, ◌+◌, ◌-◌, ◌^◌, List, [], ◌∷◌, Bool, true, false, Option, Some, None, cond, nat_eq, flat_map, option_to_list, All, ⊤, ◌<◌, ◌≤◌}
use Rattle.px_terms.specs.Terms.{Term}
use Rattle.px_terms.specs.declared.conjuncts.Place.{Place}
use Rattle.px_terms.specs.declared.conjuncts.Place.TheVariants as place
use Rattle.px_terms.specs.declared.conjuncts.Conj.{Conj}
use Rattle.px_terms.specs.declared.conjuncts.Conj.TheVariants.{Equal, Unequal, Less, AtMost, SamePlace, OtherPlace, Written, Unwritten, Quotient}
use Rattle.px_plain.specs.declared.nodes.Difference.{Difference}
use Rattle.px_plain.specs.declared.nodes.SignedVar.{SignedVar}
use Rattle.px_plain.specs.declared.nodes.SignedVar.TheVariants.{Plus, Minus}

-- ---- sums

abbrev pub signed_among : ℕ → List ℕ → Option SignedVar
signed_among c [] = None
signed_among c (x ∷ []) = cond (nat_eq c 1) (Some (Plus x)) (cond (nat_eq c (2 ^ 32 - 1)) (Some (Minus x)) None)
signed_among c (x ∷ y ∷ ys) = None

-- the term as x or -x
abbrev pub signed_of : Term → Option SignedVar
signed_of t = signed_among t.coefficient t.vars

-- x + c is 0 where 0 is c above x, and -x + c where x is c above 0
abbrev pub of_one : ℕ → Bool → SignedVar → Option Difference
of_one c equal (Plus x) = Some (record { from = x + 1; to = 0; plus = c; equal = equal })
of_one c equal (Minus x) = Some (record { from = 0; to = x + 1; plus = c; equal = equal })

-- x - y + c is 0 where y is c above x
abbrev pub of_two : ℕ → Bool → SignedVar → SignedVar → Option Difference
of_two c equal (Plus x) (Plus y) = None
of_two c equal (Plus x) (Minus y) = Some (record { from = x + 1; to = y + 1; plus = c; equal = equal })
of_two c equal (Minus y) (Plus x) = Some (record { from = x + 1; to = y + 1; plus = c; equal = equal })
of_two c equal (Minus x) (Minus y) = None

abbrev pub with_one : ℕ → Bool → Option SignedVar → Option Difference
with_one c equal None = None
with_one c equal (Some u) = of_one c equal u

abbrev pub with_two : ℕ → Bool → Option SignedVar → Option SignedVar → Option Difference
with_two c equal None w = None
with_two c equal (Some u) None = None
with_two c equal (Some u) (Some w) = of_two c equal u w

abbrev pub of_sum : ℕ → Bool → List Term → Option Difference
of_sum c equal [] = Some (record { from = 0; to = 0; plus = c; equal = equal })
of_sum c equal (s ∷ []) = with_one c equal (signed_of s)
of_sum c equal (s ∷ t ∷ []) = with_two c equal (signed_of s) (signed_of t)
of_sum c equal (s ∷ t ∷ u ∷ us) = None

-- ---- conjuncts

-- the difference that a plain equality or disequality of words is
abbrev pub word_difference : Conj → Option Difference
word_difference (Equal p) = of_sum p.constant true p.monomials
word_difference (Unequal p) = of_sum p.constant false p.monomials
word_difference (Less p q) = None
word_difference (AtMost p q) = None
word_difference (SamePlace a b) = None
word_difference (OtherPlace a b) = None
word_difference (Written x) = None
word_difference (Unwritten x) = None
word_difference (Quotient x p q) = None

abbrev pub node_of : Place → ℕ
node_of place.Null = 0
node_of (place.Var x) = x.0 + 1

abbrev pub same_or_other : Place → Place → Bool → Difference
same_or_other a b equal = record { from = node_of a; to = node_of b; plus = 0; equal = equal }

-- the difference that a conjunct of places is
abbrev pub place_difference : Conj → Option Difference
place_difference (Equal p) = None
place_difference (Unequal p) = None
place_difference (Less p q) = None
place_difference (AtMost p q) = None
place_difference (SamePlace a b) = Some (same_or_other a b true)
place_difference (OtherPlace a b) = Some (same_or_other a b false)
place_difference (Written x) = None
place_difference (Unwritten x) = None
place_difference (Quotient x p q) = None

-- the node that `Unwritten` names
abbrev pub unwritten_node : Conj → Option ℕ
unwritten_node (Equal p) = None
unwritten_node (Unequal p) = None
unwritten_node (Less p q) = None
unwritten_node (AtMost p q) = None
unwritten_node (SamePlace a b) = None
unwritten_node (OtherPlace a b) = None
unwritten_node (Written x) = None
unwritten_node (Unwritten x) = Some (x.0 + 1)
unwritten_node (Quotient x p q) = None

-- the node that `Written` names
abbrev pub written_node : Conj → Option ℕ
written_node (Equal p) = None
written_node (Unequal p) = None
written_node (Less p q) = None
written_node (AtMost p q) = None
written_node (SamePlace a b) = None
written_node (OtherPlace a b) = None
written_node (Written x) = Some (x.0 + 1)
written_node (Unwritten x) = None
written_node (Quotient x p q) = None

-- ---- small variables

abbrev pub IsSmall : SignedVar → Type 0
IsSmall (Plus x) = x < 65536
IsSmall (Minus x) = x < 65536

-- a conjunct whose variables are below 65,536
abbrev pub HasSmallVariables : Conj → Type 0
HasSmallVariables (Equal p) = All (λ t. All (λ x. x < 65536) t.vars) p.monomials
HasSmallVariables (Unequal p) = All (λ t. All (λ x. x < 65536) t.vars) p.monomials
HasSmallVariables (Less p q) = ⊤
HasSmallVariables (AtMost p q) = ⊤
HasSmallVariables (SamePlace a b) = (node_of a ≤ 65536) × (node_of b ≤ 65536)
HasSmallVariables (OtherPlace a b) = (node_of a ≤ 65536) × (node_of b ≤ 65536)
HasSmallVariables (Written x) = x.0 < 65536
HasSmallVariables (Unwritten x) = x.0 < 65536
HasSmallVariables (Quotient x p q) = ⊤

-- ---- lists

abbrev pub word_differences : List Conj → List Difference
word_differences cs = flat_map (λ c. option_to_list (word_difference c)) cs

abbrev pub place_differences : List Conj → List Difference
place_differences cs = flat_map (λ c. option_to_list (place_difference c)) cs

abbrev pub unwritten_nodes : List Conj → List ℕ
unwritten_nodes cs = flat_map (λ c. option_to_list (unwritten_node c)) cs

abbrev pub written_nodes : List Conj → List ℕ
written_nodes cs = flat_map (λ c. option_to_list (written_node c)) cs
