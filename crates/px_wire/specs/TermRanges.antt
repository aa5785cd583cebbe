-- Whether variables and block types are among so many.
use Rattle.std.specs.Prelude.{ℕ, Bool, true, ◌&&◌, nat_lt}
use Rattle.std.specs.List.{list_all}
use Rattle.px_terms.specs.Polynomials.{Polynomial}
use Rattle.px_terms.specs.declared.types.ValueType.{ValueType}
use Rattle.px_terms.specs.declared.types.ValueType.TheVariants.{Int, Pointer}
use Rattle.px_terms.specs.declared.types.BlockType.{BlockType}
use Rattle.px_terms.specs.declared.types.BlockType.TheVariants.{One, Fields, Opaque}
use Rattle.px_terms.specs.declared.variables.VarInfo.{VarInfo}
use Rattle.px_terms.specs.declared.conjuncts.Place.{Place}
use Rattle.px_terms.specs.declared.conjuncts.Place.TheVariants as P
use Rattle.px_terms.specs.declared.conjuncts.Content.{Content}
use Rattle.px_terms.specs.declared.conjuncts.Content.TheVariants as C
use Rattle.px_terms.specs.declared.conjuncts.Conj.{Conj}
use Rattle.px_terms.specs.declared.conjuncts.Conj.TheVariants as J

-- ---- block types, of which there are t

abbrev pub value_type_within : ℕ → ValueType → Bool
value_type_within t Int = true
value_type_within t (Pointer i) = nat_lt i.0 t

abbrev pub block_type_within : ℕ → BlockType → Bool
block_type_within t (One cell) = value_type_within t cell
block_type_within t (Fields cells) = list_all (value_type_within t) cells
block_type_within t Opaque = true

abbrev pub var_info_within : ℕ → VarInfo → Bool
var_info_within t i = value_type_within t i.value

-- ---- variables, of which there are v

abbrev pub polynomial_within : ℕ → Polynomial → Bool
polynomial_within v p = list_all (λ m. list_all (λ x. nat_lt x v) m.vars) p.monomials

abbrev pub place_within : ℕ → Place → Bool
place_within v P.Null = true
place_within v (P.Var x) = nat_lt x.0 v

abbrev pub content_within : ℕ → Content → Bool
content_within v C.Unwritten = true
content_within v (C.Word p) = polynomial_within v p
content_within v (C.Place a) = place_within v a
content_within v (C.Cell x) = nat_lt x.0 v

abbrev pub conj_within : ℕ → Conj → Bool
conj_within v (J.Equal p) = polynomial_within v p
conj_within v (J.Unequal p) = polynomial_within v p
conj_within v (J.Less p q) = polynomial_within v p && polynomial_within v q
conj_within v (J.AtMost p q) = polynomial_within v p && polynomial_within v q
conj_within v (J.SamePlace a b) = place_within v a && place_within v b
conj_within v (J.OtherPlace a b) = place_within v a && place_within v b
conj_within v (J.Written x) = nat_lt x.0 v
conj_within v (J.Unwritten x) = nat_lt x.0 v
conj_within v (J.Quotient x p q) = nat_lt x.0 v && (polynomial_within v p && polynomial_within v q)
