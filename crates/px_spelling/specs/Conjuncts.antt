-- Places, contents and conjuncts.
use Rattle.std.specs.Prelude.{ℕ, List, [], ◌∷◌, ◌++◌, ◌==◌, if◌then◌else◌, ⊤}
use Rattle.px_terms.specs.declared.variables.Var.{Var}
use Rattle.px_terms.specs.declared.conjuncts.Place.{Place}
use Rattle.px_terms.specs.declared.conjuncts.Place.TheVariants as P
use Rattle.px_terms.specs.declared.conjuncts.Content.{Content}
use Rattle.px_terms.specs.declared.conjuncts.Content.TheVariants as C
use Rattle.px_terms.specs.declared.conjuncts.Conj.{Conj}
use Rattle.px_terms.specs.declared.conjuncts.Conj.TheVariants as J
use Rattle.px_spelling.specs.Reading.{Reader, ◌>>=◌, ◌<*>◌, done, nothing}
use Rattle.px_spelling.specs.Numbers.{u8_at}
use Rattle.px_spelling.specs.Types.{var_bytes, IsVar, var_at}
use Rattle.px_spelling.specs.Polynomials.{PolynomialSpelling}

-- null, or the block of a variable
abbrev pub place_bytes : Place → List ℕ
place_bytes P.Null = 0 ∷ []
place_bytes (P.Var a) = 1 ∷ var_bytes a

abbrev pub IsPlace : Place → Type 0
IsPlace P.Null = ⊤
IsPlace (P.Var a) = IsVar a

unfoldable pub place_with : ℕ → Reader Place
place_with tag =
    if tag == 0 then done P.Null else (
    if tag == 1 then done P.Var <*> var_at else nothing)

unfoldable pub place_at : Reader Place
place_at = u8_at >>= place_with

-- what a cell holds, in a spelling of polynomials
abbrev pub content_bytes : PolynomialSpelling → Content → List ℕ
content_bytes p C.Unwritten = 0 ∷ []
content_bytes p (C.Word a) = 1 ∷ p.bytes_of a
content_bytes p (C.Place a) = 2 ∷ place_bytes a
content_bytes p (C.Cell a) = 3 ∷ var_bytes a

abbrev pub IsContent : PolynomialSpelling → Content → Type 0
IsContent p C.Unwritten = ⊤
IsContent p (C.Word a) = p.fits a
IsContent p (C.Place a) = IsPlace a
IsContent p (C.Cell a) = IsVar a

unfoldable pub content_with : PolynomialSpelling → ℕ → Reader Content
content_with p tag =
    if tag == 0 then done C.Unwritten else (
    if tag == 1 then done C.Word <*> p.at else (
    if tag == 2 then done C.Place <*> place_at else (
    if tag == 3 then done C.Cell <*> var_at else nothing)))

unfoldable pub content_at : PolynomialSpelling → Reader Content
content_at p = u8_at >>= content_with p

-- a condition on variables, in a spelling of polynomials
abbrev pub conj_bytes : PolynomialSpelling → Conj → List ℕ
conj_bytes p (J.Equal a) = 0 ∷ p.bytes_of a
conj_bytes p (J.Unequal a) = 1 ∷ p.bytes_of a
conj_bytes p (J.Less a b) = 2 ∷ (p.bytes_of a ++ p.bytes_of b)
conj_bytes p (J.AtMost a b) = 3 ∷ (p.bytes_of a ++ p.bytes_of b)
conj_bytes p (J.SamePlace a b) = 4 ∷ (place_bytes a ++ place_bytes b)
conj_bytes p (J.OtherPlace a b) = 5 ∷ (place_bytes a ++ place_bytes b)
conj_bytes p (J.Written a) = 6 ∷ var_bytes a
conj_bytes p (J.Unwritten a) = 7 ∷ var_bytes a
conj_bytes p (J.Quotient x a b) = 8 ∷ (var_bytes x ++ p.bytes_of a ++ p.bytes_of b)

abbrev pub IsConj : PolynomialSpelling → Conj → Type 0
IsConj p (J.Equal a) = p.fits a
IsConj p (J.Unequal a) = p.fits a
IsConj p (J.Less a b) = p.fits a × p.fits b
IsConj p (J.AtMost a b) = p.fits a × p.fits b
IsConj p (J.SamePlace a b) = IsPlace a × IsPlace b
IsConj p (J.OtherPlace a b) = IsPlace a × IsPlace b
IsConj p (J.Written a) = IsVar a
IsConj p (J.Unwritten a) = IsVar a
IsConj p (J.Quotient x a b) = IsVar x × p.fits a × p.fits b

unfoldable pub conj_with : PolynomialSpelling → ℕ → Reader Conj
conj_with p tag =
    if tag == 0 then done J.Equal <*> p.at else (
    if tag == 1 then done J.Unequal <*> p.at else (
    if tag == 2 then done J.Less <*> p.at <*> p.at else (
    if tag == 3 then done J.AtMost <*> p.at <*> p.at else (
    if tag == 4 then done J.SamePlace <*> place_at <*> place_at else (
    if tag == 5 then done J.OtherPlace <*> place_at <*> place_at else (
    if tag == 6 then done J.Written <*> var_at else (
    if tag == 7 then done J.Unwritten <*> var_at else (
    if tag == 8 then done J.Quotient <*> var_at <*> p.at <*> p.at else nothing))))))))

unfoldable pub conj_at : PolynomialSpelling → Reader Conj
conj_at p = u8_at >>= conj_with p
