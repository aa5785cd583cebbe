-- Monomials, read one by one.
use Rattle.std.proofs.Common.{◌≡◌, ℕ, ◌<◌, List, length, get_or, sym, ap, subst, ◌∙◌, map, arith}
use Rattle.std.specs.Prelude.{All}
use Rattle.std.proofs.lemmas.List.{get_or-map, length-map}
use Rattle.px_terms.specs.Terms.{Term}
use Rattle.px_terms.specs.Monomials.{term_of}
use Rattle.px_terms.specs.declared.monomial.Monomial.{Monomial}

pub of_each : (P : Term → Type 0) (ms : List (Monomial 4)) (ts : List Term) (i : ℕ) (m : Monomial 4) → map term_of ms ≡ ts → All P ts → i < length ms → m ≡ get_or ms i m → P (term_of m)
of_each P ms ts i m f h l g =
    let size : length (map (term_of {n = 4}) ms) ≡ length ms = length-map ms (term_of {n = 4}) in
    let same = ap length f in
    let e : get_or ts i (term_of m) ≡ term_of m = ap (λ z. get_or z i (term_of m)) (sym f) ∙ get_or-map term_of ms i m (term_of m) l ∙ ap term_of (sym g) in
    subst P e (h i (term_of m) (omega arith))
