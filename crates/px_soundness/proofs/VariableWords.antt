-- The variable that a content is has the content's word.
use Rattle.std.proofs.Common.{◌≡◌, ℕ, ◌+◌, ◌*◌, ◌%◌, ◌^◌, Bool, true, false, cond, nat_eq, Option, Some, None, List, [], ◌∷◌, refl, ap, ap₂, ◌∙◌, arith}
use Rattle.std.proofs.Math.Nat.{mod-mod}
use Rattle.std.proofs.lemmas.Bool.{eqb-true}
use Rattle.std.proofs.lemmas.Option.{none-some, same_Some}
use Rattle.px_terms.specs.Terms.{Term, product_at, value_at}
use Rattle.px_terms.specs.Valuations.{Valuation, number_of, numbers_of}
use Rattle.px_terms.specs.declared.variables.Var.{Var}
use Rattle.px_terms.specs.declared.conjuncts.Content.{Content}
use Rattle.px_terms.specs.declared.conjuncts.Content.TheVariants.{Unwritten, Word, Place, Cell}
use Rattle.px_terms.proofs.TermWords.{word_back}
use Rattle.px_callgraph.specs.Renaming.{variable_among, variable_in_sum, variable_in}
use Rattle.px_soundness.proofs.Through.{stood}

some_if : (b : Bool) (o : Option Var) (z : Var) → cond b o None ≡ Some z → (b ≡ true) × (o ≡ Some z)
some_if true o z e = (refl, e)
some_if false o z e = absurd (none-some z e)

plain : (n : ℕ) → (0 + (1 * (n * 1) + 0)) % 2 ^ 32 ≡ n % 2 ^ 32
plain n = omega arith

module _ (f : ℕ → ℕ) where
  product_word : (k c : ℕ) (xs : List ℕ) (z : Var) → k ≡ 0 → variable_among c xs ≡ Some z → (k + (c * product_at f xs + 0)) % 2 ^ 32 ≡ f z.0 % 2 ^ 32
  product_word k c [] z e a = absurd (none-some z a)
  product_word k c (x ∷ []) z e a =
      let (b, same) = some_if (nat_eq c 1) (Some (record { 0 = x })) z a in
      let one : c ≡ 1 = eqb-true c 1 b in
      let is : x ≡ z.0 = ap (λ (y : Var). y.0) (same_Some (record { 0 = x }) z same) in
      ap₂ (λ (m n : ℕ). (m + (n * (f x * 1) + 0)) % 2 ^ 32) e one ∙ plain (f x) ∙ ap (λ y. f y % 2 ^ 32) is
  product_word k c (x ∷ y ∷ xs) z e a = absurd (none-some z a)

  sum_word : (k : ℕ) (ts : List Term) (z : Var) → cond (nat_eq k 0) (variable_in_sum ts) None ≡ Some z → (k + value_at f ts) % 2 ^ 32 ≡ f z.0 % 2 ^ 32
  sum_word k [] z e = absurd (none-some z (some_if (nat_eq k 0) None z e).1)
  sum_word k (t ∷ []) z e = let (b, among) = some_if (nat_eq k 0) (variable_among t.coefficient t.vars) z e in product_word k t.coefficient t.vars z (eqb-true k 0 b) among
  sum_word k (t ∷ u ∷ ts) z e = absurd (none-some z (some_if (nat_eq k 0) None z e).1)

pub variable_number : (v : Valuation) (o : Option Content) (z : Var) → variable_in o ≡ Some z → number_of (stood v o) % 2 ^ 32 ≡ numbers_of v z.0 % 2 ^ 32
variable_number v None z e = absurd (none-some z e)
variable_number v (Some Unwritten) z e = absurd (none-some z e)
variable_number v (Some (Place a)) z e = absurd (none-some z e)
variable_number v (Some (Cell y)) z e = ap (λ (k : Var). numbers_of v k.0 % 2 ^ 32) (same_Some y z e)
variable_number v (Some (Word p)) z e =
    ap (λ n. n % 2 ^ 32) (word_back v p) ∙ mod-mod (p.constant + value_at (numbers_of v) p.monomials) (2 ^ 32) ∙ sum_word (numbers_of v) p.constant p.monomials z e
