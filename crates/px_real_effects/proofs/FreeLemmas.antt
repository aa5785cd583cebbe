-- `free`, by the number of its arguments.
use Rattle.std.proofs.Common.{◌≡◌, ◌≢◌, ◌∙◌, refl, ap, List, [], ◌∷◌, length, get_or, codes, arith}
use Rattle.px_base.specs.declared.trace.Site.{Site}
use Rattle.px_terms.specs.declared.types.TypeId.{TypeId}
use Rattle.px_syntax.specs.TypedTree as T
use Rattle.px_syntax.specs.TypedTree.{Expression}
use Rattle.px_real_expressions.specs.Lexemes.{Lexeme}
use Rattle.px_real_reading.specs.declared.tree.Expression.{Expression as Tree}
use Rattle.px_real_reading.specs.Trees.{expression_tree}
use Rattle.px_real_types.specs.declared.shape.ProfileType.{ProfileType}
use Rattle.px_real_values.specs.Environment.{Environment, type_id}
use Rattle.px_real_values.specs.Operands.{Operand, stop, freed}
use Rattle.px_real_values.specs.Calls.{all_parts}
use Rattle.px_real_values.specs.Values.{first_site, valued}
use Rattle.px_real_values.proofs.ArgumentLemmas.{given_of}
use Rattle.px_real_effects.specs.Effects.{argument_of, freeing}

module _ (env : Environment) (all : List Lexeme) where
  -- the only one
  pub given_alone : (xs : List Tree) (x : Tree) → length xs ≡ 1 → x ≡ get_or xs 0 x → argument_of env (expression_tree all x) ∷ [] ≡ given_of env all xs
  given_alone [] x l is = absurd (omega arith)
  given_alone (y ∷ []) x l is = ap (λ z. argument_of env (expression_tree all z) ∷ []) is
  given_alone (y ∷ z ∷ xs) x l is = absurd (omega arith)

  -- of another number it is a `Stop`
  pub freeing_no_one : (at : Site) (xs : List Tree) → length xs ≢ 1 → T.evaluate (stop (all_parts env (given_of env all xs)) (env.word_number (codes "call")) at) ∷ [] ≡ freeing env at (given_of env all xs)
  freeing_no_one at [] l = refl
  freeing_no_one at (y ∷ []) l = absurd (l refl)
  freeing_no_one at (y ∷ z ∷ xs) l = refl

  -- of one it is the profile's
  pub freeing_one : (at : Site) (xs : List Tree) (x : Tree) → length xs ≡ 1 → x ≡ get_or xs 0 x → (first : Site) (a : Operand) (t : ProfileType) (e : Expression) (k : TypeId) →
      first ≡ first_site (expression_tree all x) → a ≡ valued env (expression_tree all x) → (t, e) ≡ freed env first a → k ≡ type_id env t → T.free e k at ∷ [] ≡ freeing env at (given_of env all xs)
  freeing_one at xs x l is first a t e k site value gives kind =
      ap (λ z. T.free e z at ∷ []) kind
      ∙ ap (λ (z : ProfileType × Expression). T.free z.1 (type_id env z.0) at ∷ []) (gives ∙ ap (λ z. freed env z a) site ∙ ap (freed env (first_site (expression_tree all x))) value)
      ∙ ap (freeing env at) (given_alone xs x l is)
