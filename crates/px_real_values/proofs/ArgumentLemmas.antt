-- Arguments, one after another.
use Rattle.std.proofs.Common.{◌≡◌, ◌∙◌, refl, sym, ap, ℕ, zero, suc, ◌+◌, ◌<◌, ◌≤◌, List, [], ◌∷◌, ◌++◌, map, drop, length, get_or, Option, None, arith, append_assoc, append-nil, length-append}
use Rattle.std.proofs.lemmas.List.{drop_all, drop_more}
use Rattle.px_base.specs.declared.trace.Site.{Site}
use Rattle.px_syntax.specs.TypedTree.{Expression, Argument}
use Rattle.px_real_expressions.specs.Lexemes.{Lexeme}
use Rattle.px_real_expressions.specs.ExpressionTree.{expressions_of}
use Rattle.px_real_reading.specs.declared.tree.Expression.{Expression as Tree}
use Rattle.px_real_reading.specs.Trees.{expression_tree}
use Rattle.px_real_types.specs.declared.shape.ProfileType.{ProfileType}
use Rattle.px_real_values.specs.Environment.{Environment}
use Rattle.px_real_values.specs.Operands.{Operand, parts}
use Rattle.px_real_values.specs.Calls.{Given, all_parts, argument, arguments}
use Rattle.px_real_values.specs.Values.{first_site, valued, given}

-- ---- as they stand in a call

abbrev given_at : Site → Operand → Given
given_at site a = record { first = site; operand = a }

module _ (env : Environment) (all : List Lexeme) where
  abbrev pub given_of : List Tree → List Given
  given_of xs = given env (expressions_of (map (expression_tree all) xs))

  abbrev given_one : Tree → Given
  given_one x = given_at (first_site (expression_tree all x)) (valued env (expression_tree all x))

  -- the one at i begins what is left
  given_next : (xs : List Tree) (i : ℕ) (x : Tree) → i < length xs → x ≡ get_or xs i x → given_of (drop i xs) ≡ given_one x ∷ given_of (drop (i + 1) xs)
  given_next xs i x l is = ap given_of (drop_more xs i x l) ∙ ap (λ z. given_one z ∷ given_of (drop (i + 1) xs)) (sym is)

  pub given_more : (xs : List Tree) (i : ℕ) (x : Tree) (before after whole : List Given) (first : Site) (a : Operand) → i < length xs → x ≡ get_or xs i x → first ≡ first_site (expression_tree all x) → a ≡ valued env (expression_tree all x) →
      after ≡ before ++ record { first = first; operand = a } ∷ [] → before ++ given_of (drop i xs) ≡ whole → after ++ given_of (drop (i + 1) xs) ≡ whole
  given_more xs i x before after whole first a l is site value one h =
      let this : given_at first a ≡ given_one x = ap (λ z. given_at z a) site ∙ ap (given_at (first_site (expression_tree all x))) value in
      ap (λ z. z ++ given_of (drop (i + 1) xs)) (one ∙ ap (λ z. before ++ z ∷ []) this)
      ∙ append_assoc before (given_one x ∷ []) (given_of (drop (i + 1) xs))
      ∙ sym (ap (λ z. before ++ z) (given_next xs i x l is))
      ∙ h

  pub given_end : (xs : List Tree) (i : ℕ) (before whole : List Given) → length xs ≤ i → before ++ given_of (drop i xs) ≡ whole → before ≡ whole
  given_end xs i before whole l h = sym (append-nil before) ∙ sym (ap (λ z. before ++ z) (ap given_of (drop_all i xs l))) ∙ h

-- ---- as they are evaluated

module _ (env : Environment) where
  pub parts_more : (before more after whole : List Expression) (x : Given) (xs ys : List Given) → xs ≡ x ∷ ys → more ≡ parts env x.operand → after ≡ before ++ more →
      before ++ all_parts env xs ≡ whole → after ++ all_parts env ys ≡ whole
  parts_more before more after whole x xs ys is m a h =
      ap (λ z. z ++ all_parts env ys) (a ∙ ap (λ z. before ++ z) m)
      ∙ append_assoc before (parts env x.operand) (all_parts env ys)
      ∙ sym (ap (λ z. before ++ all_parts env z) is)
      ∙ h

  pub parts_end : (before whole : List Expression) (xs : List Given) → xs ≡ [] → before ++ all_parts env xs ≡ whole → before ≡ whole
  parts_end before whole xs is h = sym (append-nil before) ∙ sym (ap (λ z. before ++ all_parts env z) is) ∙ h

  -- ---- and their parameters

  one_argument : (ps : List (Option ProfileType)) (i : ℕ) (x : Given) (xs : List Given) → arguments env (drop i ps) (x ∷ xs) ≡ argument env (get_or ps i None) x ∷ arguments env (drop (suc i) ps) xs
  one_argument [] zero x xs = refl
  one_argument [] (suc i) x xs = refl
  one_argument (p ∷ ps) zero x xs = refl
  one_argument (p ∷ ps) (suc i) x xs = one_argument ps i x xs

  no_arguments : (ps : List (Option ProfileType)) → arguments env ps [] ≡ []
  no_arguments [] = refl
  no_arguments (p ∷ ps) = refl

  module _ (ps : List (Option ProfileType)) where
    pub arguments_more : (es after whole : List Argument) (n : ℕ) (x : Given) (xs ys : List Given) (wanted : Option ProfileType) (a : Argument) → n ≡ length es → xs ≡ x ∷ ys → wanted ≡ get_or ps n None → a ≡ argument env wanted x → after ≡ es ++ a ∷ [] →
        es ++ arguments env (drop (length es) ps) xs ≡ whole → after ++ arguments env (drop (length after) ps) ys ≡ whole
    arguments_more es after whole n x xs ys wanted a count is wants given more h =
        let longer : length after ≡ length es + 1 = ap length more ∙ length-append es (a ∷ []) in
        let next : length after ≡ suc (length es) = omega (arith, longer) in
        let this : a ≡ argument env (get_or ps (length es) None) x = given ∙ ap (λ z. argument env z x) (wants ∙ ap (λ k. get_or ps k None) count) in
        let rest = arguments env (drop (suc (length es)) ps) ys in
        ap (λ k. after ++ arguments env (drop k ps) ys) next
        ∙ ap (λ z. z ++ rest) (more ∙ ap (λ z. es ++ z ∷ []) this)
        ∙ append_assoc es (argument env (get_or ps (length es) None) x ∷ []) rest
        ∙ sym (ap (λ z. es ++ z) (ap (arguments env (drop (length es) ps)) is ∙ one_argument ps (length es) x ys))
        ∙ h

    pub arguments_end : (es whole : List Argument) (xs : List Given) → xs ≡ [] → es ++ arguments env (drop (length es) ps) xs ≡ whole → es ≡ whole
    arguments_end es whole xs is h =
        sym (append-nil es) ∙ sym (ap (λ z. es ++ z) (ap (arguments env (drop (length es) ps)) is ∙ no_arguments (drop (length es) ps))) ∙ h
