-- What stands in an attribute, token by token.
use Rattle.std.proofs.Common.{◌≡◌, ℕ, zero, suc, ◌-◌, ◌+◌, ◌<◌, ◌≤◌, Bool, true, false, List, [], ◌∷◌, length, take, drop, map, slice_index_or, refl, sym, ◌∙◌, arith}
use Rattle.px_real_expressions.specs.Lexemes.{Lexeme}
use Rattle.px_real_tokens.specs.declared.token.Token.{Token}
use Rattle.px_real_tokens.specs.declared.token.TokenKind.TheVariants as K
use Rattle.px_real_symbols.proofs.FrontLemmas.{drop_mapped, drop_past}
use Rattle.px_expressions.specs.Terminals.{is_in}
use Rattle.px_real_types.specs.declared.words.Mark.{Mark}
use Rattle.px_real_types.specs.Words.{words_of}
use Rattle.px_real_types.specs.Scopes.{any_marks}

-- the token that stands for one past the end
abbrev pub blank : Token
blank = record { kind = K.Word; site = record { file = 0; line = 0; column = 0 }; start = 0; end = 0 }

module _ (mark : Mark) (f : Token → Lexeme) (xs : List Token) where
  one_taken : (n i : ℕ) → i < length xs → i < n → take (n - i) (drop i (map f xs)) ≡ f (slice_index_or xs i blank) ∷ take (n - (i + 1)) (drop (i + 1) (map f xs))
  one_taken n i lt le =
      let s : n - i ≡ suc (n - (i + 1)) = omega arith in
      rw (s, drop_mapped f xs i blank lt) refl

  pub spoils_here : (n i : ℕ) (b : Bool) → i < length xs → i < n → is_in (words_of mark) (f (slice_index_or xs i blank)).text ≡ true → any_marks mark (take (n - i) (drop i (map f xs))) ≡ b → true ≡ b
  spoils_here n i b lt le h so_far = sym (rw (one_taken n i lt le, h) refl) ∙ so_far

  pub spoils_not_here : (n i : ℕ) (b : Bool) → i < length xs → i < n → is_in (words_of mark) (f (slice_index_or xs i blank)).text ≡ false → any_marks mark (take (n - i) (drop i (map f xs))) ≡ b →
      any_marks mark (take (n - (i + 1)) (drop (i + 1) (map f xs))) ≡ b
  spoils_not_here n i b lt le h so_far =
      let step : any_marks mark (take (n - i) (drop i (map f xs))) ≡ any_marks mark (take (n - (i + 1)) (drop (i + 1) (map f xs))) = rw (one_taken n i lt le, h) refl in
      sym step ∙ so_far

  pub none_spoils : (n i : ℕ) (b : Bool) → n ≤ i → any_marks mark (take (n - i) (drop i (map f xs))) ≡ b → false ≡ b
  none_spoils n i b le so_far = let z : n - i ≡ 0 = omega arith in sym (rw z refl) ∙ so_far

  pub past_spoils : (n i : ℕ) (b : Bool) → length xs ≤ i → any_marks mark (take (n - i) (drop i (map f xs))) ≡ b → false ≡ b
  past_spoils n i b le so_far = sym (rw (drop_past f xs i le) (nothing (n - i))) ∙ so_far
    where
      nothing : (m : ℕ) → any_marks mark (take m []) ≡ false
      nothing zero = refl
      nothing (suc m) = refl
