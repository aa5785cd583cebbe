-- The arguments of a list of words, by its first word.
use Rattle.std.proofs.Common.{arith, ◌≡◌, ◌∙◌, ◌+◌, ℕ, Bool, cond, suc, true, false, refl, ap, ap₂, List, [], ◌∷◌, ◌++◌, map, take, drop, Option, Some, None, option_map}
use Rattle.std.specs.Prelude.{option_and_then, not}
use Rattle.std.specs.List.{prefix_len, before_first, after_first}
use Rattle.px_words.specs.declared.flag_name.FlagName.{FlagName}
use Rattle.px_words.specs.declared.option_name.OptionName.{OptionName}
use Rattle.px_base.specs.Texts.{Text}
use Rattle.px_words.specs.Arguments.{Argument, option, flag, file, Word, named, given, raised, plain, unknown, word_of, with_word, with_value, is_double_dash, arguments_before, arguments_of}

module _ {X : Type 0} (p : X → Bool) (x : X) (xs : List X) where
  abbrev rest : ℕ
  rest = prefix_len (λ y. not (p y)) xs

  pub before_at : p x ≡ true → before_first p (x ∷ xs) ≡ []
  before_at e = ap (λ b. take (cond (not b) (1 + rest) 0) (x ∷ xs)) e

  pub after_at : p x ≡ true → after_first p (x ∷ xs) ≡ xs
  after_at e = ap (λ b. drop (cond (not b) (1 + rest) 0 + 1) (x ∷ xs)) e

  pub before_past : p x ≡ false → before_first p (x ∷ xs) ≡ x ∷ before_first p xs
  before_past e =
      let one : 1 + rest ≡ suc rest = omega arith in
      ap (λ b. take (cond (not b) (1 + rest) 0) (x ∷ xs)) e ∙ ap (λ n. take n (x ∷ xs)) one

  pub after_past : p x ≡ false → after_first p (x ∷ xs) ≡ after_first p xs
  after_past e =
      let one : 1 + rest + 1 ≡ suc (rest + 1) = omega arith in
      ap (λ b. drop (cond (not b) (1 + rest) 0 + 1) (x ∷ xs)) e ∙ ap (λ n. drop n (x ∷ xs)) one

abbrev behind : List Text → List Argument → List Argument
behind words arguments = arguments ++ map file (after_first is_double_dash words)

abbrev before : List Text → Option (List Argument)
before words = arguments_before (before_first is_double_dash words)

-- the arguments of words that stand after an option that wants a value
abbrev pub wanted_of : OptionName → List Text → Option (List Argument)
wanted_of o words = option_map (behind words) (option_and_then (with_value o) (before words))

-- one more argument in front
abbrev pub put : Argument → Option (List Argument) → Option (List Argument)
put x = option_map (λ arguments. x ∷ arguments)

module _ (word : Text) (words : List Text) where
  pub arguments_end : is_double_dash word ≡ true → arguments_of (word ∷ words) ≡ Some (map file words)
  arguments_end e = ap₂ (λ b a. option_map (λ arguments. arguments ++ map file a) (arguments_before b)) (before_at is_double_dash word words e) (after_at is_double_dash word words e)

  pub wanted_end : (o : OptionName) → is_double_dash word ≡ true → wanted_of o (word ∷ words) ≡ None
  wanted_end o e = ap (λ b. option_map (behind (word ∷ words)) (option_and_then (with_value o) (arguments_before b))) (before_at is_double_dash word words e)

  module _ (e : is_double_dash word ≡ false) (k : Word) (is : word_of word ≡ k) where
    by_word : arguments_of (word ∷ words) ≡ option_map (behind words) (option_and_then (with_word k) (before words))
    by_word = ap₂ (λ b a. option_map (λ arguments. arguments ++ map file a) (arguments_before b)) (before_past is_double_dash word words e) (after_past is_double_dash word words e)
        ∙ ap (λ w. option_map (behind words) (option_and_then (with_word w) (before words))) is

    wanted_by_word : (o : OptionName) → wanted_of o (word ∷ words) ≡ option_map (behind words) (option_and_then (with_value o) (option_and_then (with_word k) (before words)))
    wanted_by_word o = ap₂ (λ b a. option_map (λ arguments. arguments ++ map file a) (option_and_then (with_value o) (arguments_before b)))
        (before_past is_double_dash word words e) (after_past is_double_dash word words e)
        ∙ ap (λ w. option_map (behind words) (option_and_then (with_value o) (option_and_then (with_word w) (before words)))) is

given_first : (o : OptionName) (v : Text) (f : List Argument) (b : Option (List Argument))
    → option_map (λ xs. xs ++ f) (option_and_then (with_word (given o v)) b) ≡ put (option o v) (option_map (λ xs. xs ++ f) b)
given_first o v f None = refl
given_first o v f (Some xs) = refl

flag_first : (g : FlagName) (f : List Argument) (b : Option (List Argument))
    → option_map (λ xs. xs ++ f) (option_and_then (with_word (raised g)) b) ≡ put (flag g) (option_map (λ xs. xs ++ f) b)
flag_first g f None = refl
flag_first g f (Some xs) = refl

file_first : (v : Text) (f : List Argument) (b : Option (List Argument))
    → option_map (λ xs. xs ++ f) (option_and_then (with_word (plain v)) b) ≡ put (file v) (option_map (λ xs. xs ++ f) b)
file_first v f None = refl
file_first v f (Some xs) = refl

unknown_first : (f : List Argument) (b : Option (List Argument)) → option_map (λ xs. xs ++ f) (option_and_then (with_word unknown) b) ≡ None
unknown_first f None = refl
unknown_first f (Some xs) = refl

value_first : (o : OptionName) (v : Text) (f : List Argument) (b : Option (List Argument))
    → option_map (λ xs. xs ++ f) (option_and_then (with_value o) (option_and_then (with_word (plain v)) b)) ≡ put (option o v) (option_map (λ xs. xs ++ f) b)
value_first o v f None = refl
value_first o v f (Some xs) = refl

no_value : (o : OptionName) (k : Word) → ((v : Text) → k ≡ plain v → ⊥) → (f : List Argument) (b : Option (List Argument))
    → option_map (λ xs. xs ++ f) (option_and_then (with_value o) (option_and_then (with_word k) b)) ≡ None
no_value o k other f None = refl
no_value o (named p) other f (Some []) = refl
no_value o (named p) other f (Some (option q v ∷ xs)) = refl
no_value o (named p) other f (Some (flag g ∷ xs)) = refl
no_value o (named p) other f (Some (file v ∷ xs)) = refl
no_value o (given p v) other f (Some xs) = refl
no_value o (raised g) other f (Some xs) = refl
no_value o unknown other f (Some xs) = refl
no_value o (plain v) other f (Some xs) = absurd (other v refl)

module _ (word : Text) (words : List Text) (e : is_double_dash word ≡ false) where
  pub arguments_given : (o : OptionName) (v : Text) → word_of word ≡ given o v → arguments_of (word ∷ words) ≡ put (option o v) (arguments_of words)
  arguments_given o v is = by_word word words e _ is ∙ given_first o v _ (before words)

  pub arguments_named : (o : OptionName) → word_of word ≡ named o → arguments_of (word ∷ words) ≡ wanted_of o words
  arguments_named o is = by_word word words e _ is

  pub arguments_raised : (g : FlagName) → word_of word ≡ raised g → arguments_of (word ∷ words) ≡ put (flag g) (arguments_of words)
  arguments_raised g is = by_word word words e _ is ∙ flag_first g _ (before words)

  pub arguments_plain : word_of word ≡ plain word → arguments_of (word ∷ words) ≡ put (file word) (arguments_of words)
  arguments_plain is = by_word word words e _ is ∙ file_first word _ (before words)

  pub arguments_unknown : word_of word ≡ unknown → arguments_of (word ∷ words) ≡ None
  arguments_unknown is = by_word word words e _ is ∙ unknown_first _ (before words)

  pub wanted_plain : (o : OptionName) → word_of word ≡ plain word → wanted_of o (word ∷ words) ≡ put (option o word) (arguments_of words)
  wanted_plain o is = wanted_by_word word words e _ is o ∙ value_first o word _ (before words)

  pub wanted_other : (o : OptionName) (k : Word) → word_of word ≡ k → ((v : Text) → k ≡ plain v → ⊥) → wanted_of o (word ∷ words) ≡ None
  wanted_other o k is other = wanted_by_word word words e k is o ∙ no_value o k other _ (before words)
