-- What the words of declarations say of a type (C11 6.7.2, 6.7.3, and GNU C's attributes).
use Rattle.std.specs.Prelude.{ℕ, List, [], ◌∷◌, Bool, codes, if◌then◌else◌}
use Rattle.std.specs.Str.{bytes_eq}
use Rattle.px_expressions.specs.Terminals.{is_in}
use Rattle.px_real_declarations.specs.Roles.{storage_words}
use Rattle.px_real_types.specs.declared.words.Mark.{Mark}
use Rattle.px_real_types.specs.declared.words.Mark.TheVariants as M
use Rattle.px_real_types.specs.declared.words.Says.{Says}
use Rattle.px_real_types.specs.declared.words.Says.TheVariants as K

abbrev pub signed_words : List (List ℕ)
signed_words = codes "signed" ∷ codes "__signed" ∷ codes "__signed__" ∷ []

-- qualifiers that change no type of the profile
abbrev pub constant_words : List (List ℕ)
constant_words = codes "const" ∷ codes "__const" ∷ codes "__const__" ∷ codes "restrict" ∷ codes "__restrict" ∷ codes "__restrict__" ∷ []

-- attributes that make a type another
abbrev pub spoiling_words : List (List ℕ)
spoiling_words = codes "mode" ∷ codes "__mode__" ∷ codes "vector_size" ∷ codes "__vector_size__" ∷ []

-- attributes that make a function weak, or another's
abbrev pub weak_words : List (List ℕ)
weak_words = codes "weak" ∷ codes "__weak__" ∷ codes "alias" ∷ codes "__alias__" ∷ codes "ifunc" ∷ codes "__ifunc__" ∷ []

-- what an attribute is looked through for
abbrev pub words_of : Mark → List (List ℕ)
words_of M.Spoils = spoiling_words
words_of M.Weakens = weak_words

abbrev pub is_static_word : List ℕ → Bool
is_static_word word = bytes_eq word (codes "static")

abbrev pub is_struct_word : List ℕ → Bool
is_struct_word word = bytes_eq word (codes "struct")

-- a keyword alone: whatever isn't named here, `volatile` and `_Atomic` too, says a type that the profile doesn't see
abbrev pub says_of : List ℕ → Says
says_of word =
    if bytes_eq word (codes "int") then K.Int else
    (if is_in signed_words word then K.Signed else
    (if is_in storage_words word then K.Nothing else
    (if is_in constant_words word then K.Nothing else K.Spoils)))
