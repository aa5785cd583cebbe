-- What a token of real C is to the grammar of expressions (C11 6.4.1, 6.5, and GNU C's words).
use Rattle.std.specs.Prelude.{ℕ, List, [], ◌∷◌, Bool, true, false, Option, Some, None, codes, if◌then◌else◌}
use Rattle.std.specs.Str.{bytes_eq}
use Rattle.px_lexer.specs.declared.token.Punctuator.{Punctuator}
use Rattle.px_lexer.specs.declared.token.Punctuator.TheVariants as P
use Rattle.px_expressions.specs.Terminals.{is_in}
use Rattle.px_real_tokens.specs.declared.token.TokenKind.{TokenKind}
use Rattle.px_real_tokens.specs.declared.token.TokenKind.TheVariants as K
use Rattle.px_real_expressions.specs.declared.terminal.Terminal.{Terminal}
use Rattle.px_real_expressions.specs.declared.terminal.Terminal.TheVariants as T

-- the words of C11 that begin a type's name (6.7.2, 6.7.3)
abbrev pub type_words : List (List ℕ)
type_words =
    codes "void" ∷ codes "char" ∷ codes "short" ∷ codes "int" ∷ codes "long" ∷ codes "float" ∷ codes "double" ∷ codes "signed" ∷ codes "unsigned" ∷
    codes "_Bool" ∷ codes "_Complex" ∷ codes "_Imaginary" ∷ codes "struct" ∷ codes "union" ∷ codes "enum" ∷ codes "const" ∷ codes "restrict" ∷
    codes "volatile" ∷ codes "_Atomic" ∷ []

-- those of GNU C
abbrev pub gnu_type_words : List (List ℕ)
gnu_type_words =
    codes "__const" ∷ codes "__const__" ∷ codes "__restrict" ∷ codes "__restrict__" ∷ codes "__volatile" ∷ codes "__volatile__" ∷ codes "__signed" ∷
    codes "__signed__" ∷ codes "__complex__" ∷ codes "__complex" ∷ codes "__typeof__" ∷ codes "__typeof" ∷ codes "typeof" ∷ codes "__attribute__" ∷
    codes "__attribute" ∷ []

-- the words of GNU C for types of its own
abbrev pub built_in_types : List (List ℕ)
built_in_types =
    codes "__builtin_va_list" ∷ codes "__int128" ∷ codes "__int128_t" ∷ codes "__uint128_t" ∷ codes "_Float16" ∷ codes "_Float32" ∷
    codes "_Float64" ∷ codes "_Float128" ∷ codes "_Float32x" ∷ codes "_Float64x" ∷ codes "__float80" ∷ codes "__float128" ∷ codes "__ibm128" ∷
    codes "_Decimal32" ∷ codes "_Decimal64" ∷ codes "_Decimal128" ∷ codes "__auto_type" ∷ []

-- the words of declarations (6.7.1, 6.7.4, 6.7.5, 6.7.10)
abbrev pub outside_words : List (List ℕ)
outside_words =
    codes "auto" ∷ codes "extern" ∷ codes "inline" ∷ codes "register" ∷ codes "static" ∷ codes "typedef" ∷ codes "_Alignas" ∷ codes "_Noreturn" ∷
    codes "_Static_assert" ∷ codes "_Thread_local" ∷ []

-- those of GNU C
abbrev pub gnu_outside_words : List (List ℕ)
gnu_outside_words =
    codes "__inline" ∷ codes "__inline__" ∷ codes "asm" ∷ codes "__asm" ∷ codes "__asm__" ∷ codes "__thread" ∷ codes "__label__" ∷ []

-- words with parentheses of their own, whose arguments aren't expressions alone (6.5.1.1, and GNU C)
abbrev pub form_words : List (List ℕ)
form_words =
    codes "_Generic" ∷ codes "__builtin_choose_expr" ∷ codes "__builtin_offsetof" ∷ codes "__builtin_types_compatible_p" ∷ codes "__builtin_va_arg" ∷ []

-- the words of statements (6.8)
abbrev pub statement_words : List (List ℕ × Terminal)
statement_words =
    (codes "if", T.If) ∷ (codes "else", T.Else) ∷ (codes "switch", T.Switch) ∷ (codes "while", T.While) ∷ (codes "do", T.Do) ∷ (codes "for", T.For) ∷
    (codes "goto", T.Goto) ∷ (codes "break", T.Break) ∷ (codes "continue", T.Continue) ∷ (codes "return", T.Return) ∷ (codes "case", T.Case) ∷
    (codes "default", T.Default) ∷ []

-- the words of expressions that are terminals of their own (6.5.3)
abbrev pub own_words : List (List ℕ × Terminal)
own_words =
    (codes "sizeof", T.Sizeof) ∷ (codes "_Alignof", T.Alignof) ∷ (codes "__alignof__", T.Alignof) ∷ (codes "__alignof", T.Alignof) ∷ (codes "__extension__", T.Extension) ∷
    (codes "__real__", T.Real) ∷ (codes "__real", T.Real) ∷ (codes "__imag__", T.Imaginary) ∷ (codes "__imag", T.Imaginary) ∷ []

-- the terminal of a word in a table
abbrev pub keyword_in : List (List ℕ × Terminal) → List ℕ → Option Terminal
keyword_in [] word = None
keyword_in (k ∷ ks) word = if bytes_eq word k.0 then Some k.1 else keyword_in ks word

abbrev pub either_of : Option Terminal → Option Terminal → Option Terminal
either_of (Some k) other = Some k
either_of None other = other

-- the terminal that a keyword is
abbrev pub keyword_of : List ℕ → Option Terminal
keyword_of word =
    if is_in type_words word then Some T.Type else
    (if is_in gnu_type_words word then Some T.Type else
    (if is_in built_in_types word then Some T.Type else
    (if is_in outside_words word then Some T.Outside else
    (if is_in gnu_outside_words word then Some T.Outside else
    (if is_in form_words word then Some T.Form else either_of (keyword_in own_words word) (keyword_in statement_words word))))))

abbrev pub name_or_type : Bool → Terminal
name_or_type true = T.TypeName
name_or_type false = T.Name

abbrev pub or_name : Option Terminal → Bool → Terminal
or_name (Some k) is_type = k
or_name None is_type = name_or_type is_type

-- a word is a keyword, or the name of a type, or another name
abbrev pub word_terminal : (List ℕ → Bool) → List ℕ → Terminal
word_terminal types word = or_name (keyword_of word) (types word)

abbrev pub punctuator_terminal : Punctuator → Terminal
punctuator_terminal P.OpenBrace = T.OpenBrace
punctuator_terminal P.CloseBrace = T.CloseBrace
punctuator_terminal P.OpenParenthesis = T.OpenParenthesis
punctuator_terminal P.CloseParenthesis = T.CloseParenthesis
punctuator_terminal P.OpenBracket = T.OpenBracket
punctuator_terminal P.CloseBracket = T.CloseBracket
punctuator_terminal P.Dot = T.Dot
punctuator_terminal P.Arrow = T.Arrow
punctuator_terminal P.PlusPlus = T.PlusPlus
punctuator_terminal P.MinusMinus = T.MinusMinus
punctuator_terminal P.Ampersand = T.Ampersand
punctuator_terminal P.Star = T.Star
punctuator_terminal P.Plus = T.Plus
punctuator_terminal P.Minus = T.Minus
punctuator_terminal P.Tilde = T.Tilde
punctuator_terminal P.Not = T.Not
punctuator_terminal P.Slash = T.Slash
punctuator_terminal P.Percent = T.Percent
punctuator_terminal P.ShiftLeft = T.ShiftLeft
punctuator_terminal P.ShiftRight = T.ShiftRight
punctuator_terminal P.Less = T.Less
punctuator_terminal P.Greater = T.Greater
punctuator_terminal P.LessEqual = T.LessEqual
punctuator_terminal P.GreaterEqual = T.GreaterEqual
punctuator_terminal P.EqualEqual = T.EqualEqual
punctuator_terminal P.NotEqual = T.NotEqual
punctuator_terminal P.Caret = T.Caret
punctuator_terminal P.Bar = T.Bar
punctuator_terminal P.AndAnd = T.AndAnd
punctuator_terminal P.OrOr = T.OrOr
punctuator_terminal P.Question = T.Question
punctuator_terminal P.Colon = T.Colon
punctuator_terminal P.Equal = T.Equal
punctuator_terminal P.StarEqual = T.StarEqual
punctuator_terminal P.SlashEqual = T.SlashEqual
punctuator_terminal P.PercentEqual = T.PercentEqual
punctuator_terminal P.PlusEqual = T.PlusEqual
punctuator_terminal P.MinusEqual = T.MinusEqual
punctuator_terminal P.ShiftLeftEqual = T.ShiftLeftEqual
punctuator_terminal P.ShiftRightEqual = T.ShiftRightEqual
punctuator_terminal P.AmpersandEqual = T.AmpersandEqual
punctuator_terminal P.CaretEqual = T.CaretEqual
punctuator_terminal P.BarEqual = T.BarEqual
punctuator_terminal P.Comma = T.Comma
punctuator_terminal P.Semicolon = T.Semicolon
punctuator_terminal _ = T.Outside

-- what a token of this text and kind is, where these words are names of types
abbrev pub terminal_of : (List ℕ → Bool) → List ℕ → TokenKind → Terminal
terminal_of types text K.Word = word_terminal types text
terminal_of types text (K.Number value) = T.Constant
terminal_of types text (K.Character value) = T.Constant
terminal_of types text K.String = T.String
terminal_of types text (K.Punctuator p) = punctuator_terminal p
terminal_of types text _ = T.Outside

-- the value of a constant of the profile
abbrev pub value_of : TokenKind → Option ℕ
value_of (K.Number value) = value
value_of (K.Character value) = value
value_of _ = None
