-- What a token is to the grammar, and which tokens are outside it.
use Rattle.std.specs.Prelude.{ℕ, List, [], ◌∷◌, Option, Some, None, Bool, true, false, if◌then◌else◌, codes}
use Rattle.std.specs.Str.{bytes_eq}
use Rattle.px_lexer.specs.declared.token.TokenKind.{TokenKind}
use Rattle.px_lexer.specs.declared.token.TokenKind.TheVariants as K
use Rattle.px_lexer.specs.declared.token.Punctuator.{Punctuator}
use Rattle.px_lexer.specs.declared.token.Punctuator.TheVariants as P
use Rattle.px_expressions.specs.declared.terminal.Terminal.{Terminal}
use Rattle.px_expressions.specs.declared.terminal.Terminal.TheVariants as T

-- the words that are terminals of their own
abbrev pub keywords : List (List ℕ × Terminal)
keywords =
    (codes "int", T.Int) ∷ (codes "if", T.If) ∷ (codes "return", T.Return) ∷ (codes "struct", T.Struct) ∷ (codes "NULL", T.Null) ∷
    (codes "void", T.Void) ∷ (codes "else", T.Else) ∷ (codes "while", T.While) ∷ (codes "for", T.For) ∷ (codes "free", T.Free) ∷
    (codes "malloc", T.Malloc) ∷ (codes "sizeof", T.Sizeof) ∷ (codes "static", T.Static) ∷ (codes "break", T.Break) ∷
    (codes "continue", T.Continue) ∷ (codes "getchar", T.GetChar) ∷ []

-- the words of C that no item may hold
abbrev pub outside_words : List (List ℕ)
outside_words =
    codes "goto" ∷ codes "switch" ∷ codes "case" ∷ codes "default" ∷ codes "do" ∷ codes "union" ∷ codes "enum" ∷ codes "typedef" ∷
    codes "unsigned" ∷ codes "signed" ∷ codes "short" ∷ codes "long" ∷ codes "char" ∷ codes "float" ∷ codes "double" ∷ codes "volatile" ∷
    codes "const" ∷ codes "register" ∷ codes "auto" ∷ codes "inline" ∷ codes "restrict" ∷ codes "extern" ∷ codes "realloc" ∷ codes "calloc" ∷ []

-- the terminal of a word in a table
abbrev pub keyword_in : List (List ℕ × Terminal) → List ℕ → Option Terminal
keyword_in [] text = None
keyword_in (k ∷ ks) text = if bytes_eq text k.0 then Some k.1 else keyword_in ks text

abbrev pub is_in : List (List ℕ) → List ℕ → Bool
is_in [] text = false
is_in (w ∷ ws) text = if bytes_eq text w then true else is_in ws text

abbrev pub keyword_of : List ℕ → Option Terminal
keyword_of = keyword_in keywords

abbrev pub is_outside : List ℕ → Bool
is_outside = is_in outside_words

abbrev pub name_or_outside : Bool → Terminal
name_or_outside true = T.Outside
name_or_outside false = T.Name

abbrev pub or_name : Option Terminal → List ℕ → Terminal
or_name (Some k) text = k
or_name None text = name_or_outside (is_outside text)

-- a word is a terminal of its own, or no name, or a name
abbrev pub word_terminal : List ℕ → Terminal
word_terminal text = or_name (keyword_of text) text

abbrev pub punctuator_terminal : Punctuator → Terminal
punctuator_terminal P.OpenBrace = T.OpenBrace
punctuator_terminal P.CloseBrace = T.CloseBrace
punctuator_terminal P.OpenParenthesis = T.OpenParenthesis
punctuator_terminal P.CloseParenthesis = T.CloseParenthesis
punctuator_terminal P.Semicolon = T.Semicolon
punctuator_terminal P.Comma = T.Comma
punctuator_terminal P.Arrow = T.Arrow
punctuator_terminal P.PlusPlus = T.PlusPlus
punctuator_terminal P.MinusMinus = T.MinusMinus
punctuator_terminal P.Plus = T.Plus
punctuator_terminal P.Minus = T.Minus
punctuator_terminal P.Star = T.Star
punctuator_terminal P.Slash = T.Slash
punctuator_terminal P.Percent = T.Percent
punctuator_terminal P.Not = T.Not
punctuator_terminal P.AndAnd = T.AndAnd
punctuator_terminal P.OrOr = T.OrOr
punctuator_terminal P.Less = T.Less
punctuator_terminal P.Greater = T.Greater
punctuator_terminal P.LessEqual = T.LessEqual
punctuator_terminal P.GreaterEqual = T.GreaterEqual
punctuator_terminal P.EqualEqual = T.EqualEqual
punctuator_terminal P.NotEqual = T.NotEqual
punctuator_terminal P.Equal = T.Equal
punctuator_terminal P.PlusEqual = T.PlusEqual
punctuator_terminal P.MinusEqual = T.MinusEqual
punctuator_terminal P.StarEqual = T.StarEqual
punctuator_terminal _ = T.Outside

abbrev pub is_outside_terminal : Terminal → Bool
is_outside_terminal T.Outside = true
is_outside_terminal _ = false

-- whether a punctuator is outside the grammar
abbrev pub is_outside_punctuator : Punctuator → Bool
is_outside_punctuator p = is_outside_terminal (punctuator_terminal p)

abbrev pub terminal_of : List ℕ → TokenKind → Terminal
terminal_of text K.Word = word_terminal text
terminal_of text K.Constant = T.Constant
terminal_of text (K.Punctuator p) = punctuator_terminal p
terminal_of text _ = T.Outside
