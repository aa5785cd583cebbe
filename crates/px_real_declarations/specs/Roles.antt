-- What keywords are to declarations (C11 6.7, and GNU C's words).
use Rattle.std.specs.Prelude.{ℕ, List, [], ◌∷◌, Bool, true, false, codes, if◌then◌else◌}
use denote.Enum.Bare.{sameb}
use Rattle.px_expressions.specs.Terminals.{is_in}
use Rattle.px_real_expressions.specs.Lexemes.{Lexeme}
use Rattle.px_real_expressions.specs.declared.terminal.Terminal.{Terminal}
use Rattle.px_real_expressions.specs.declared.terminal.Terminal.TheVariants as T
use Rattle.px_real_declarations.specs.contracts.role.Role.{the_type}
use Rattle.px_real_declarations.specs.declared.role.Role.{Role}
use Rattle.px_real_declarations.specs.declared.role.Role.TheVariants as R

-- whether the second is the first
abbrev pub same_role : Role → Role → Bool
same_role wanted r = sameb the_type r wanted

-- storage classes (6.7.1), words of functions (6.7.4), and the word before a declaration that GNU C has beyond C11
abbrev pub storage_words : List (List ℕ)
storage_words =
    codes "typedef" ∷ codes "extern" ∷ codes "static" ∷ codes "auto" ∷ codes "register" ∷ codes "_Thread_local" ∷ codes "__thread" ∷
    codes "inline" ∷ codes "__inline" ∷ codes "__inline__" ∷ codes "_Noreturn" ∷ codes "__extension__" ∷ []

-- qualifiers (6.7.3)
abbrev pub qualifier_words : List (List ℕ)
qualifier_words =
    codes "const" ∷ codes "__const" ∷ codes "__const__" ∷ codes "restrict" ∷ codes "__restrict" ∷ codes "__restrict__" ∷
    codes "volatile" ∷ codes "__volatile" ∷ codes "__volatile__" ∷ []

-- words of types' names (6.7.2)
abbrev pub basic_words : List (List ℕ)
basic_words =
    codes "void" ∷ codes "char" ∷ codes "short" ∷ codes "int" ∷ codes "long" ∷ codes "float" ∷ codes "double" ∷ codes "signed" ∷ codes "unsigned" ∷
    codes "_Bool" ∷ codes "_Complex" ∷ codes "_Imaginary" ∷ codes "__signed" ∷ codes "__signed__" ∷ codes "__complex__" ∷ codes "__complex" ∷ []

-- those of GNU C for types of its own
abbrev pub built_in_words : List (List ℕ)
built_in_words =
    codes "__builtin_va_list" ∷ codes "__int128" ∷ codes "__int128_t" ∷ codes "__uint128_t" ∷ codes "_Float16" ∷ codes "_Float32" ∷
    codes "_Float64" ∷ codes "_Float128" ∷ codes "_Float32x" ∷ codes "_Float64x" ∷ codes "__float80" ∷ codes "__float128" ∷ codes "__ibm128" ∷
    codes "_Decimal32" ∷ codes "_Decimal64" ∷ codes "_Decimal128" ∷ codes "__auto_type" ∷ []

abbrev pub record_words : List (List ℕ)
record_words = codes "struct" ∷ codes "union" ∷ []

abbrev pub typeof_words : List (List ℕ)
typeof_words = codes "typeof" ∷ codes "__typeof" ∷ codes "__typeof__" ∷ []

abbrev pub attribute_words : List (List ℕ)
attribute_words = codes "__attribute__" ∷ codes "__attribute" ∷ []

abbrev pub assembler_words : List (List ℕ)
assembler_words = codes "asm" ∷ codes "__asm" ∷ codes "__asm__" ∷ []

-- those that are words of one kind alone
abbrev pub single_role : List ℕ → Role
single_role word =
    if is_in (codes "enum" ∷ []) word then R.Enumeration else
    (if is_in (codes "_Atomic" ∷ []) word then R.Atomic else
    (if is_in (codes "_Alignas" ∷ []) word then R.Alignment else
    (if is_in (codes "_Static_assert" ∷ []) word then R.Assertion else
    (if is_in (codes "..." ∷ []) word then R.Ellipsis else R.Other))))

-- the role of a keyword, or of another text that is no name
unfoldable pub role_of : List ℕ → Role
role_of word =
    if is_in storage_words word then R.Storage else
    (if is_in qualifier_words word then R.Qualifier else
    (if is_in basic_words word then R.Basic else
    (if is_in built_in_words word then R.Basic else
    (if is_in record_words word then R.Record else
    (if is_in typeof_words word then R.Typeof else
    (if is_in attribute_words word then R.Attribute else
    (if is_in assembler_words word then R.Assembler else single_role word)))))))

-- the terminals that such words have
abbrev pub has_role : Terminal → Bool
has_role T.Type = true
has_role T.Outside = true
has_role T.Extension = true
has_role _ = false

-- what a token is to declarations
unfoldable pub role : Lexeme → Role
role t = if has_role t.terminal then role_of t.text else R.Other

-- a word that says no type, and stands alone
abbrev pub is_plain : Role → Bool
is_plain R.Storage = true
is_plain R.Qualifier = true
is_plain R.Atomic = true
is_plain _ = false

-- a word that says a type alone
abbrev pub is_basic : Role → Bool
is_basic R.Basic = true
is_basic _ = false

-- a word that its parentheses follow
abbrev pub takes_group : Role → Bool
takes_group R.Atomic = true
takes_group R.Typeof = true
takes_group R.Alignment = true
takes_group R.Attribute = true
takes_group _ = false

-- a word that a tag follows, or braces
abbrev pub takes_tag : Role → Bool
takes_tag R.Record = true
takes_tag R.Enumeration = true
takes_tag _ = false

-- a word that says a type with its parentheses
abbrev pub says_in_group : Role → Bool
says_in_group R.Atomic = true
says_in_group R.Typeof = true
says_in_group _ = false

-- a qualifier behind a star
abbrev pub is_qualifier : Role → Bool
is_qualifier R.Qualifier = true
is_qualifier R.Atomic = true
is_qualifier _ = false

-- a keyword with which a specifier begins
abbrev pub begins_keyword : Role → Bool
begins_keyword R.Assembler = false
begins_keyword R.Assertion = false
begins_keyword R.Ellipsis = false
begins_keyword R.Other = false
begins_keyword _ = true
