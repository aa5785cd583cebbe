-- The type of what a declarator declares, from the type that its specifiers say (C11 6.7.6).
use Rattle.std.specs.Prelude.{ℕ, Bool, true, false, List, [], ◌∷◌, option_map, Option, Some, None, ◌||◌}
use Rattle.px_base.specs.declared.trace.Site.{Site}
use Rattle.px_expressions.specs.Reading.{or_else}
use Rattle.px_real_expressions.specs.Lexemes.{Lexeme}
use Rattle.px_real_declarations.specs.DeclarationTree.{SpecifierTree, DeclaratorTree, no_name, a_name, inner, pointer, array, function, DeclaredTree}
use Rattle.px_real_symbols.specs.Symbols.{held_in}
use Rattle.px_real_declaring.specs.declared.tree.Suffix.{Suffix}
use Rattle.px_real_declaring.specs.declared.tree.Suffix.TheVariants as X
use Rattle.px_real_types.specs.declared.declarators.Signature.{Signature}
use Rattle.px_real_types.specs.declared.shape.Shape.{Shape}
use Rattle.px_real_types.specs.declared.shape.Shape.TheVariants as S
use Rattle.px_real_types.specs.declared.words.Mark.TheVariants as M
use Rattle.px_real_types.specs.Shapes.{pointer_to, array_of}
use Rattle.px_real_types.specs.Specifiers.{groups_mark, unless_spoilt, qualifiers_spoil}

-- the type of a pointer, by what stands behind its star
abbrev pub starred : List SpecifierTree → Shape → Shape
starred ss s = unless_spoilt (qualifiers_spoil ss) (pointer_to s)

-- the name's type: a star, brackets and parentheses say what is pointed to, held or given
abbrev pub declared : DeclaratorTree → Shape → Shape
declared no_name s = s
declared (a_name word site) s = s
declared (inner site gs d) s = declared d (unless_spoilt (groups_mark M.Spoils gs) s)
declared (pointer site ss d) s = declared d (starred ss s)
declared (array site d held) s = declared d (array_of s)
declared (function site d held) s = declared d S.Outside

-- with the attributes around it
abbrev pub declared_shape : DeclaredTree → Shape → Shape
declared_shape x s = unless_spoilt (groups_mark M.Spoils x.before || groups_mark M.Spoils x.after) (declared x.declarator s)

-- a function: its name, the type of its result, and what stands between its parentheses
pub record SignatureTree : Type 0 where
  pub name : List ℕ
  pub site : Site
  pub gives : Shape
  pub parameters : List Lexeme

-- nothing at all, as in the name of a type that is no pointer, array or function
abbrev pub is_nothing : DeclaratorTree → Bool
is_nothing no_name = true
is_nothing _ = false

-- a name, in parentheses or not
abbrev pub bare_name : DeclaratorTree → Option (List ℕ × Site)
bare_name (a_name word site) = Some (word, site)
bare_name (inner site gs d) = bare_name d
bare_name _ = None

-- the function that is declared, if one is: its parentheses stand directly behind its name
abbrev pub function_in : DeclaratorTree → Shape → Option SignatureTree
function_in no_name s = None
function_in (a_name word site) s = None
function_in (inner site gs d) s = function_in d (unless_spoilt (groups_mark M.Spoils gs) s)
function_in (pointer site ss d) s = function_in d (starred ss s)
function_in (array site d held) s = function_in d (array_of s)
function_in (function site d held) s = or_else (bare_name d) (λ n. Some (record { name = n.0; site = n.1; gives = s; parameters = held })) (function_in d S.Outside)

abbrev pub signature_tree : List Lexeme → Signature → SignatureTree
signature_tree all f = record { name = f.name.now; site = f.site; gives = f.gives; parameters = held_in all f.parameters }

-- ---- what stands behind a declarator, the last first

abbrev pub before_suffix : Suffix → Shape → Shape
before_suffix (X.Array site held) s = array_of s
before_suffix (X.Function site held) s = S.Outside

abbrev pub before_all : List Suffix → Shape → Shape
before_all [] s = s
before_all (x ∷ xs) s = before_suffix x (before_all xs s)

-- the function that parentheses directly behind a name declare
abbrev pub own_signature : List Lexeme → DeclaratorTree → Suffix → Shape → Option SignatureTree
own_signature all d (X.Array site held) s = None
own_signature all d (X.Function site held) s = option_map (λ n. record { name = n.0; site = n.1; gives = s; parameters = held_in all held }) (bare_name d)
