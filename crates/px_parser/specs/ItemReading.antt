-- Reading items from left to right.
use Rattle.std.specs.Prelude.{ℕ, zero, suc, List, [], ◌∷◌, ◌++◌, length, Some, None, Bool, true, false, if◌then◌else◌}
use Rattle.px_base.specs.declared.trace.Site.{Site}
use Rattle.px_expressions.specs.Lexemes.{Lexeme, same, front}
use Rattle.px_expressions.specs.declared.terminal.Terminal.TheVariants as T
use Rattle.px_expressions.specs.Reading.{◌>>=◌, or_else, Reader, base_at, type_at, separated_at}
use Rattle.px_statements.specs.SimpleReading.{declarator_at}
use Rattle.px_statements.specs.StatementReading.{statements_at, statement_at}
use Rattle.px_syntax.specs.declared.item.FieldDeclaration.{FieldDeclaration}
use Rattle.px_syntax.specs.declared.item.ResultType.{ResultType}
use Rattle.px_syntax.specs.declared.item.ResultType.TheVariants as R
use Rattle.px_syntax.specs.declared.item.Parameter.{Parameter}
use Rattle.px_syntax.specs.ItemTree.{ItemTree, struct, declared, prototype, function}

-- fields of one base, and their semicolon
unfoldable pub field_at : Reader FieldDeclaration
field_at ts = base_at ts >>= λ x. separated_at declarator_at x.1 >>= λ y. front T.Semicolon y.1 >>= λ z. Some (record { base = x.0; declarators = y.0 }, z.1)

-- fields up to the closing brace, after those before; n is more than there can be
unfoldable pub more_fields : ℕ → List FieldDeclaration → Reader (List FieldDeclaration)
more_fields zero before ts = None
more_fields (suc n) before ts = or_else (front T.CloseBrace ts) (λ x. Some (before, x.1))
    (field_at ts >>= λ y. more_fields n (before ++ y.0 ∷ []) y.1)

-- what follows the name of a struct that begins an item
unfoldable pub struct_at : Site → List ℕ → Reader ItemTree
struct_at site name ts = or_else (front T.Semicolon ts) (λ x. Some (declared site name, x.1)) (
    front T.OpenBrace ts >>= λ x. field_at x.1 >>= λ y. more_fields (length y.1) (y.0 ∷ []) y.1 >>= λ z. front T.Semicolon z.1 >>= λ w.
    Some (struct site name z.0, w.1))

-- what a function gives
unfoldable pub result_at : Reader ResultType
result_at ts = or_else (front T.Void ts) (λ x. Some (R.Void, x.1)) (type_at ts >>= λ x. Some (R.Value x.0, x.1))

-- a parameter, with a name or without one
unfoldable pub parameter_at : Reader Parameter
parameter_at ts = type_at ts >>= λ x. or_else (front T.Name x.1)
    (λ y. Some (record { value = x.0; name = Some y.0.text }, y.1))
    (Some (record { value = x.0; name = None }, x.1))

-- parameters up to the closing parenthesis
unfoldable pub parameters_at : Reader (List Parameter)
parameters_at ts = or_else (front T.CloseParenthesis ts) (λ x. Some ([], x.1)) (
    or_else (front T.Void ts) (λ x. front T.CloseParenthesis x.1 >>= λ y. Some ([], y.1)) (
    separated_at parameter_at ts >>= λ x. front T.CloseParenthesis x.1 >>= λ y. Some (x.0, y.1)))

-- whether each parameter has a name
abbrev pub all_named : List Parameter → Bool
all_named [] = true
all_named (p ∷ ps) = or_else p.name (λ n. all_named ps) false

-- the statements of a body may open 200 more
abbrev pub depth_limit : ℕ
depth_limit = 200

-- what follows the parameters of a function
unfoldable pub ending_at : Site → ResultType → List ℕ → List Parameter → Reader ItemTree
ending_at site result name parameters ts = or_else (front T.Semicolon ts) (λ x. Some (prototype site result name parameters, x.1)) (
    if all_named parameters
    then (front T.OpenBrace ts >>= λ x. statements_at (length x.1) (statement_at depth_limit) [] x.1 >>= λ y. Some (function site result name parameters y.0, y.1))
    else None)

-- what a function is, after the word `static`
unfoldable pub function_at : Site → Reader ItemTree
function_at site ts = result_at ts >>= λ a. front T.Name a.1 >>= λ b. front T.OpenParenthesis b.1 >>= λ c. parameters_at c.1 >>= λ p.
    ending_at site a.0 b.0.text p.0 p.1

-- the name of a struct, where a struct item begins: its name is followed by a semicolon or a brace
abbrev pub ends_struct : List Lexeme → Bool
ends_struct [] = false
ends_struct (t ∷ ts) = if same t.terminal T.Semicolon then true else same t.terminal T.OpenBrace

-- the name of the struct that an item is, and what follows the name
abbrev pub struct_front : Reader (List ℕ)
struct_front ts = front T.Struct ts >>= λ x. front T.Name x.1 >>= λ y. if ends_struct y.1 then Some (y.0.text, y.1) else None

unfoldable pub item_at : Site → Reader ItemTree
item_at site ts = or_else (struct_front ts) (λ x. struct_at site x.0 x.1) (
    or_else (front T.Static ts) (λ x. function_at site x.1) (function_at site ts))
