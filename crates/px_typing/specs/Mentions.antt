-- The functions and the blocks that an item names, in the order of their places.
use Rattle.std.specs.Prelude.{ℕ, zero, suc, ◌+◌, List, [], ◌∷◌, ◌++◌, map, flat_map, Option, None, Some}
use Rattle.px_syntax.specs.declared.type_name.Base.{Base}
use Rattle.px_syntax.specs.declared.type_name.Base.TheVariants.{Int, Struct}
use Rattle.px_syntax.specs.declared.type_name.TypeName.{TypeName}
use Rattle.px_syntax.specs.declared.item.Parameter.{Parameter}
use Rattle.px_syntax.specs.declared.item.ResultType.{ResultType}
use Rattle.px_syntax.specs.declared.item.ResultType.TheVariants.{Void, Value}
use Rattle.px_syntax.specs.ExpressionTree as E
use Rattle.px_syntax.specs.StatementTree as S
use Rattle.px_syntax.specs.ItemTree.{ItemTree, struct, declared, prototype, function}
use Rattle.px_bodies.specs.Environment.{fields_of}

pub data Mention : Type 0 where
  -- a function that is called
  calls : List ℕ → Mention
  -- a function that is declared
  declares : List ℕ → Mention
  -- the blocks of a base after fewer stars than these
  blocks : Base → ℕ → Mention

-- a type names its base after each smaller number of stars, its own blocks come in by `sizeof` alone
abbrev pub of_type : TypeName → List Mention
of_type t = blocks t.base t.stars ∷ []

abbrev pub of_size : TypeName → List Mention
of_size t = blocks t.base (t.stars + 1) ∷ []

abbrev pub of_option : {A : Type 0} → (A → List Mention) → Option A → List Mention
of_option of None = []
of_option of (Some x) = of x

abbrev mutual
  pub of_expression : E.ExpressionTree → List Mention
  of_expression (E.constant value site) = []
  of_expression (E.null site) = []
  of_expression (E.variable name site) = []
  of_expression (E.unary operator site a) = of_expression a
  of_expression (E.binary operator site a b) = of_expression a ++ of_expression b
  of_expression (E.member a field site) = of_expression a
  of_expression (E.call name site arguments) = calls name ∷ of_expressions arguments
  of_expression (E.free site a) = of_expression a
  of_expression (E.get_char site) = []
  of_expression (E.malloc cast site size) = of_option of_type cast ++ of_size size

  pub of_expressions : E.ExpressionTrees → List Mention
  of_expressions E.no_expressions = []
  of_expressions (E.an_expression e es) = of_expression e ++ of_expressions es

abbrev pub of_declarators : Base → List S.InitTree → List Mention
of_declarators base [] = []
of_declarators base (d ∷ ds) = blocks base d.declarator.stars ∷ (of_option of_expression d.value ++ of_declarators base ds)

abbrev pub of_declaration : S.DeclarationTree → List Mention
of_declaration d = of_declarators d.base d.declarators

abbrev pub of_simple : S.SimpleTree → List Mention
of_simple (S.assign place value) = of_expression place ++ of_expression value
of_simple (S.update operator place value) = of_expression place ++ of_expression value
of_simple (S.increment place) = of_expression place
of_simple (S.decrement place) = of_expression place
of_simple (S.a_call e) = of_expression e

abbrev pub of_first : S.FirstTree → List Mention
of_first (S.first_declaration d) = of_declaration d
of_first (S.first_simple s) = of_simple s

abbrev mutual
  pub of_statement : S.StatementTree → List Mention
  of_statement S.empty = []
  of_statement (S.block ss) = of_statements ss
  of_statement (S.declare d) = of_declaration d
  of_statement (S.simple_statement s) = of_simple s
  of_statement (S.choose e a) = of_expression e ++ of_statement a
  of_statement (S.choose_else e a b) = of_expression e ++ (of_statement a ++ of_statement b)
  of_statement (S.while_loop site e a) = of_expression e ++ of_statement a
  of_statement (S.for_loop site first condition step a) =
      of_option of_first first ++ (of_option of_expression condition ++ (of_option of_simple step ++ of_statement a))
  of_statement S.break = []
  of_statement S.continue = []
  of_statement (S.return value) = of_option of_expression value

  pub of_statements : S.StatementTrees → List Mention
  of_statements S.no_statements = []
  of_statements (S.a_statement s ss) = of_statement s ++ of_statements ss

abbrev pub of_result : ResultType → List Mention
of_result Void = []
of_result (Value t) = of_type t

abbrev pub of_parameters : List Parameter → List Mention
of_parameters ps = flat_map (λ p. of_type p.value) ps

-- a struct's definition names its struct
abbrev pub of_item : ItemTree → List Mention
of_item (struct site tag ds) = blocks (Struct tag) 1 ∷ flat_map (λ f. of_type f.1) (fields_of ds)
of_item (declared site tag) = []
of_item (prototype site result name ps) = of_result result ++ (declares name ∷ of_parameters ps)
of_item (function site result name ps body) = of_result result ++ (of_parameters ps ++ of_statements (S.statements_of body))
