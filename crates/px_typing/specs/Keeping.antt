-- Which items of a program are kept, and why the others are left out.
use Rattle.std.specs.Prelude.{ℕ, Bool, not, false, List, [], ◌∷◌, ◌++◌, length, Option, None, Some, is_some, is_none, nat_lt, if◌then◌else◌, filter_map, codes}
use Rattle.px_base.specs.Bounds.{most_fields, most_parameters}
use Rattle.px_base.specs.declared.trace.ProcId.{ProcId}
use Rattle.px_syntax.specs.declared.item.Parameter.{Parameter}
use Rattle.px_syntax.specs.declared.item.ResultType.{ResultType}
use Rattle.px_syntax.specs.ItemTree.{ItemTree, struct, declared, prototype, function}
use Rattle.px_syntax.specs.ParsedTree.{ParsedTree, parsed, out}
use Rattle.px_syntax.specs.ProgramTree.{ProcedureTree}
use Rattle.px_bodies.specs.Environment.{Environment, fields_of}
use Rattle.px_bodies.specs.Functions.{typed_function}
use Rattle.px_typing.specs.Declarations.{Fields, first_of, fields_by, defined_by, are_typed_fields, is_typed_prototype}

-- whether an item defines what an item before it defines
abbrev pub is_duplicate : List ParsedTree → ParsedTree → Bool
is_duplicate before (parsed (struct site tag ds)) = is_some (first_of (fields_by tag) before)
is_duplicate before (parsed (function site result name ps body)) = is_some (first_of (defined_by name) before)
is_duplicate before _ = false

-- an item, and whether an item before it defines what it defines
pub record Marked : Type 0 where
  pub item : ParsedTree
  pub duplicate : Bool

-- the items after others
abbrev pub marked_after : List ParsedTree → List ParsedTree → List Marked
marked_after before [] = []
marked_after before (x ∷ xs) = record { item = x; duplicate = is_duplicate before x } ∷ marked_after (before ++ x ∷ []) xs

-- the word of the first test that holds
abbrev pub first_word : List (Bool × List ℕ) → Option (List ℕ)
first_word [] = None
first_word (t ∷ ts) = if t.0 then Some t.1 else first_word ts

-- the word of a struct's definition, of a prototype and of a function's definition; none where it is kept
abbrev pub struct_word : Bool → Fields → Option (List ℕ)
struct_word duplicate fs = first_word (
    (duplicate, codes "duplicate")
    ∷ (nat_lt most_fields (length fs), codes "fields")
    ∷ (not (are_typed_fields fs), codes "type") ∷ [])

abbrev pub prototype_word : ResultType → List Parameter → Option (List ℕ)
prototype_word result ps = first_word (
    (nat_lt most_parameters (length ps), codes "parameters")
    ∷ (not (is_typed_prototype result ps), codes "type") ∷ [])

abbrev pub function_word : Bool → List Parameter → Option ProcedureTree → Option (List ℕ)
function_word duplicate ps typed = first_word (
    (duplicate, codes "duplicate")
    ∷ (nat_lt most_parameters (length ps), codes "parameters")
    ∷ (is_none typed, codes "type") ∷ [])

-- the word of an item with a tree; whether a function is typed doesn't depend on its number
abbrev pub word_of_tree : Environment → Bool → ItemTree → Option (List ℕ)
word_of_tree env duplicate (struct site tag ds) = struct_word duplicate (fields_of ds)
word_of_tree env duplicate (declared site tag) = None
word_of_tree env duplicate (prototype site result name ps) = prototype_word result ps
word_of_tree env duplicate (function site result name ps body) = function_word duplicate ps (typed_function env (record { 0 = 0 }) site result ps body)

abbrev pub word_of : Environment → Bool → ParsedTree → Option (List ℕ)
word_of env duplicate (parsed item) = word_of_tree env duplicate item
word_of env duplicate (out name site word) = Some word

-- an item and its word, if it is left out
pub record Judged : Type 0 where
  pub item : ParsedTree
  pub word : Option (List ℕ)

abbrev pub judged : Environment → Marked → Judged
judged env m = record { item = m.item; word = word_of env m.duplicate m.item }

-- the tree of an item that has one, and of one that is kept
abbrev pub tree_of : ParsedTree → Option ItemTree
tree_of (parsed item) = Some item
tree_of (out name site word) = None

abbrev pub kept_tree : Judged → Option ItemTree
kept_tree j = if is_none j.word then tree_of j.item else None

abbrev pub kept_trees : List Judged → List ItemTree
kept_trees js = filter_map kept_tree js
