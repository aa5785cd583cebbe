-- Items whose bodies stand beside them, and the procedures of those that are kept.
use Rattle.std.specs.Prelude.{◌≡◌, Bool, List, [], ◌∷◌, ◌++◌, length, map, flat_map, Option, None, is_none, option_to_list, option_and_then, if◌then◌else◌}
use Rattle.px_syntax.specs.StatementTree.{StatementTree, statement_tree}
use Rattle.px_syntax.specs.ItemTree.{struct, declared, prototype, function}
use Rattle.px_syntax.specs.ParsedTree.{ParsedTree, parsed, out, parsed_tree, FileTree}
use Rattle.px_syntax.specs.ProgramTree.{ProcedureTree}
use Rattle.px_bodies.specs.Environment.{Environment}
use Rattle.px_typing.specs.declared.apart.Apart.{Apart}
use Rattle.px_typing.specs.Keeping.{Judged, tree_of}
use Rattle.px_typing.specs.Programs.{procedure_of}

-- the items of files, one after another
abbrev pub items_in : List FileTree → List ParsedTree
items_in files = flat_map (λ f. f.items) files

-- an item with this body: that of a function's definition, since no other item has one
abbrev pub whole : ParsedTree → List StatementTree → ParsedTree
whole (parsed (function site result name ps none)) body = parsed (function site result name ps body)
whole (parsed (struct site tag ds)) body = parsed (struct site tag ds)
whole (parsed (declared site tag)) body = parsed (declared site tag)
whole (parsed (prototype site result name ps)) body = parsed (prototype site result name ps)
whole (out name site word) body = out name site word

-- each item with its body
abbrev pub wholes : List ParsedTree → List (List StatementTree) → List ParsedTree
wholes [] bodies = []
wholes (h ∷ hs) [] = []
wholes (h ∷ hs) (b ∷ bs) = whole h b ∷ wholes hs bs

-- heads and bodies put together again
abbrev pub joined : Apart → List ParsedTree
joined a = wholes (map parsed_tree a.heads.items) (map (map statement_tree) a.bodies.items)

-- each head has a body, and with it they are these items
pub record AreApart (items : List ParsedTree) (a : Apart) : Type 0 where
  pub as_many : length a.bodies.items ≡ length a.heads.items
  pub together : joined a ≡ items

-- these items are taken apart after others
abbrev pub AreMore : Apart → Apart → List ParsedTree → Type 0
AreMore old new items = (before : List ParsedTree) → AreApart before old → AreApart (before ++ items) new

-- whether an item is kept
abbrev pub is_kept : Judged → Bool
is_kept j = is_none j.word

-- the procedure of an item, where it is kept and a function
abbrev pub made_of : Environment → ParsedTree → Bool → Option ProcedureTree
made_of env item kept = if kept then option_and_then (procedure_of env) (tree_of item) else None

-- those of items, of each of which is said whether it is kept
abbrev pub made_in : Environment → List ParsedTree → List Bool → List ProcedureTree
made_in env [] kept = []
made_in env (t ∷ ts) [] = []
made_in env (t ∷ ts) (k ∷ ks) = option_to_list (made_of env t k) ++ made_in env ts ks
