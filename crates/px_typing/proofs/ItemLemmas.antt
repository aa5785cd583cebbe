-- Items, marked one after another.
use Rattle.std.proofs.Common.{◌≡◌, ◌∙◌, ℕ, ◌+◌, ◌<◌, List, [], ◌∷◌, ◌++◌, length, get_or, map, take, flat_map, refl, sym, ap, subst, append_assoc, append-nil}
use Rattle.std.proofs.lemmas.List.Concat.{flat_map-append}
use Rattle.px_syntax.specs.declared.program.ParsedFile.{ParsedFile}
use Rattle.px_syntax.specs.ParsedTree.{ParsedTree, FileTree, parsed_tree, file_tree}
use Rattle.px_bodies.specs.Environment.{Environment}
use Rattle.px_typing.specs.declared.marking.Reading.{Reading}
use Rattle.px_typing.specs.declared.marked.MarkedItem.{MarkedItem}
use Rattle.px_typing.specs.Keeping.{Marked, is_duplicate, marked_after}
use Rattle.px_typing.specs.ItemViews.{marked_of}
use Rattle.px_typing.specs.Readings.{Holds, Knows}
use Rattle.px_typing.specs.Programs.{environment_in}
use Rattle.px_syntax.proofs.Lists.{map-take_more}

pub marked_after-append : (before xs ys : List ParsedTree) → marked_after before (xs ++ ys) ≡ marked_after before xs ++ marked_after (before ++ xs) ys
marked_after-append before [] ys = ap (λ b. marked_after b ys) (sym (append-nil before))
marked_after-append before (x ∷ xs) ys =
    ap (λ ms. record { item = x; duplicate = is_duplicate before x } ∷ ms)
    (marked_after-append (before ++ x ∷ []) xs ys ∙ ap (λ b. marked_after (before ++ x ∷ []) xs ++ marked_after b ys) (append_assoc before (x ∷ []) xs))

pub item-marked_after : (before xs : List ParsedTree) → map (λ m. m.item) (marked_after before xs) ≡ xs
item-marked_after before [] = refl
item-marked_after before (x ∷ xs) = ap (λ ys. x ∷ ys) (item-marked_after (before ++ x ∷ []) xs)

-- what is marked so far, and what is known then
abbrev pub IsMarked : List Marked → List ParsedTree → Reading → List Marked → List ParsedTree → Type 0
IsMarked ms before r old xs = (ms ≡ old ++ marked_after before xs) × Knows (before ++ xs) [] r

-- more items are marked after those
pub marked_more : (ms new old : List Marked) (before xs ys : List ParsedTree) (r r' : Reading) →
    IsMarked ms before r old xs → IsMarked new (before ++ xs) r' ms ys → IsMarked new before r' old (xs ++ ys)
marked_more ms new old before xs ys r r' h k = (
  k.0 ∙ ap (λ m. m ++ marked_after (before ++ xs) ys) h.0
      ∙ append_assoc old (marked_after before xs) (marked_after (before ++ xs) ys)
      ∙ ap (λ m. old ++ m) (sym (marked_after-append before xs ys)),
  subst (λ b. Knows b [] r') (append_assoc before xs ys) k.1,
)

-- the items of files, one file further
pub files_more : (files : List ParsedFile) (i : ℕ) (f : ParsedFile) → i < length files → f ≡ get_or files i f →
    flat_map (λ t. t.items) (map file_tree (take (i + 1) files)) ≡ flat_map (λ t. t.items) (map file_tree (take i files)) ++ (file_tree f).items
files_more files i f h e =
    ap (flat_map (λ (t : FileTree). t.items)) (map-take_more file_tree files i f h e)
    ∙ flat_map-append (λ (t : FileTree). t.items) (map file_tree (take i files)) (file_tree f ∷ [])
    ∙ ap (λ z. flat_map (λ (t : FileTree). t.items) (map file_tree (take i files)) ++ z) (append-nil (file_tree f).items)

-- an environment that holds what the items say, and no numbers
pub environment_is : (items : List ParsedTree) (env : Environment) → Holds items items env → env ≡ environment_in items [] []
environment_is items env h = λ i. record {
  fields = λ tag. h.fields tag i;
  signature = λ name. h.signatures name i;
  type_number = λ t. h.types t i;
  proc_number = λ name. h.names name i;
}

trees_seen : (ms : List MarkedItem) → map (λ m. parsed_tree m.item.now) ms ≡ map (λ m. m.item) (map marked_of ms)
trees_seen [] = refl
trees_seen (m ∷ ms) = ap (λ xs. parsed_tree m.item.now ∷ xs) (trees_seen ms)

-- the items that are marked are all
pub trees_marked : (ms : List MarkedItem) (trees : List ParsedTree) → map marked_of ms ≡ marked_after [] trees → map (λ m. parsed_tree m.item.now) ms ≡ trees
trees_marked ms trees h = trees_seen ms ∙ ap (map (λ m. m.item)) h ∙ item-marked_after [] trees
