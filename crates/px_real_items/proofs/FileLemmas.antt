-- The items of a file, one after the other.
use Rattle.std.proofs.Common.{◌≡◌, ℕ, ◌+◌, ◌-◌, ◌<◌, List, [], ◌∷◌, ◌++◌, length, take, drop, get_or, map, Some, None, Ok, false, ◌≢◌, refl, ap, sym, subst, ◌∙◌, append_assoc}
use Rattle.std.proofs.lemmas.List.{take-map, drop-map, take_more, map_push, append-nil}
use Rattle.px_real_cutting.specs.declared.cutting.Item.{Item}
use Rattle.px_real_expressions.specs.Lexemes.{Lexeme}
use Rattle.px_real_declarations.specs.Names.{Names}
use Rattle.px_real_declaring.specs.declared.reading.DeclarationFault.{DeclarationFault}
use Rattle.px_real_declaring.specs.declared.reading.DeclarationFault.TheVariants as D
use Rattle.px_real_cutting.specs.Items.{IsCut}
use Rattle.px_real_cutting.specs.declared.roles.Mark.{Mark}
use Rattle.px_real_items.specs.Externals.{ExternalTree, IsExternal, IsNone, ItemTree, tokens_of, AreRead, no_item, one_read, one_unread}
use Rattle.px_real_items.specs.Trees.{external_tree, Neither, item_tree, IsOne}
use Rattle.px_real_items.specs.Files.{item_of}
use Rattle.px_real_items.specs.declared.tree.External.{External}
use Rattle.px_real_items.specs.declared.tree.FileItem.{FileItem}

-- the tokens of an item, as the grammar sees them
pub seen_of : {A B : Type 0} (f : A → B) (xs ys : List A) (i : Item) → ys ≡ tokens_of xs i → map f ys ≡ tokens_of (map f xs) i
seen_of f xs ys i h = ap (map f) h ∙ sym (take-map f (i.after - i.first) (drop i.first xs)) ∙ ap (take (i.after - i.first)) (sym (drop-map f i.first xs))

pub one_item : (all : List Lexeme) (names after : Names) (x : ItemTree) (t : ExternalTree) → x.tree ≡ Some t → IsExternal names (tokens_of all x.item) t after → IsOne all names x after
one_item all names after x t h m = λ rest last r. one_read x m h r refl

pub no_tree : (all : List Lexeme) (names after : Names) (x : ItemTree) → x.tree ≡ None → IsNone names (tokens_of all x.item) → after ≡ names → IsOne all names x after
no_tree all names after x h none same = λ rest last r. one_unread x none h (subst (λ z. AreRead all z rest last) same r) refl

-- what is read of the tokens of an item is what is read of it
pub item_read : (all us : List Lexeme) (names after : Names) (i : Item) (x : External) → us ≡ tokens_of all i → IsExternal names us (external_tree us x) after →
    IsOne all names (record { item = i; tree = Some (external_tree (tokens_of all i) x) }) after
item_read all us names after i x same m =
    one_item all names after (record { item = i; tree = Some (external_tree (tokens_of all i) x) }) (external_tree (tokens_of all i) x) refl (subst (λ z. IsExternal names z (external_tree z x) after) same m)

none_read : (names after : Names) (ts : List Lexeme) (e : DeclarationFault) → e ≢ D.NoMemory → Neither names ts after e → IsNone names ts × (after ≡ names)
none_read names after ts D.NoMemory other h = absurd (other refl)
none_read names after ts (D.NotADeclaration at) other h = h
none_read names after ts (D.Deep at) other h = h

pub item_unread : (all us : List Lexeme) (names after : Names) (i : Item) (e : DeclarationFault) → us ≡ tokens_of all i → e ≢ D.NoMemory → Neither names us after e → IsOne all names (record { item = i; tree = None }) after
item_unread all us names after i e same other h =
    let n = none_read names after us e other h in
    no_tree all names after (record { item = i; tree = None }) refl (subst (λ z. IsNone names z) same n.0) n.1

-- these were read, whatever is read of the others
abbrev pub SoFar : List Lexeme → Names → List FileItem → Names → Type 0
SoFar all before xs names = (rest : List ItemTree) (last : Names) → AreRead all names rest last → AreRead all before (map (item_tree all) xs ++ rest) last

pub none_yet : (all : List Lexeme) (names : Names) → SoFar all names [] names
none_yet all names = λ rest last r. r

-- one more
pub and_one : (all : List Lexeme) (before names after : Names) (xs : List FileItem) (x : FileItem) → SoFar all before xs names → IsOne all names (item_tree all x) after → SoFar all before (xs ++ x ∷ []) after
and_one all before names after xs x so_far one = λ rest last r.
    subst (λ z. AreRead all before z last) (sym (ap (λ z. z ++ rest) (map_push (item_tree all) xs x) ∙ append_assoc (map (item_tree all) xs) (item_tree all x ∷ []) rest)) (so_far (item_tree all x ∷ rest) last (one rest last r))

pub all_read : (all : List Lexeme) (before names : Names) (xs : List FileItem) → SoFar all before xs names → AreRead all before (map (item_tree all) xs) names
all_read all before names xs so_far = subst (λ z. AreRead all before z names) (append-nil (map (item_tree all) xs)) (so_far [] names (no_item refl refl))

-- what a goal has as the default of a read from a list of items
abbrev pub zeros : Item
zeros = record { first = 0; after = 0; is_function = false }

-- they are the items that are cut
pub same_items : (all : List Lexeme) (xs : List FileItem) (x : FileItem) (items : List Item) (i : ℕ) → i < length items → x.item ≡ get_or items i zeros → map item_of (map (item_tree all) xs) ≡ take i items →
    map item_of (map (item_tree all) (xs ++ x ∷ [])) ≡ take (i + 1) items
same_items all xs x items i lt same so_far =
    ap (map item_of) (map_push (item_tree all) xs x) ∙ map_push item_of (map (item_tree all) xs) (item_tree all x) ∙ ap (λ z. z ++ x.item ∷ []) so_far ∙ ap (λ z. take i items ++ z ∷ []) same ∙ sym (take_more items i zeros lt)

-- they are those of the file
pub cut_so : (marks : List Mark) (items : List Item) (xs : List ItemTree) (ys : List Item) → map item_of xs ≡ ys → ys ≡ items → IsCut marks (Ok items) → IsCut marks (Ok (map item_of xs))
cut_so marks items xs ys same whole h = subst (λ z. IsCut marks (Ok z)) (sym (same ∙ whole)) h

pub read_so : (all : List Lexeme) (before : Names) (xs : List ItemTree) (after : Names) → before ≡ [] → AreRead all before xs after → AreRead all [] xs after
read_so all before xs after none h = subst (λ z. AreRead all z xs after) none h
