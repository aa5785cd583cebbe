-- What items mention, one item further.
use Rattle.std.proofs.Common.{◌≡◌, ◌∙◌, ℕ, ◌+◌, ◌<◌, List, [], ◌∷◌, ◌++◌, length, get_or, map, take, drop, filter_map, flat_map, Option, sym, ap, ap₂, add-one}
use Rattle.std.proofs.lemmas.List.{map-append}
use Rattle.std.proofs.Math.Seq.{drop-cons}
use Rattle.std.proofs.lemmas.List.Elements.{filter_map-append}
use Rattle.std.proofs.lemmas.List.Concat.{flat_map-append}
use Rattle.px_syntax.specs.declared.type_name.TypeName.{TypeName}
use Rattle.px_syntax.specs.declared.item.FieldDeclaration.{FieldDeclaration}
use Rattle.px_syntax.specs.ItemTree.{ItemTree}
use Rattle.px_bodies.specs.Environment.{fields_of, fields_of_one}
use Rattle.px_typing.specs.declared.marked.JudgedItem.{JudgedItem}
use Rattle.px_typing.specs.ItemViews.{judged_of}
use Rattle.px_typing.specs.Keeping.{Judged, kept_tree, kept_trees}
use Rattle.px_typing.specs.Mentions.{of_item}
use Rattle.px_typing.specs.Programs.{mentions}
use Rattle.px_syntax.proofs.Lists.{map-take_more}

mentions-append : (xs ys : List Judged) → mentions (xs ++ ys) ≡ mentions xs ++ mentions ys
mentions-append xs ys = ap (flat_map of_item) (filter_map-append kept_tree xs ys) ∙ flat_map-append of_item (filter_map kept_tree xs) (filter_map kept_tree ys)

pub mentions_next : (js : List JudgedItem) (i : ℕ) (j : JudgedItem) → i < length js → j ≡ get_or js i j →
    mentions (map judged_of (take (i + 1) js)) ≡ mentions (map judged_of (take i js)) ++ mentions (judged_of j ∷ [])
mentions_next js i j h e = ap mentions (map-take_more judged_of js i j h e) ∙ mentions-append (map judged_of (take i js)) (judged_of j ∷ [])

-- what is left out, and what is kept, one item further
pub left_next : {A : Type 0} (f : Judged → Option A) (js : List JudgedItem) (i : ℕ) (j : JudgedItem) → i < length js → j ≡ get_or js i j →
    filter_map f (map judged_of (take (i + 1) js)) ≡ filter_map f (map judged_of (take i js)) ++ filter_map f (judged_of j ∷ [])
left_next f js i j h e = ap (filter_map f) (map-take_more judged_of js i j h e) ∙ filter_map-append f (map judged_of (take i js)) (judged_of j ∷ [])

pub kept_next : {A : Type 0} (f : ItemTree → Option A) (js : List JudgedItem) (i : ℕ) (j : JudgedItem) → i < length js → j ≡ get_or js i j →
    filter_map f (kept_trees (map judged_of (take (i + 1) js))) ≡ filter_map f (kept_trees (map judged_of (take i js))) ++ filter_map f (kept_trees (judged_of j ∷ []))
kept_next f js i j h e =
    ap (filter_map f) (left_next kept_tree js i j h e)
    ∙ filter_map-append f (filter_map kept_tree (map judged_of (take i js))) (filter_map kept_tree (judged_of j ∷ []))

-- the fields of one declaration, and those of the others
pub fields_next : {A : Type 0} (g : List ℕ × TypeName → A) (ds : List FieldDeclaration) (i : ℕ) (d : FieldDeclaration) → i < length ds → d ≡ get_or ds i d →
    map g (fields_of (drop i ds)) ≡ map g (fields_of_one d) ++ map g (fields_of (drop (i + 1) ds))
fields_next g ds i d h e =
    ap (λ xs. map g (fields_of xs)) (drop-cons ds i d h ∙ ap₂ (λ x xs. x ∷ xs) (sym e) (ap (λ n. drop n ds) (sym (add-one i))))
    ∙ map-append g (fields_of_one d) (fields_of (drop (i + 1) ds))
