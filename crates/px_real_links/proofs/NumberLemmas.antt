-- What stands at a number among the items of a file, and among files.
use Rattle.std.proofs.Common.{◌≡◌, ℕ, suc, ◌+◌, ◌<◌, ◌≤◌, Bool, true, false, if◌then◌else◌, List, [], ◌∷◌, map, length, take, drop, get_or, Option, Some, None, refl, sym, ap, subst, ◌∙◌, arith}
use Rattle.std.proofs.lemmas.List.{drop-map, take-map, drop_more, drop_all}
use Rattle.std.specs.Str.{bytes_eq}
use Rattle.px_real_links.specs.declared.definition.Definition.{Definition}
use Rattle.px_real_links.specs.declared.definition.FileLinks.{FileLinks}
use Rattle.px_real_links.specs.declared.fate.Fate.{Fate}
use Rattle.px_real_links.specs.declared.callee.Callee.{Callee}
use Rattle.px_real_links.specs.Files.{definition_tree, file_tree, first_named}
use Rattle.px_real_links.specs.Fates.{fate_by, fate_among, fate_of}
use Rattle.px_real_links.specs.Callees.{by_fate, is_static_among, own, external_at, externals, only_one, own_among, chosen, callee_of}

-- those from a number on, of which the first is looked at
here : {A B : Type 0} (f : A → B) (xs : List A) (n : ℕ) (x : A) → n < length xs → x ≡ get_or xs n x → drop n (map f xs) ≡ f x ∷ map f (drop (n + 1) xs)
here f xs n x lt e = drop-map f n xs ∙ ap (map f) (drop_more xs n x lt ∙ ap (λ z. z ∷ drop (n + 1) xs) (sym e))

-- ---- the fate of an item

pub fate_here : (weak : List (List ℕ)) (ds xs ys : List Definition) (n : ℕ) (d : Definition) (r : Fate) → xs ≡ ds → ys ≡ ds → n < length xs → d ≡ get_or xs n d →
    r ≡ fate_by weak (map definition_tree (take n ys)) (definition_tree d) → Some r ≡ fate_among weak (take n (map definition_tree ds)) (drop n (map definition_tree ds))
fate_here weak ds xs ys n d r ex ey lt e h =
    let fits : n < length ds = subst (λ z. n < length z) ex lt in
    let is : d ≡ get_or ds n d = subst (λ z. d ≡ get_or z n d) ex e in
    let all : fate_among weak (take n (map definition_tree ds)) (drop n (map definition_tree ds)) ≡ Some (fate_by weak (map definition_tree (take n ds)) (definition_tree d)) =
    rw (here definition_tree ds n d fits is, take-map definition_tree n ds) refl in
    ap Some (h ∙ ap (λ z. fate_by weak (map definition_tree (take n z)) (definition_tree d)) ey) ∙ sym all

-- ---- the first of a name

-- its number is that of an item
named_within : (k : ℕ) (ds : List Definition) (name : List ℕ) (n : ℕ) → Some n ≡ first_named k (map definition_tree ds) name → n < k + length ds
named_within k [] name n h = absurd cc
named_within k (d ∷ ds) name n h = by (bytes_eq d.name name) (named_within (k + 1) ds name n) h
  where
    by : (b : Bool) → (Some n ≡ first_named (k + 1) (map definition_tree ds) name → n < (k + 1) + length ds) → Some n ≡ (if b then Some k else first_named (k + 1) (map definition_tree ds) name) → n < k + suc (length ds)
    by true next g = let e : n ≡ k = cc in omega (arith, e)
    by false next g = let more : n < (k + 1) + length ds = next g in omega (arith, more)

pub never_past : (ds xs ys : List Definition) (name : List ℕ) (n : ℕ) → xs ≡ ds → ys ≡ ds → Some n ≡ first_named 0 (map definition_tree xs) name → length ys ≤ n → ⊥
never_past ds xs ys name n ex ey h le =
    let fits : n < 0 + length xs = named_within 0 xs name n h in
    let l : length ys ≡ length xs = ap length (ey ∙ sym ex) in
    absurd (omega (arith, fits, le, l))

-- whether the item with a number is static
static_here : (ds : List Definition) (n : ℕ) (d : Definition) → n < length ds → d ≡ get_or ds n d → is_static_among (drop n (map definition_tree ds)) ≡ d.is_static
static_here ds n d lt e = ap is_static_among (here definition_tree ds n d lt e)

external_here : (file : ℕ) (f : FileLinks) (xs ys : List Definition) (name : List ℕ) (n : ℕ) (d : Definition) (b : Bool) → xs ≡ f.definitions.items → ys ≡ f.definitions.items → Some n ≡ first_named 0 (map definition_tree xs) name →
    n < length ys → d ≡ get_or ys n d → d.is_static ≡ b →
    external_at file (file_tree f) (first_named 0 (map definition_tree f.definitions.items) name) ≡ (if b then [] else by_fate file n (fate_of (file_tree f) n) ∷ [])
external_here file f xs ys name n d b ex ey h lt e s =
    let fits : n < length f.definitions.items = subst (λ z. n < length z) ey lt in
    let is : d ≡ get_or f.definitions.items n d = subst (λ z. d ≡ get_or z n d) ey e in
    let found : first_named 0 (map definition_tree f.definitions.items) name ≡ Some n = sym (subst (λ z. Some n ≡ first_named 0 (map definition_tree z) name) ex h) in
    let b_is : is_static_among (drop n (map definition_tree f.definitions.items)) ≡ b = static_here f.definitions.items n d fits is ∙ s in
    ap (external_at file (file_tree f)) found ∙ ap (λ (z : Bool). if z then [] else by_fate file n (fate_of (file_tree f) n) ∷ []) b_is

pub static_is_none : (file : ℕ) (f : FileLinks) (xs ys : List Definition) (name : List ℕ) (n : ℕ) (d : Definition) → xs ≡ f.definitions.items → ys ≡ f.definitions.items → Some n ≡ first_named 0 (map definition_tree xs) name →
    n < length ys → d ≡ get_or ys n d → d.is_static ≡ true → [] ≡ external_at file (file_tree f) (first_named 0 (map definition_tree f.definitions.items) name)
static_is_none file f xs ys name n d ex ey h lt e s = sym (external_here file f xs ys name n d true ex ey h lt e s)

pub external_is_one : (file : ℕ) (f : FileLinks) (xs ys : List Definition) (name : List ℕ) (n : ℕ) (d : Definition) (r : Callee) → xs ≡ f.definitions.items → ys ≡ f.definitions.items → Some n ≡ first_named 0 (map definition_tree xs) name →
    n < length ys → d ≡ get_or ys n d → d.is_static ≡ false → r ≡ by_fate file n (fate_of (file_tree f) n) → r ∷ [] ≡ external_at file (file_tree f) (first_named 0 (map definition_tree f.definitions.items) name)
external_is_one file f xs ys name n d r ex ey h lt e s g = ap (λ z. z ∷ []) g ∙ sym (external_here file f xs ys name n d false ex ey h lt e s)

-- ---- a call

own_here : (files : List FileLinks) (file : ℕ) (f : FileLinks) (xs : List Definition) (name : List ℕ) (o : Option ℕ) → file < length files → f ≡ get_or files file f → xs ≡ f.definitions.items →
    o ≡ first_named 0 (map definition_tree xs) name → own_among file (drop file (map file_tree files)) name ≡ own file (file_tree f) o
own_here files file f xs name o lt e ex h =
    ap (λ z. own_among file z name) (here file_tree files file f lt e) ∙ ap (own file (file_tree f)) (sym (h ∙ ap (λ z. first_named 0 (map definition_tree z) name) ex))

-- its file has a function of its name
pub call_within : (files : List FileLinks) (file : ℕ) (f : FileLinks) (xs : List Definition) (name : List ℕ) (n : ℕ) (r : Callee) → file < length files → f ≡ get_or files file f → xs ≡ f.definitions.items →
    Some n ≡ first_named 0 (map definition_tree xs) name → r ≡ by_fate file n (fate_of (file_tree f) n) → r ≡ callee_of (map file_tree files) file name
call_within files file f xs name n r lt e ex h g = g ∙ sym (ap (λ z. chosen z (only_one (externals 0 (map file_tree files) name))) (own_here files file f xs name (Some n) lt e ex h))

-- it has none
pub call_outside : (files : List FileLinks) (file : ℕ) (f : FileLinks) (xs : List Definition) (name : List ℕ) (r : Callee) → file < length files → f ≡ get_or files file f → xs ≡ f.definitions.items →
    None ≡ first_named 0 (map definition_tree xs) name → r ≡ only_one (externals 0 (map file_tree files) name) → r ≡ callee_of (map file_tree files) file name
call_outside files file f xs name r lt e ex h g = g ∙ sym (ap (λ z. chosen z (only_one (externals 0 (map file_tree files) name))) (own_here files file f xs name None lt e ex h))

-- there is no such file
pub call_nowhere : (files : List FileLinks) (file : ℕ) (name : List ℕ) (r : Callee) → length files ≤ file → r ≡ only_one (externals 0 (map file_tree files) name) → r ≡ callee_of (map file_tree files) file name
call_nowhere files file name r le g =
    g ∙ sym (ap (λ z. chosen (own_among file z name) (only_one (externals 0 (map file_tree files) name))) (drop-map file_tree file files ∙ ap (map file_tree) (drop_all file files le)))
