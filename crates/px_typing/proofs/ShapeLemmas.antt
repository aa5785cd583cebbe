-- Rules over a whole list of declarations, and declaration by declaration.
use Rattle.std.proofs.Common.{◌≡◌, ◌∙◌, ℕ, Bool, true, false, not, ◌&&◌, ◌||◌, List, [], ◌∷◌, ◌++◌, map, filter_map, drop, get_or, length, ◌<◌, ◌+◌, Option, None, Some, refl, sym, ap, ap₂, add-one}
use Rattle.std.specs.List.{list_any, list_all}
use Rattle.std.specs.Str.{bytes_eq}
use Rattle.std.specs.Cmp.Lexicographic.{nat_list_eq_equiv}
use Rattle.std.proofs.lemmas.List.Folds.{list_any-append}
use Rattle.std.proofs.lemmas.List.{map-append}
use Rattle.std.proofs.Math.Seq.{drop-cons}
use Rattle.px_syntax.specs.declared.item.FieldDeclaration.{FieldDeclaration}
use Rattle.px_syntax.specs.declared.type_name.TypeName.{TypeName}
use Rattle.px_bodies.specs.Types.{is_value}
use Rattle.px_bodies.specs.Environment.{fields_of, fields_of_one}
use Rattle.px_typing.specs.Declarations.{Declared, declared_field, are_different, are_typed}
use Rattle.px_typing.specs.Shapes.{is_new, with_name, is_typed_after, are_typed_after, names_after}

and_assoc : (a b c : Bool) → (a && (b && c)) ≡ ((a && b) && c)
and_assoc true b c = refl
and_assoc false b c = refl

pub are_typed_after-append : (names : List (List ℕ)) (xs ys : List Declared) →
    are_typed_after names (xs ++ ys) ≡ (are_typed_after names xs && are_typed_after (names_after names xs) ys)
are_typed_after-append names [] ys = refl
are_typed_after-append names (x ∷ xs) ys =
    ap (λ b. is_typed_after names x && b) (are_typed_after-append (with_name names x.name) xs ys)
    ∙ and_assoc (is_typed_after names x) (are_typed_after (with_name names x.name) xs) (are_typed_after (names_after (with_name names x.name) xs) ys)

pub names_after-append : (names : List (List ℕ)) (xs ys : List Declared) → names_after names (xs ++ ys) ≡ names_after (names_after names xs) ys
names_after-append names [] ys = refl
names_after-append names (x ∷ xs) ys = names_after-append (with_name names x.name) xs ys

-- none of these names is among others
abbrev are_apart : List (List ℕ) → List (List ℕ) → Bool
are_apart names ns = list_all (λ n. not (list_any (bytes_eq n) names)) ns

apart_parts : (a b c d : Bool) → (not (a || b) && (c && d)) ≡ ((not a && c) && (not b && d))
apart_parts true b c d = refl
apart_parts false true true d = refl
apart_parts false true false d = refl
apart_parts false false true d = refl
apart_parts false false false d = refl

apart_one : (names : List (List ℕ)) (n : List ℕ) (ns : List (List ℕ)) →
    are_apart (names ++ n ∷ []) ns ≡ (are_apart names ns && not (list_any (bytes_eq n) ns))
apart_one names n [] = refl
apart_one names n (m ∷ ns) =
    ap₂ (λ a b. not a && b)
    (list_any-append (bytes_eq m) names (n ∷ []) ∙ ap (λ b. list_any (bytes_eq m) names || (b || false)) (nat_list_eq_equiv.symm m n))
    (apart_one names n ns)
    ∙ regroup (list_any (bytes_eq m) names) (bytes_eq n m) (are_apart names ns) (list_any (bytes_eq n) ns)
  where
    regroup : (a b c d : Bool) → (not (a || (b || false)) && (c && not d)) ≡ ((not a && c) && not (b || d))
    regroup true b c d = refl
    regroup false true true d = refl
    regroup false true false d = refl
    regroup false false true d = refl
    regroup false false false d = refl

unnamed : (v l a p : Bool) → ((v && true) && (l && (a && p))) ≡ ((v && l) && (a && p))
unnamed true l a p = refl
unnamed false l a p = refl

named : (v k l a q p : Bool) → ((v && not k) && (l && ((a && not q) && p))) ≡ ((v && l) && ((not k && a) && (not q && p)))
named false k l a q p = refl
named true true true a q p = refl
named true true false a q p = refl
named true false true true true p = refl
named true false true true false p = refl
named true false true false true p = refl
named true false true false false p = refl
named true false false a q p = refl

-- the rules after names are the rules, and that no name is among those
abbrev values : List Declared → Bool
values ds = list_all (λ d. is_value d.value) ds

abbrev names_of : List Declared → List (List ℕ)
names_of ds = filter_map (λ d. d.name) ds

abbrev Splits : List (List ℕ) → List Declared → Type 0
Splits names ds = are_typed_after names ds ≡ (values ds && (are_apart names (names_of ds) && are_different (names_of ds)))

split_one : (names : List (List ℕ)) (o : Option (List ℕ)) (t : TypeName) (ds : List Declared) → ((ns : List (List ℕ)) → Splits ns ds) →
    Splits names (record { name = o; value = t } ∷ ds)
split_one names None t ds rest =
    ap (λ b. (is_value t && true) && b) (rest names) ∙ unnamed (is_value t) (values ds) (are_apart names (names_of ds)) (are_different (names_of ds))
split_one names (Some n) t ds rest =
    ap (λ b. (is_value t && not (list_any (bytes_eq n) names)) && b)
    (rest (names ++ n ∷ []) ∙ ap (λ b. values ds && (b && are_different (names_of ds))) (apart_one names n (names_of ds)))
    ∙ named (is_value t) (list_any (bytes_eq n) names) (values ds) (are_apart names (names_of ds)) (list_any (bytes_eq n) (names_of ds)) (are_different (names_of ds))

split : (names : List (List ℕ)) (ds : List Declared) → Splits names ds
split names [] = refl
split names (d ∷ ds) = split_one names d.name d.value ds (λ ns. split ns ds)

apart_none : (ns : List (List ℕ)) → are_apart [] ns ≡ true
apart_none [] = refl
apart_none (n ∷ ns) = apart_none ns

pub are_typed-after : (ds : List Declared) → are_typed ds ≡ are_typed_after [] ds
are_typed-after ds =
    sym (split [] ds ∙ ap (λ b. values ds && (b && are_different (names_of ds))) (apart_none (names_of ds)))

-- the fields of one declaration, and those of the others
pub first_declaration : (names : List (List ℕ)) (d : FieldDeclaration) (ds : List FieldDeclaration) →
    are_typed_after names (map declared_field (fields_of (d ∷ ds)))
    ≡ (are_typed_after names (map declared_field (fields_of_one d)) && are_typed_after (names_after names (map declared_field (fields_of_one d))) (map declared_field (fields_of ds)))
first_declaration names d ds =
    ap (are_typed_after names) (map-append declared_field (fields_of_one d) (fields_of ds))
    ∙ are_typed_after-append names (map declared_field (fields_of_one d)) (map declared_field (fields_of ds))

pub next_declaration : (ds : List FieldDeclaration) (i : ℕ) (d : FieldDeclaration) (names : List (List ℕ)) → i < length ds → d ≡ get_or ds i d →
    are_typed_after names (map declared_field (fields_of (drop i ds)))
    ≡ (are_typed_after names (map declared_field (fields_of_one d)) && are_typed_after (names_after names (map declared_field (fields_of_one d))) (map declared_field (fields_of (drop (i + 1) ds))))
next_declaration ds i d names h e =
    ap (λ xs. are_typed_after names (map declared_field (fields_of xs))) (drop-cons ds i d h ∙ ap₂ (λ x xs. x ∷ xs) (sym e) (ap (λ n. drop n ds) (sym (add-one i))))
    ∙ first_declaration names d (drop (i + 1) ds)

-- the rules fail where the next declaration breaks them
pub broken_declaration : (ds : List FieldDeclaration) (i : ℕ) (d : FieldDeclaration) (names : List (List ℕ)) → i < length ds → d ≡ get_or ds i d →
    are_typed_after names (map declared_field (fields_of_one d)) ≡ false → are_typed_after names (map declared_field (fields_of (drop i ds))) ≡ false
broken_declaration ds i d names h e broken =
    next_declaration ds i d names h e
    ∙ ap (λ b. b && are_typed_after (names_after names (map declared_field (fields_of_one d))) (map declared_field (fields_of (drop (i + 1) ds)))) broken

-- and where it keeps them those after it decide
pub kept_declaration : (ds : List FieldDeclaration) (i : ℕ) (d : FieldDeclaration) (names : List (List ℕ)) → i < length ds → d ≡ get_or ds i d →
    are_typed_after names (map declared_field (fields_of_one d)) ≡ true →
    are_typed_after names (map declared_field (fields_of (drop i ds)))
    ≡ are_typed_after (names_after names (map declared_field (fields_of_one d))) (map declared_field (fields_of (drop (i + 1) ds)))
kept_declaration ds i d names h e kept =
    next_declaration ds i d names h e
    ∙ ap (λ b. b && are_typed_after (names_after names (map declared_field (fields_of_one d))) (map declared_field (fields_of (drop (i + 1) ds)))) kept
