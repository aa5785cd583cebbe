-- What is in scope behind a declaration.
use Rattle.std.proofs.Common.{◌≡◌, ℕ, ◌+◌, ◌-◌, ◌<◌, Bool, true, false, ◌||◌, List, [], ◌∷◌, length, take, drop, get_or, map, reverse, Option, Some, None, Result, Ok, Err, OnOk, if◌then◌else◌, refl, ap, sym, subst, ◌∙◌}
use Rattle.std.specs.Str.{bytes_eq}
use Rattle.std.proofs.lemmas.List.{drop_more, take-map, drop-map, take_more, map_push, reverse-append, get_or_default}
use Rattle.px_real_expressions.specs.Lexemes.{Lexeme}
use Rattle.px_real_names.specs.declared.names.Entry.{Entry}
use Rattle.px_real_names.specs.Behind.{entry_view, names_view, is_typedef_word, Leaves, LeavesNone, IsBehind}
use Rattle.px_real_declarations.specs.DeclarationTree.{SpecifierTree, keyword, type_name, group, tagged, DeclaredTree, DeclarationTree, declaration}
use Rattle.px_real_declarations.specs.Names.{Names, NamesAfter, of_declaration, of_assertion, is_type, declared_name, is_typedef, with_name, with_declared, with_enumerators}
use Rattle.px_real_declaring.specs.declared.reading.DeclarationFault.{DeclarationFault}
use Rattle.px_real_declaring.specs.declared.reading.DeclarationFault.TheVariants as D
use Rattle.px_real_declaring.specs.declared.tree.Specifier.{Specifier}
use Rattle.px_real_declaring.specs.declared.tree.Group.{Group}
use Rattle.px_real_declaring.specs.declared.tree.Declared.{Declared}
use Rattle.px_real_declaring.specs.declared.tree.Declaration.{Declaration}
use Rattle.px_real_declaring.specs.declared.tree.Declaration.TheVariants as DeclarationOf
use Rattle.px_real_declaring.specs.Trees.{declaration_tree}
use Rattle.px_real_declaring.specs.Items.{nesting_limit}
use Rattle.px_real_names.specs.Enumerated.{enumerated, struct_limit, Found}
use Rattle.px_real_names.proofs.EnumeratedExact.{enumerated_sound, enumerated_complete}

behind : (names after : Names) (ss : List SpecifierTree) (xs : List DeclaredTree) (words : List (List ℕ)) → enumerated (is_type names) ss ≡ Some words → after ≡ with_declared (is_typedef ss) xs (with_enumerators words names) →
    NamesAfter nesting_limit struct_limit names (declaration ss xs) after
behind names after ss xs words h e = of_declaration refl (enumerated_sound (is_type names) struct_limit ss words h) e

-- what is brought into scope, one after the other
pub brings : (names : Names) (x : DeclarationTree) (ss : List SpecifierTree) (xs : List DeclaredTree) (words : List (List ℕ)) (kind : Bool) (between after : Names) → x ≡ declaration ss xs → enumerated (is_type names) ss ≡ Some words →
    kind ≡ is_typedef ss → between ≡ with_enumerators words names → after ≡ with_declared kind xs between → Leaves names x after
brings names x ss xs words kind between after same h k e1 e2 =
    subst (λ z. NamesAfter nesting_limit struct_limit names z after) (sym same)
    (behind names after ss xs words h (e2 ∙ ap (λ z. with_declared z xs between) k ∙ ap (with_declared (is_typedef ss) xs) e1))

pub asserted : (all : List Lexeme) (names : Names) (d : Declaration) (g : Group) → d ≡ DeclarationOf.Assertion g → Leaves names (declaration_tree all d) names
asserted all names d g h = of_assertion (ap (declaration_tree all) h) refl

-- where the enumerators aren't found, nothing is
nothing_behind : (names after : Names) (ss : List SpecifierTree) (xs : List DeclaredTree) → enumerated (is_type names) ss ≡ None → NamesAfter nesting_limit struct_limit names (declaration ss xs) after → ⊥
nothing_behind names after ss xs h (of_declaration {ss = ss1} {words = words} e m a) =
    let same : ss ≡ ss1 = cc in
    let there : enumerated (is_type names) ss ≡ Some words = rw same (enumerated_complete (is_type names) m) in
    absurd (let z : None ≡ Some words = sym h ∙ there in cc)
nothing_behind names after ss xs h (of_assertion e a) = absurd cc

none_behind : (names : Names) (ss : List SpecifierTree) (xs : List DeclaredTree) (e : DeclarationFault) → Found (λ (ws : List (List ℕ)). ws) (Err e) (enumerated (is_type names) ss) → LeavesNone names (declaration ss xs) names e
none_behind names ss xs D.NoMemory h = tt
none_behind names ss xs (D.NotADeclaration at) h = (λ other m. nothing_behind names other ss xs h m, refl)
none_behind names ss xs (D.Deep at) h = (λ other m. nothing_behind names other ss xs h m, refl)

pub fails_behind : (names : Names) (x : DeclarationTree) (ss : List SpecifierTree) (xs : List DeclaredTree) (e : DeclarationFault) → x ≡ declaration ss xs → Found (λ (ws : List (List ℕ)). ws) (Err e) (enumerated (is_type names) ss) → IsBehind names x names (Err e)
fails_behind names x ss xs e same h = subst (λ z. LeavesNone names z names e) (sym same) (none_behind names ss xs e h)

-- ---- what is declared

pub declares_name : {E : Type 0} (r : Result Unit E) (kind : Bool) (name : List ℕ) (old new : Names) (o : List Lexeme → Option (List ℕ)) → ((all : List Lexeme) → Some name ≡ o all) → OnOk r (new ≡ (name, kind) ∷ old) →
    OnOk r ((all : List Lexeme) → new ≡ with_name kind (o all) old)
declares_name (Ok u) kind name old new o h e = λ all. e ∙ ap (λ z. with_name kind z old) (h all)
declares_name (Err x) kind name old new o h e = e

pub one_declared : (f : Declared → DeclaredTree) (xs : List Declared) (i : ℕ) (x : Declared) (kind : Bool) (names new : Names) {b : Names} → i < length xs → x ≡ get_or xs i x →
    with_declared kind (map f (drop i xs)) names ≡ b → new ≡ with_name kind (declared_name (f x).declarator) names → with_declared kind (map f (drop (i + 1) xs)) new ≡ b
one_declared f xs i x kind names new lt is so_far e =
    ap (with_declared kind (map f (drop (i + 1) xs))) e ∙ sym (ap (λ z. with_declared kind (map f z) names) (drop_more xs i x lt ∙ ap (λ z. z ∷ drop (i + 1) xs) (sym is))) ∙ so_far

-- ---- tokens that are held

pub held_of : {A B : Type 0} (f : A → B) (xs behind some : List A) (first after n : ℕ) → behind ≡ drop first xs → some ≡ take n behind → n ≡ after - first → map f some ≡ take (after - first) (drop first (map f xs))
held_of f xs behind some first after n h g e =
    ap (map f) (g ∙ ap (take n) h ∙ ap (λ m. take m (drop first xs)) e) ∙ sym (take-map f (after - first) (drop first xs)) ∙ ap (take (after - first)) (sym (drop-map f first xs))

-- ---- the nearest name

-- the last is the nearest
last_first : (xs : List Entry) (i : ℕ) (d : Entry) → i < length xs → names_view (take (i + 1) xs) ≡ entry_view (get_or xs i d) ∷ names_view (take i xs)
last_first xs i d lt =
    ap names_view (take_more xs i d lt) ∙ ap reverse (map_push entry_view (take i xs) (get_or xs i d)) ∙ reverse-append (map entry_view (take i xs)) (entry_view (get_or xs i d) ∷ [])

module _ (xs : List Entry) (i : ℕ) (word : List ℕ) (x : Entry) (lt : i < length xs) (is : x ≡ get_or xs i x) where
  by_last : is_type (names_view (take (i + 1) xs)) word ≡ (if bytes_eq word x.name then x.is_type else is_type (names_view (take i xs)) word)
  by_last = ap (λ z. is_type z word) (last_first xs i x lt) ∙ ap (λ (z : Entry). if bytes_eq word z.name then z.is_type else is_type (names_view (take i xs)) word) (sym is)

  -- the word is the last name
  pub nearest_is : (e : Entry) {b : Bool} → is_type (names_view (take (i + 1) xs)) word ≡ b → true ≡ bytes_eq word x.name → (get_or xs i e).is_type ≡ b
  nearest_is e so_far h =
      ap (λ (z : Entry). z.is_type) (get_or_default xs i e x lt ∙ sym is) ∙ ap (λ z. if z then x.is_type else is_type (names_view (take i xs)) word) h ∙ sym by_last ∙ so_far

  -- it isn't
  pub further_is : {b : Bool} → is_type (names_view (take (i + 1) xs)) word ≡ b → false ≡ bytes_eq word x.name → is_type (names_view (take i xs)) word ≡ b
  further_is so_far h = ap (λ z. if z then x.is_type else is_type (names_view (take i xs)) word) h ∙ sym by_last ∙ so_far

-- where none is left, the word is no type's name
pub none_at_all : (xs : List Entry) (i : ℕ) (word : List ℕ) {b : Bool} → i ≡ 0 → is_type (names_view (take i xs)) word ≡ b → false ≡ b
none_at_all xs i word z h = sym (ap (λ n. is_type (names_view (take n xs)) word) z) ∙ h

-- ---- whether `typedef` is among specifiers

one_typedef : (s : SpecifierTree) (ss : List SpecifierTree) → is_typedef (s ∷ ss) ≡ (is_typedef_word s || is_typedef ss)
one_typedef (keyword word site) ss = refl
one_typedef (type_name word site) ss = refl
one_typedef (group g) ss = refl
one_typedef (tagged word site gs tag held) ss = refl

module _ (f : Specifier → SpecifierTree) (xs : List Specifier) (i : ℕ) (b : Bool) (so_far : is_typedef (map f (drop i xs)) ≡ b) where
  one_is : (x : Specifier) → i < length xs → x ≡ get_or xs i x → (is_typedef_word (f x) || is_typedef (map f (drop (i + 1) xs))) ≡ b
  one_is x lt e = sym (one_typedef (f x) (map f (drop (i + 1) xs))) ∙ sym (ap (λ z. is_typedef (map f z)) (drop_more xs i x lt ∙ ap (λ z. z ∷ drop (i + 1) xs) (sym e))) ∙ so_far

  pub typedef_here : (x : Specifier) → i < length xs → x ≡ get_or xs i x → true ≡ is_typedef_word (f x) → true ≡ b
  typedef_here x lt e h = ap (λ z. z || is_typedef (map f (drop (i + 1) xs))) h ∙ one_is x lt e

  pub typedef_next : (x : Specifier) → i < length xs → x ≡ get_or xs i x → false ≡ is_typedef_word (f x) → is_typedef (map f (drop (i + 1) xs)) ≡ b
  typedef_next x lt e h = ap (λ z. z || is_typedef (map f (drop (i + 1) xs))) h ∙ one_is x lt e
