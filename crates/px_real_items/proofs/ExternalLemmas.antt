-- What is read of the tokens of an item is what the grammar has.
use Rattle.std.proofs.Common.{◌≡◌, ℕ, ◌-◌, List, [], ◌++◌, length, take, drop, map, Result, Ok, Err, refl, ap, sym, subst, ◌∙◌, arith}
use Rattle.std.proofs.lemmas.List.{take-map, drop-map, length-map, take-append-drop, take-append-le, drop-append-le, take_all, drop_all}
use Rattle.px_real_expressions.specs.declared.terminal.Terminal.TheVariants as T
use Rattle.px_real_expressions.specs.Lexemes.{Lexeme}
use Rattle.px_real_expressions.specs.Grammar.{Between, between, IsHeld, is_held}
use Rattle.px_real_expressions.proofs.Tools.{both_are}
use Rattle.px_real_statements.specs.StatementTree.{StatementTree}
use Rattle.px_real_statements.specs.Grammar.{IsBody}
use Rattle.px_real_declarations.specs.DeclarationTree.{DeclarationTree, HeadTree}
use Rattle.px_real_declarations.specs.Grammar.{Types, IsDeclaration, IsHead}
use Rattle.px_real_declarations.specs.Names.{Names, is_type}
use Rattle.px_real_declarations.proofs.OneReading.{one_declaration}
use Rattle.px_real_declarations.proofs.MemberExact.{head_complete}
use Rattle.px_real_blocks.specs.Parts.{nesting_limit as most_statements, IsBracedBody}
use Rattle.px_real_declaring.specs.declared.reading.DeclarationFault.{DeclarationFault}
use Rattle.px_real_declaring.specs.declared.reading.DeclarationFault.TheVariants as D
use Rattle.px_real_declaring.specs.Items.{nesting_limit}
use Rattle.px_real_declaring.specs.Whole.{NoneIs}
use Rattle.px_real_names.specs.Behind.{Leaves, LeavesNone, of_head}
use Rattle.px_real_items.specs.Ends.{end_of}
use Rattle.px_real_items.specs.Externals.{declares, defines, IsExternal, is_declaration, is_definition, IsNone}
use Rattle.px_real_items.specs.Trees.{all_but_last, itself, NoneInScope, Neither, IsExternalRead, NoFunction, IsFunctionRead}
use Rattle.px_real_items.specs.declared.tree.External.{External}
use Rattle.px_real_items.specs.declared.ends.End.TheVariants as E
use Rattle.px_real_items.proofs.EndLemmas.{body_balanced, body_there, semicolon_there, before_semicolon, ends_so}

-- ---- a tree, and what it brings into scope

-- no tree of the grammar is there
pub none_here : {A : Type 0} (G : A → Type 0) (of : A → DeclarationTree) (names : Names) (e : DeclarationFault) → NoneIs G e → NoneInScope G of names names e
none_here G of names D.NoMemory h = tt
none_here G of names (D.NotADeclaration at) h = (λ a other g b. h a g, refl)
none_here G of names (D.Deep at) h = (λ a other g b. h a g, refl)

-- the one that is there brings nothing into scope
brings_nothing : {A : Type 0} (G : A → Type 0) (of : A → DeclarationTree) (names : Names) (x : A) (after : Names) (e : DeclarationFault) → ((a : A) → G a → a ≡ x) → LeavesNone names (of x) after e → NoneInScope G of names after e
brings_nothing G of names x after D.NoMemory one h = tt
brings_nothing G of names x after (D.NotADeclaration at) one h = (λ a other g b. h.0 other (subst (λ z. Leaves names (of z) other) (one a g) b), h.1)
brings_nothing G of names x after (D.Deep at) one h = (λ a other g b. h.0 other (subst (λ z. Leaves names (of z) other) (one a g) b), h.1)

pub no_declaration_here : (names : Names) (ts : List Lexeme) (x : DeclarationTree) (after : Names) (e : DeclarationFault) → IsDeclaration (is_type names) nesting_limit ts x → LeavesNone names x after e →
    NoneInScope (IsDeclaration (is_type names) nesting_limit ts) itself names after e
no_declaration_here names ts x after e m h = brings_nothing (IsDeclaration (is_type names) nesting_limit ts) itself names x after e (λ a g. one_declaration (is_type names) nesting_limit ts a x g m) h

one_head : (types : Types) (ts : List Lexeme) (a b : HeadTree) → IsHead types nesting_limit ts a → IsHead types nesting_limit ts b → a ≡ b
one_head types ts a b g h = (both_are a b [] [] (sym (head_complete types nesting_limit g) ∙ head_complete types nesting_limit h)).0

pub no_head_here : (names : Names) (ts : List Lexeme) (x : HeadTree) (after : Names) (e : DeclarationFault) → IsHead (is_type names) nesting_limit ts x → LeavesNone names (of_head x) after e →
    NoneInScope (IsHead (is_type names) nesting_limit ts) of_head names after e
no_head_here names ts x after e m h = brings_nothing (IsHead (is_type names) nesting_limit ts) of_head names x after e (λ a g. one_head (is_type names) ts a x g m) h

-- ---- a body

-- what isn't in braces is no body
pub no_body : (ts : List Lexeme) → ((o : Lexeme) (a : List Lexeme) → Between T.OpenBrace T.CloseBrace IsHeld ts o a → ⊥) → (ss : List StatementTree) → IsBracedBody ts ss → ⊥
no_body ts h ss b = by b.0 b.1
  where
    by : (o : Lexeme) → Between T.OpenBrace T.CloseBrace (IsBody most_statements) ts o ss → ⊥
    by o (between c {ts1 = a} ko kc g parts) = h o a (between c ko kc (is_held (body_balanced most_statements g) refl) parts)

-- ---- a function

pub bodiless : (names : Names) (ts : List Lexeme) (n : ℕ) (e : DeclarationFault) → NoneIs (IsBracedBody (drop n ts)) e → NoFunction names ts n names e
bodiless names ts n D.NoMemory h = tt
bodiless names ts n (D.NotADeclaration at) h = (λ x ss other m b s. h ss b, refl)
bodiless names ts n (D.Deep at) h = (λ x ss other m b s. h ss b, refl)

pub headless : (names : Names) (ts : List Lexeme) (n : ℕ) (after : Names) (e : DeclarationFault) → NoneInScope (IsHead (is_type names) nesting_limit (take n ts)) of_head names after e → NoFunction names ts n after e
headless names ts n after D.NoMemory h = tt
headless names ts n after (D.NotADeclaration at) h = (λ x ss other m b s. h.0 x other m s, h.1)
headless names ts n after (D.Deep at) h = (λ x ss other m b s. h.0 x other m s, h.1)

pub definition_is : (names : Names) (ts : List Lexeme) (n : ℕ) (x : HeadTree) (ss : List StatementTree) (after : Names) → IsHead (is_type names) nesting_limit (take n ts) x → IsBracedBody (drop n ts) ss → Leaves names (of_head x) after →
    IsExternal names ts (defines x ss) after
definition_is names ts n x ss after m b s = is_definition (drop n ts) m b s (sym (take-append-drop n ts)) refl

first_part : {A : Type 0} (xs ys : List A) → take (length xs) (xs ++ ys) ≡ xs
first_part xs ys = take-append-le (length xs) xs ys (omega arith) ∙ take_all (length xs) xs (omega arith)

second_part : {A : Type 0} (xs ys : List A) → drop (length xs) (xs ++ ys) ≡ ys
second_part xs ys = drop-append-le (length xs) xs ys (omega arith) ∙ ap (λ z. z ++ ys) (drop_all (length xs) xs (omega arith))

-- ---- an item

pub declaration_is : (names : Names) (ts : List Lexeme) (d : DeclarationTree) (after : Names) → end_of ts ≡ E.Semicolon → IsDeclaration (is_type names) nesting_limit (all_but_last ts) d → Leaves names d after → IsExternal names ts (declares d) after
declaration_is names ts d after h m s = let w = ends_so ts h in is_declaration w.0 m w.1 s w.2 refl

other_end : {A : Type 0} (ts : List Lexeme) {n : ℕ} → end_of ts ≡ E.Semicolon → end_of ts ≡ E.Body n → A
other_end ts {n = n} h g = absurd (let z : E.Semicolon ≡ E.Body n = sym h ∙ g in cc)

not_declared : (names : Names) (ts : List Lexeme) → end_of ts ≡ E.Semicolon → ((d : DeclarationTree) (other : Names) → IsDeclaration (is_type names) nesting_limit (all_but_last ts) d → Leaves names d other → ⊥) → IsNone names ts
not_declared names ts h none x after (is_declaration {ts1 = ts1} e {d = d} m k s parts g) = none d after (subst (λ z. IsDeclaration (is_type names) nesting_limit z d) (before_semicolon ts ts1 e parts) m) s
not_declared names ts h none x after (is_definition {ts1 = ts1} ts2 {ss = ss} m b s parts g) = other_end ts h (body_there ts ts1 ts2 ss b parts)

pub no_declaration : (names : Names) (ts : List Lexeme) (after : Names) (e : DeclarationFault) → end_of ts ≡ E.Semicolon → NoneInScope (IsDeclaration (is_type names) nesting_limit (all_but_last ts)) itself names after e → Neither names ts after e
no_declaration names ts after D.NoMemory h none = tt
no_declaration names ts after (D.NotADeclaration at) h none = (not_declared names ts h none.0, none.1)
no_declaration names ts after (D.Deep at) h none = (not_declared names ts h none.0, none.1)

not_defined : (names : Names) (ts : List Lexeme) (n : ℕ) → end_of ts ≡ E.Body n → ((x : HeadTree) (ss : List StatementTree) (other : Names) → IsHead (is_type names) nesting_limit (take n ts) x → IsBracedBody (drop n ts) ss → Leaves names (of_head x) other → ⊥) → IsNone names ts
not_defined names ts n h none x after (is_declaration {ts1 = ts1} e m k s parts g) = other_end ts (semicolon_there ts ts1 e k parts) h
not_defined names ts n h none x after (is_definition {ts1 = ts1} ts2 {h = head} {ss = ss} m b s parts g) =
    let same : length ts1 ≡ n = (let z : E.Body (length ts1) ≡ E.Body n = sym (body_there ts ts1 ts2 ss b parts) ∙ h in cc) in
    let first : take n ts ≡ ts1 = ap (λ z. take z ts) (sym same) ∙ ap (take (length ts1)) parts ∙ first_part ts1 ts2 in
    let second : drop n ts ≡ ts2 = ap (λ z. drop z ts) (sym same) ∙ ap (drop (length ts1)) parts ∙ second_part ts1 ts2 in
    none head ss after (subst (λ z. IsHead (is_type names) nesting_limit z head) (sym first) m) (subst (λ z. IsBracedBody z ss) (sym second) b) s

pub no_function : (names : Names) (ts : List Lexeme) (n : ℕ) (after : Names) (e : DeclarationFault) → end_of ts ≡ E.Body n → NoFunction names ts n after e → Neither names ts after e
no_function names ts n after D.NoMemory h none = tt
no_function names ts n after (D.NotADeclaration at) h none = (not_defined names ts n h none.0, none.1)
no_function names ts n after (D.Deep at) h none = (not_defined names ts n h none.0, none.1)

pub neither : (names : Names) (ts : List Lexeme) → end_of ts ≡ E.Neither → IsNone names ts
neither names ts h x after (is_declaration {ts1 = ts1} e m k s parts g) = absurd (let z : E.Semicolon ≡ E.Neither = sym (semicolon_there ts ts1 e k parts) ∙ h in cc)
neither names ts h x after (is_definition {ts1 = ts1} ts2 {ss = ss} m b s parts g) = absurd (let z : E.Body (length ts1) ≡ E.Neither = sym (body_there ts ts1 ts2 ss b parts) ∙ h in cc)

-- ---- as the code has the tokens

pub seen_first : {A B : Type 0} (f : A → B) (xs ys : List A) (n : ℕ) → ys ≡ take n xs → map f ys ≡ take n (map f xs)
seen_first f xs ys n h = ap (map f) h ∙ sym (take-map f n xs)

pub seen_rest : {A B : Type 0} (f : A → B) (xs ys : List A) (n : ℕ) → ys ≡ drop n xs → map f ys ≡ drop n (map f xs)
seen_rest f xs ys n h = ap (map f) h ∙ sym (drop-map f n xs)

pub seen_but_last : {A B : Type 0} (f : A → B) (xs ys : List A) (n : ℕ) → ys ≡ take n xs → n ≡ length xs - 1 → map f ys ≡ all_but_last (map f xs)
seen_but_last f xs ys n h count =
    let e : n ≡ length (map f xs) - 1 = count ∙ ap (λ z. z - 1) (sym (length-map xs f)) in
    seen_first f xs ys n h ∙ ap (λ z. take z (map f xs)) e

pub bodiless_here : (names : Names) (ts us : List Lexeme) (n : ℕ) (e : DeclarationFault) → us ≡ drop n ts → NoneIs (IsBracedBody us) e → NoFunction names ts n names e
bodiless_here names ts us n e h none = bodiless names ts n e (subst (λ z. NoneIs (IsBracedBody z) e) h none)

pub headless_here : (names : Names) (ts us : List Lexeme) (n : ℕ) (after : Names) (e : DeclarationFault) → us ≡ take n ts → NoneInScope (IsHead (is_type names) nesting_limit us) of_head names after e → NoFunction names ts n after e
headless_here names ts us n after e h none = headless names ts n after e (subst (λ z. NoneInScope (IsHead (is_type names) nesting_limit z) of_head names after e) h none)

pub function_here : (names : Names) (ts us vs : List Lexeme) (n : ℕ) (f : List Lexeme → HeadTree) (g : List Lexeme → List StatementTree) (after : Names) → us ≡ take n ts → vs ≡ drop n ts →
    IsHead (is_type names) nesting_limit us (f us) → IsBracedBody vs (g vs) → Leaves names (of_head (f us)) after → IsExternal names ts (defines (f (take n ts)) (g (drop n ts))) after
function_here names ts us vs n f g after first rest m b s =
    definition_is names ts n (f (take n ts)) (g (drop n ts)) after (subst (λ z. IsHead (is_type names) nesting_limit z (f z)) first m) (subst (λ z. IsBracedBody z (g z)) rest b) (subst (λ z. Leaves names (of_head (f z)) after) first s)

pub declaration_here : (names : Names) (ts us : List Lexeme) (f : List Lexeme → DeclarationTree) (after : Names) → end_of ts ≡ E.Semicolon → us ≡ all_but_last ts → IsDeclaration (is_type names) nesting_limit us (f us) → Leaves names (f us) after →
    IsExternal names ts (declares (f (all_but_last ts))) after
declaration_here names ts us f after ends same m s =
    declaration_is names ts (f (all_but_last ts)) after ends (subst (λ z. IsDeclaration (is_type names) nesting_limit z (f z)) same m) (subst (λ z. Leaves names (f z) after) same s)

pub undeclared_here : (names : Names) (ts us : List Lexeme) (after : Names) (e : DeclarationFault) → end_of ts ≡ E.Semicolon → us ≡ all_but_last ts → NoneInScope (IsDeclaration (is_type names) nesting_limit us) itself names after e → Neither names ts after e
undeclared_here names ts us after e ends same none = no_declaration names ts after e ends (subst (λ z. NoneInScope (IsDeclaration (is_type names) nesting_limit z) itself names after e) same none)

pub function_read : (names : Names) (ts : List Lexeme) (n : ℕ) (after : Names) (r : Result External DeclarationFault) → end_of ts ≡ E.Body n → IsFunctionRead names ts n after r → IsExternalRead names ts after r
function_read names ts n after (Ok x) ends h = h
function_read names ts n after (Err e) ends h = no_function names ts n after e ends h
