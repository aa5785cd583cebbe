-- What stands behind a declarator, by its list.
use Rattle.std.proofs.Common.{◌≡◌, ℕ, zero, suc, ◌+◌, ◌<◌, true, false, nat_eq, List, [], ◌∷◌, drop, length, slice_index_or, slice_get, Option, Some, None, option_map, refl, sym, ap, ◌∙◌, arith}
use Rattle.px_base.specs.declared.trace.Site.{Site}
use Rattle.px_expressions.specs.Reading.{or_else}
use Rattle.px_real_expressions.specs.Lexemes.{Lexeme}
use Rattle.px_real_symbols.specs.Symbols.{held_in}
use Rattle.px_real_symbols.specs.declared.held.Span.{Span}
use Rattle.px_real_declarations.specs.DeclarationTree.{DeclaratorTree, array, function}
use Rattle.px_real_declarations.specs.Names as Names
use Rattle.px_real_declaring.specs.declared.tree.Suffix.{Suffix}
use Rattle.px_real_declaring.specs.declared.tree.Suffix.TheVariants as X
use Rattle.px_real_declaring.specs.Trees.{all_suffixed}
use Rattle.px_real_types.specs.declared.shape.Shape.{Shape}
use Rattle.px_real_types.specs.declared.shape.Shape.TheVariants as S
use Rattle.px_real_types.specs.Linkage.{declarator_weakens}
use Rattle.px_real_types.specs.Declarators.{SignatureTree, declared, bare_name, function_in, own_signature, before_suffix, before_all}

-- the type of its name
pub declared_before : (all : List Lexeme) (d : DeclaratorTree) (xs : List Suffix) (s : Shape) → declared (all_suffixed all d xs) s ≡ declared d (before_all xs s)
declared_before all d [] s = refl
declared_before all d (X.Array site held ∷ xs) s = declared_before all (array site d (held_in all held)) xs s
declared_before all d (X.Function site held ∷ xs) s = declared_before all (function site d (held_in all held)) xs s

-- its name
pub name_behind : (all : List Lexeme) (d : DeclaratorTree) (xs : List Suffix) → Names.declared_name (all_suffixed all d xs) ≡ Names.declared_name d
name_behind all d [] = refl
name_behind all d (X.Array site held ∷ xs) = name_behind all (array site d (held_in all held)) xs
name_behind all d (X.Function site held ∷ xs) = name_behind all (function site d (held_in all held)) xs

-- whether an attribute in it makes weak
pub weakens_behind : (all : List Lexeme) (d : DeclaratorTree) (xs : List Suffix) → declarator_weakens (all_suffixed all d xs) ≡ declarator_weakens d
weakens_behind all d [] = refl
weakens_behind all d (X.Array site held ∷ xs) = weakens_behind all (array site d (held_in all held)) xs
weakens_behind all d (X.Function site held ∷ xs) = weakens_behind all (function site d (held_in all held)) xs

-- with something behind it, it is no bare name
pub never_bare : (all : List Lexeme) (d : DeclaratorTree) (x : Suffix) (xs : List Suffix) → bare_name (all_suffixed all d (x ∷ xs)) ≡ None
never_bare all d (X.Array site held) [] = refl
never_bare all d (X.Function site held) [] = refl
never_bare all d (X.Array site held) (y ∷ xs) = never_bare all (array site d (held_in all held)) y xs
never_bare all d (X.Function site held) (y ∷ xs) = never_bare all (function site d (held_in all held)) y xs

-- behind what is no bare name nothing declares a function
behind_other : (all : List Lexeme) (d : DeclaratorTree) (xs : List Suffix) (s : Shape) → bare_name d ≡ None → function_in (all_suffixed all d xs) s ≡ function_in d (before_all xs s)
behind_other all d [] s h = refl
behind_other all d (X.Array site held ∷ xs) s h = behind_other all (array site d (held_in all held)) xs s refl
behind_other all d (X.Function site held ∷ xs) s h = behind_other all (function site d (held_in all held)) xs s refl ∙ rw h refl

-- what is declared behind others is a function by the first of them, or by what stands before it
pub function_behind : (all : List Lexeme) (d : DeclaratorTree) (x : Suffix) (xs : List Suffix) (s : Shape) →
    function_in (all_suffixed all d (x ∷ xs)) s ≡ or_else (own_signature all d x (before_all xs s)) (λ f. Some f) (function_in d (before_suffix x (before_all xs s)))
function_behind all d (X.Array site held) xs s = behind_other all (array site d (held_in all held)) xs s refl
function_behind all d (X.Function site held) xs s = behind_other all (function site d (held_in all held)) xs s refl ∙ by (bare_name d)
  where
    by : (o : Option (List ℕ × Site)) → or_else o (λ n. Some (record { name = n.0; site = n.1; gives = before_all xs s; parameters = held_in all held })) (function_in d S.Outside)
        ≡ or_else (option_map (λ n. record { name = n.0; site = n.1; gives = before_all xs s; parameters = held_in all held }) o) (λ f. Some f) (function_in d S.Outside)
    by (Some n) = refl
    by None = refl

-- ---- by the first behind it

-- the function that it declares by itself
pub own_by : (all : List Lexeme) (d : DeclaratorTree) (x : Suffix) (site : Site) (held : Span) (s : Shape) (o : Option (List ℕ × Site)) → x ≡ X.Function site held → o ≡ bare_name d →
    option_map (λ n. record { name = n.0; site = n.1; gives = s; parameters = held_in all held }) o ≡ own_signature all d x s
own_by all d x site held s o is h = ap (option_map (λ n. record { name = n.0; site = n.1; gives = s; parameters = held_in all held })) h ∙ sym (ap (λ z. own_signature all d z s) is)

pub bare_alone : (all : List Lexeme) (d : DeclaratorTree) (xs : List Suffix) → xs ≡ [] → bare_name (all_suffixed all d xs) ≡ bare_name d
bare_alone all d [] h = refl
bare_alone all d (x ∷ xs) h = absurd cc

pub bare_never : (all : List Lexeme) (d : DeclaratorTree) (xs : List Suffix) (n : ℕ) → n ≡ length xs → false ≡ nat_eq n 0 → bare_name (all_suffixed all d xs) ≡ None
bare_never all d [] n e h = let z : false ≡ true = h ∙ ap (λ k. nat_eq k 0) e in absurd cc
bare_never all d (x ∷ xs) n e h = never_bare all d x xs

pub function_own : (all : List Lexeme) (d : DeclaratorTree) (xs : List Suffix) (s : Shape) (x : Suffix) (f : SignatureTree) → Some x ≡ slice_get xs 0 → Some f ≡ own_signature all d x (before_all (drop 1 xs) s) →
    Some f ≡ function_in (all_suffixed all d xs) s
function_own all d [] s x f h g = absurd cc
function_own all d (y ∷ xs) s x f h g =
    let e : x ≡ y = cc in
    let own : own_signature all d y (before_all xs s) ≡ Some f = sym (g ∙ ap (λ z. own_signature all d z (before_all xs s)) e) in
    sym (function_behind all d y xs s ∙ ap (λ z. or_else z (λ f. Some f) (function_in d (before_suffix y (before_all xs s)))) own)

pub function_within : (all : List Lexeme) (d : DeclaratorTree) (xs : List Suffix) (s : Shape) (x : Suffix) → Some x ≡ slice_get xs 0 → None ≡ own_signature all d x (before_all (drop 1 xs) s) →
    function_in d (before_suffix x (before_all (drop 1 xs) s)) ≡ function_in (all_suffixed all d xs) s
function_within all d [] s x h g = absurd cc
function_within all d (y ∷ xs) s x h g =
    let e : x ≡ y = cc in
    let none : own_signature all d y (before_all xs s) ≡ None = sym (g ∙ ap (λ z. own_signature all d z (before_all xs s)) e) in
    ap (λ z. function_in d (before_suffix z (before_all xs s))) e ∙ sym (function_behind all d y xs s ∙ ap (λ z. or_else z (λ f. Some f) (function_in d (before_suffix y (before_all xs s)))) none)

-- ---- the last first

pub none_behind : (xs : List Suffix) (s : Shape) (n : ℕ) → n ≡ length xs → before_all (drop n xs) s ≡ s
none_behind [] s zero h = refl
none_behind [] s (suc n) h = absurd (omega (arith, h))
none_behind (x ∷ xs) s zero h = absurd (omega (arith, h))
none_behind (x ∷ xs) s (suc n) h = let e : n ≡ length xs = omega (arith, h) in none_behind xs s n e

-- the suffix that stands for one past the end
abbrev pub blank : Suffix
blank = X.Array (record { file = 0; line = 0; column = 0 }) (record { first = 0; after = 0 })

pub one_before : (xs : List Suffix) (s : Shape) (n : ℕ) → n < length xs → before_all (drop n xs) s ≡ before_suffix (slice_index_or xs n blank) (before_all (drop (n + 1) xs) s)
one_before [] s n lt = absurd (omega arith)
one_before (x ∷ xs) s zero lt = refl
one_before (x ∷ xs) s (suc n) lt = let e : suc n + 1 ≡ suc (n + 1) = omega arith in let fits : n < length xs = omega arith in rw e (one_before xs s n fits)
