-- What stands at a number.
use Rattle.std.proofs.Common.{◌≡◌, ℕ, zero, suc, ◌+◌, ◌<◌, ◌≤◌, true, false, List, [], ◌∷◌, length, drop, map, slice_index_or, Some, None, refl, sym, ap, ◌∙◌, arith}
use Rattle.px_real_expressions.specs.declared.terminal.Terminal.{Terminal}
use Rattle.px_real_expressions.specs.Lexemes.{Lexeme, same, front}
use Rattle.px_real_expressions.specs.declared.terminal.Terminal.TheVariants as T
use Rattle.px_real_symbols.specs.declared.symbol.Symbol.{Symbol}
use Rattle.px_real_symbols.specs.Symbols.{first}

pub drop_mapped : {A B : Type 0} (f : A → B) (xs : List A) (i : ℕ) (d : A) → i < length xs → drop i (map f xs) ≡ f (slice_index_or xs i d) ∷ drop (i + 1) (map f xs)
drop_mapped f [] i d lt = absurd (omega arith)
drop_mapped f (x ∷ xs) zero d lt = refl
drop_mapped f (x ∷ xs) (suc i) d lt =
    let e : suc i + 1 ≡ suc (i + 1) = omega arith in
    let fits : i < length xs = omega arith in
    rw e (drop_mapped f xs i d fits)

drop_nothing : {B : Type 0} (i : ℕ) (xs : List B) → xs ≡ [] → drop i xs ≡ []
drop_nothing zero xs h = h
drop_nothing (suc i) xs h = rw h refl

pub drop_past : {A B : Type 0} (f : A → B) (xs : List A) (i : ℕ) → length xs ≤ i → drop i (map f xs) ≡ []
drop_past f [] i le = drop_nothing i [] refl
drop_past f (x ∷ xs) zero le = absurd (omega arith)
drop_past f (x ∷ xs) (suc i) le = let fits : length xs ≤ i = omega arith in drop_past f xs i fits

pub first_at : {A : Type 0} (f : A → Lexeme) (xs : List A) (i : ℕ) (d : A) → i < length xs → Some (f (slice_index_or xs i d), drop (i + 1) (map f xs)) ≡ first (drop i (map f xs))
first_at f xs i d lt = rw (drop_mapped f xs i d lt) refl

-- the symbol that stands for one past the end
abbrev pub blank : Symbol
blank = record { terminal = T.Name; site = record { file = 0; line = 0; column = 0 }; start = 0; end = 0; value = None }

-- the lexeme at the front by its terminal
pub front_of : (k : Terminal) (ts : List Lexeme) (x : Lexeme × List Lexeme) → Some x ≡ first ts → same x.0.terminal k ≡ true → Some x ≡ front k ts
front_of k [] x h s = absurd cc
front_of k (t ∷ ts) x h s =
    let p : x ≡ (t, ts) = cc in
    let e : same t.terminal k ≡ true = sym (ap (λ (z : Lexeme × List Lexeme). same z.0.terminal k) p) ∙ s in
    rw e h

pub no_front : (k : Terminal) (ts : List Lexeme) (x : Lexeme × List Lexeme) → Some x ≡ first ts → same x.0.terminal k ≡ false → None ≡ front k ts
no_front k [] x h s = absurd cc
no_front k (t ∷ ts) x h s =
    let p : x ≡ (t, ts) = cc in
    let e : same t.terminal k ≡ false = sym (ap (λ (z : Lexeme × List Lexeme). same z.0.terminal k) p) ∙ s in
    rw e refl
