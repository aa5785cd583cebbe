-- Lists whose last is the nearest: one more, and some less.
use Rattle.std.proofs.Common.{◌≡◌, ℕ, ◌-◌, List, [], ◌∷◌, ◌++◌, length, take, drop, map, reverse, ap, sym, ◌∙◌, arith}
use Rattle.std.proofs.lemmas.List.{map_push, take-map, take-append-drop, reverse-append, length-reverse, length-drop, drop_at, take_at, length_push}
use Rattle.px_real_scopes.specs.Keys.{last_of}

pub pushed : {A B : Type 0} (f : A → B) (xs : List A) (x : A) → reverse (map f (xs ++ x ∷ [])) ≡ f x ∷ reverse (map f xs)
pushed f xs x = ap reverse (map_push f xs x) ∙ reverse-append (map f xs) (f x ∷ [])

pub cut_short : {A B : Type 0} (f : A → B) (xs : List A) (n : ℕ) → reverse (map f (take n xs)) ≡ last_of n (reverse (map f xs))
cut_short f xs n =
    let ys = map f xs in
    let whole : reverse ys ≡ reverse (drop n ys) ++ reverse (take n ys) = ap reverse (sym (take-append-drop n ys)) ∙ reverse-append (take n ys) (drop n ys) in
    let count : length (reverse (drop n ys)) ≡ length (reverse ys) - n = length-reverse (drop n ys) ∙ length-drop n ys ∙ ap (λ m. m - n) (sym (length-reverse ys)) in
    ap reverse (sym (take-map f n xs)) ∙ sym (drop_at (reverse (drop n ys)) (reverse (take n ys)) (length (reverse ys) - n) count) ∙ sym (ap (λ z. drop (length (reverse ys) - n) z) whole)

-- a key that was pushed is taken away again
pub popped : (keys : List ℕ) (key : ℕ) → take (length (keys ++ key ∷ []) - 1) (keys ++ key ∷ []) ≡ keys
popped keys key =
    let n = length_push keys key in
    take_at keys (key ∷ []) (length (keys ++ key ∷ []) - 1) (omega (arith, n))
