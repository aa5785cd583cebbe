-- The bytes of a part are passed over, and no more.
use Rattle.std.proofs.Common.{◌≡◌, ℕ, suc, ◌≤◌, List, [], ◌∷◌, ◌++◌, length, refl, sym, ap, subst, ◌∙◌, append_assoc, append-nil, arith}
use Rattle.std.specs.Prelude.{take, drop}
use Rattle.std.specs.List.{flat_map, AllByRecursion}
use Rattle.std.proofs.lemmas.List.{take_at, drop_at, length-append}
use Rattle.std.proofs.lemmas.List.Concat.{flat_map-cons}
use Rattle.std.proofs.lemmas.Nat.{from_be_bytes-to_be_bytes_4}
use Rattle.px_spelling.specs.Numbers.{u32_bytes, IsU32}
use Rattle.px_spelling.specs.Lists.{list_bytes, IsList}
use Rattle.px_parts.specs.declared.form.Form.{Form}
use Rattle.px_parts.specs.declared.form.Form.TheVariants as F
use Rattle.px_parts.specs.declared.form.Due.{Due}
use Rattle.px_parts.specs.Forms.{size, due, count_in, follow, Passes, stands, moves}
use Rattle.px_parts.proofs.Passing.{leaves, told_at, passes_then}

-- bytes of so many of a form
abbrev pub Fills : Form → ℕ → List ℕ → Type 0
Fills f n bytes = (dues : List Due) (rest : List ℕ) → Passes (due f n ∷ dues) (bytes ++ rest) dues rest

-- bytes of one of a form
abbrev pub IsOne : Form → List ℕ → Type 0
IsOne f bytes = (n : ℕ) (dues : List Due) (rest : List ℕ) → Passes (due f (suc n) ∷ dues) (bytes ++ rest) (due f n ∷ dues) rest

-- bytes of all that is due
abbrev pub AreDue : List Due → List ℕ → Type 0
AreDue dues bytes = (rest : List ℕ) → Passes dues (bytes ++ rest) [] rest

pub none_fill : (f : Form) → Fills f 0 []
none_fill f dues rest = moves refl stands

pub next_fills : (f : Form) (n : ℕ) (a b : List ℕ) → IsOne f a → Fills f n b → Fills f (suc n) (a ++ b)
next_fills f n a b first second dues rest =
    passes_then (due f (suc n) ∷ dues) (due f n ∷ dues) dues ((a ++ b) ++ rest) (b ++ rest) rest
    (subst (λ l. Passes (due f (suc n) ∷ dues) l (due f n ∷ dues) (b ++ rest)) (sym (append_assoc a b rest)) (first n dues (b ++ rest))) (second dues rest)

pub one_fills : (f : Form) (a : List ℕ) → IsOne f a → Fills f 1 a
one_fills f a first = subst (λ l. Fills f 1 l) (append-nil a) (next_fills f 0 a [] first (none_fill f))

pub two_fill : (f : Form) (a b : List ℕ) → IsOne f a → IsOne f b → Fills f 2 (a ++ b)
two_fill f a b first second = next_fills f 1 a b first (one_fills f b second)

pub then_due : (f : Form) (n : ℕ) (a b : List ℕ) (dues : List Due) → Fills f n a → AreDue dues b → AreDue (due f n ∷ dues) (a ++ b)
then_due f n a b dues first second rest =
    passes_then (due f n ∷ dues) dues [] ((a ++ b) ++ rest) (b ++ rest) rest
    (subst (λ l. Passes (due f n ∷ dues) l dues (b ++ rest)) (sym (append_assoc a b rest)) (first dues (b ++ rest))) (second rest)

pub last_due : (f : Form) (n : ℕ) (a : List ℕ) → Fills f n a → AreDue (due f n ∷ []) a
last_due f n a first rest = first [] rest

-- a front, and what follows it
pub front_then : (f g : Form) (m : ℕ) (front behind : List ℕ) → length front ≡ size f → follow f front ≡ due g m → Fills g m behind → IsOne f (front ++ behind)
front_then f g m front behind many follows second n dues rest =
    let bytes = (front ++ behind) ++ rest in
    let is : bytes ≡ front ++ (behind ++ rest) = append_assoc front behind rest in
    let long : size f ≤ length bytes = omega (arith, ap length is, length-append front (behind ++ rest), many) in
    let is_front : front ≡ take (size f) bytes = sym (take_at front (behind ++ rest) (size f) many) ∙ ap (λ l. take (size f) l) (sym is) in
    let is_rest : behind ++ rest ≡ drop (size f) bytes = sym (drop_at front (behind ++ rest) (size f) many) ∙ ap (λ l. drop (size f) l) (sym is) in
    moves (told_at f n dues bytes front (behind ++ rest) long is_front is_rest ∙ ap (λ d. leaves (d ∷ due f n ∷ dues) (behind ++ rest)) follows) (second (due f n ∷ dues) rest)

-- so many bytes, of which nothing is asked
pub fixed : (f : Form) (bytes : List ℕ) → length bytes ≡ size f → follow f bytes ≡ due F.Byte 0 → IsOne f bytes
fixed f bytes many follows = subst (λ l. IsOne f l) (append-nil bytes) (front_then f F.Byte 0 bytes [] many follows (none_fill F.Byte))

-- lists
pub items_fill : {A : Type 0} (g : Form) (bytes_of : A → List ℕ) (fits : A → Type 0) → ((x : A) → fits x → IsOne g (bytes_of x)) → (xs : List A) → AllByRecursion fits xs →
    Fills g (length xs) (flat_map bytes_of xs)
items_fill g bytes_of fits each [] all = none_fill g
items_fill g bytes_of fits each (x ∷ xs) all =
    subst (λ l. Fills g (suc (length xs)) l) (sym (flat_map-cons bytes_of x xs)) (next_fills g (length xs) (bytes_of x) (flat_map bytes_of xs) (each x all.0) (items_fill g bytes_of fits each xs all.1))

counted : (n : ℕ) → IsU32 n → count_in (u32_bytes n) ≡ n
counted n fits = from_be_bytes-to_be_bytes_4 n fits

pub list_is_one : {A : Type 0} (f g : Form) (bytes_of : A → List ℕ) (fits : A → Type 0) (most : ℕ) → 4 ≡ size f → ((front : List ℕ) → follow f front ≡ due g (count_in front)) →
    ((x : A) → fits x → IsOne g (bytes_of x)) → (xs : List A) → IsList fits most xs → IsOne f (list_bytes bytes_of xs)
list_is_one f g bytes_of fits most four lists each xs (fits_count, few, all) =
    front_then f g (length xs) (u32_bytes (length xs)) (flat_map bytes_of xs) four (lists (u32_bytes (length xs)) ∙ ap (λ n. due g n) (counted (length xs) fits_count))
    (items_fill g bytes_of fits each xs all)
