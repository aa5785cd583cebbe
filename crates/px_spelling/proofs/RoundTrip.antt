-- Round trips: what was written is read as it was, whatever follows it.
use Rattle.std.proofs.Common.{◌≡◌, ℕ, suc, ◌<◌, List, [], ◌∷◌, ◌++◌, length, false, ltb, Some, None, refl, sym, subst, append_assoc, arith}
use Rattle.std.specs.Prelude.{nat_lt, if◌then◌else◌, IfSome}
use Rattle.std.specs.List.{flat_map, AllByRecursion}
use Rattle.std.specs.Int.{Width, w32, w64, byte_len, to_be_bytes, from_be_bytes}
use Rattle.std.proofs.lemmas.Bool.{le-ltb}
use Rattle.std.proofs.lemmas.List.{take_at, drop_at, length-append}
use Rattle.std.proofs.lemmas.List.Concat.{flat_map-cons}
use Rattle.std.proofs.lemmas.Nat.{from_be_bytes-to_be_bytes_4, from_be_bytes-to_be_bytes_8}
use Rattle.px_terms.specs.Words.{word, signed}
use Rattle.px_terms.proofs.WordLaws.{words_are_signed}
use Rattle.px_spelling.specs.Reading.{Reader, ◌>>=◌, ◌<*>◌, done, nothing}
use Rattle.px_spelling.specs.Numbers.{number_at, u8_bytes, IsU8, u8_at, u32_bytes, IsU32, u32_at, u64_bytes, IsU64, u64_at, i32_bytes, IsI32, i32_at}
use Rattle.px_spelling.specs.Lists.{list_bytes, IsList, with_first, with_value, items_at, list_at, option_bytes, option_at, option_with, pair_bytes, pair_of, pair_at}

-- these bytes are read as this value, whatever follows them
pub record ReadsAs {A : Type 0} (at : Reader A) (bytes : List ℕ) (x : A) : Type 0 where
  pub reads : (rest : List ℕ) → at (bytes ++ rest) ≡ Some (x, rest)

-- each value in range has its round trip
abbrev pub RoundTrip : {A : Type 0} → (A → List ℕ) → (A → Type 0) → Reader A → Type 0
RoundTrip {A} bytes_of fits at = (x : A) → fits x → ReadsAs at (bytes_of x) x

-- ---- one after another

pub done_reads : {A : Type 0} (x : A) → ReadsAs (done x) [] x
done_reads x = record { reads = λ rest. refl }

pub then_reads : {A B : Type 0} (at : Reader A) (next : A → Reader B) (a b : List ℕ) (x : A) (y : B) → ReadsAs at a x → ReadsAs (next x) b y → ReadsAs (at >>= next) (a ++ b) y
then_reads at next a b x y first second = record { reads = λ rest. rw (append_assoc a b rest, first.reads (b ++ rest), second.reads rest) refl }

infixl 11 ◌⊛◌
pub ◌⊛◌ : {A B : Type 0} {first : Reader (A → B)} {next : Reader A} {a b : List ℕ} {f : A → B} {x : A} → ReadsAs first a f → ReadsAs next b x → ReadsAs (first <*> next) (a ++ b) (f x)
◌⊛◌ {a = a} {b = b} p q = record { reads = λ rest. rw (append_assoc a b rest, p.reads (b ++ rest), q.reads rest) refl }

-- a byte says which variant it is
pub tagged : {B : Type 0} {b : List ℕ} {y : B} (tag : ℕ) (next : ℕ → Reader B) → ReadsAs (next tag) b y → ReadsAs (u8_at >>= next) (tag ∷ b) y
unfolding u8_at
tagged tag next p = record { reads = λ rest. p.reads rest }

-- ---- numbers

pub u8_round_trip : RoundTrip u8_bytes IsU8 u8_at
unfolding u8_at
u8_round_trip n fits = record { reads = λ rest. refl }

number_round_trip : (w : Width) (n : ℕ) (rest : List ℕ) → length (to_be_bytes w n) ≡ byte_len w → from_be_bytes w (to_be_bytes w n) ≡ n → number_at w (to_be_bytes w n ++ rest) ≡ Some (n, rest)
number_round_trip w n rest len same =
    let long : ltb (length (to_be_bytes w n ++ rest)) (byte_len w) ≡ false = le-ltb _ _ (omega (arith, length-append (to_be_bytes w n) rest)) in
    rw (long, take_at (to_be_bytes w n) rest (byte_len w) len, drop_at (to_be_bytes w n) rest (byte_len w) len, same) refl

pub u32_round_trip : RoundTrip u32_bytes IsU32 u32_at
unfolding u32_at
u32_round_trip n fits = record { reads = λ rest. number_round_trip w32 n rest refl (from_be_bytes-to_be_bytes_4 n fits) }

pub u64_round_trip : RoundTrip u64_bytes IsU64 u64_at
unfolding u64_at
u64_round_trip n fits = record { reads = λ rest. number_round_trip w64 n rest refl (from_be_bytes-to_be_bytes_8 n fits) }

pub i32_round_trip : RoundTrip i32_bytes IsI32 i32_at
unfolding i32_at
i32_round_trip z fits = subst (ReadsAs i32_at (i32_bytes z)) (words_are_signed.signed_word z fits) (done_reads signed ⊛ u32_round_trip (word z) (words_are_signed.word_fits z fits))

-- ---- lists

items_round_trip : {A : Type 0} (bytes_of : A → List ℕ) (fits : A → Type 0) (at : Reader A) → RoundTrip bytes_of fits at → (xs : List A) → AllByRecursion fits xs →
    ReadsAs (items_at at (length xs)) (flat_map bytes_of xs) xs
unfolding items_at
items_round_trip bytes_of fits at again [] all = record { reads = λ rest. refl }
items_round_trip bytes_of fits at again (x ∷ xs) all =
    subst (λ bytes. ReadsAs (items_at at (suc (length xs))) bytes (x ∷ xs)) (sym (flat_map-cons bytes_of x xs))
    (done_reads with_first ⊛ again x all.0 ⊛ items_round_trip bytes_of fits at again xs all.1)

pub list_round_trip : {A : Type 0} (bytes_of : A → List ℕ) (fits : A → Type 0) (at : Reader A) (most : ℕ) → RoundTrip bytes_of fits at → RoundTrip (list_bytes bytes_of) (IsList fits most) (list_at at most)
unfolding list_at
list_round_trip bytes_of fits at most again xs (fits_count, few, all) =
    let short : ltb most (length xs) ≡ false = le-ltb _ _ few in
    then_reads u32_at (λ n. if nat_lt most n then nothing else items_at at n) (u32_bytes (length xs)) (flat_map bytes_of xs) (length xs) xs
    (u32_round_trip (length xs) fits_count) (rw short (items_round_trip bytes_of fits at again xs all))

pub option_round_trip : {A : Type 0} (bytes_of : A → List ℕ) (fits : A → Type 0) (at : Reader A) → RoundTrip bytes_of fits at → RoundTrip (option_bytes bytes_of) (λ o. IfSome o fits) (option_at at)
unfolding option_at option_with
option_round_trip bytes_of fits at again None all = tagged 0 (option_with at) (done_reads None)
option_round_trip bytes_of fits at again (Some x) all = tagged 1 (option_with at) (done_reads with_value ⊛ again x all)

pub pair_round_trip : {A B : Type 0} (a_bytes : A → List ℕ) (is_a : A → Type 0) (a_at : Reader A) (b_bytes : B → List ℕ) (is_b : B → Type 0) (b_at : Reader B) →
    RoundTrip a_bytes is_a a_at → RoundTrip b_bytes is_b b_at → RoundTrip (pair_bytes a_bytes b_bytes) (λ p. is_a p.0 × is_b p.1) (pair_at a_at b_at)
unfolding pair_at
pair_round_trip a_bytes is_a a_at b_bytes is_b b_at a_round_trip b_round_trip p fits = done_reads pair_of ⊛ a_round_trip p.0 fits.0 ⊛ b_round_trip p.1 fits.1
