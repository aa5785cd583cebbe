-- Lists: how many items there are, and the items.
use Rattle.std.specs.Prelude.{ℕ, zero, suc, Option, Some, None, ◌==◌, ◌≤◌, ◌<◌, List, [], ◌∷◌, ◌++◌, length, nat_lt, if◌then◌else◌}
use Rattle.std.specs.List.{flat_map, AllByRecursion}
use Rattle.px_spelling.specs.Reading.{Reader, ◌>>=◌, ◌<*>◌, done, nothing}
use Rattle.px_spelling.specs.Numbers.{u8_at, u32_bytes, u32_at, IsU32}

abbrev pub list_bytes : {A : Type 0} → (A → List ℕ) → List A → List ℕ
list_bytes bytes_of xs = u32_bytes (length xs) ++ flat_map bytes_of xs

-- as many items as a count can name
abbrev pub any_number : ℕ
any_number = 4294967295

-- at most so many items, each in range
abbrev pub IsList : {A : Type 0} → (A → Type 0) → ℕ → List A → Type 0
IsList fits most xs = IsU32 (length xs) × (length xs ≤ most) × AllByRecursion fits xs

abbrev pub with_first : {A : Type 0} → A → List A → List A
with_first x xs = x ∷ xs

-- so many items
unfoldable pub items_at : {A : Type 0} → Reader A → ℕ → Reader (List A)
items_at item_at zero = done []
items_at item_at (suc n) = done with_first <*> item_at <*> items_at item_at n

-- a list of at most so many items
unfoldable pub list_at : {A : Type 0} → Reader A → ℕ → Reader (List A)
list_at item_at most = do
  n ← u32_at
  if nat_lt most n then nothing else items_at item_at n

-- 0, or 1 and a value
abbrev pub option_bytes : {A : Type 0} → (A → List ℕ) → Option A → List ℕ
option_bytes bytes_of None = 0 ∷ []
option_bytes bytes_of (Some x) = 1 ∷ bytes_of x

abbrev pub with_value : {A : Type 0} → A → Option A
with_value x = Some x

unfoldable pub option_with : {A : Type 0} → Reader A → ℕ → Reader (Option A)
option_with value_at tag =
    if tag == 0 then done None else (
    if tag == 1 then done with_value <*> value_at else nothing)

unfoldable pub option_at : {A : Type 0} → Reader A → Reader (Option A)
option_at value_at = u8_at >>= option_with value_at

-- one value, and another after it
abbrev pub pair_bytes : {A B : Type 0} → (A → List ℕ) → (B → List ℕ) → A × B → List ℕ
pair_bytes first_bytes second_bytes p = first_bytes p.0 ++ second_bytes p.1

abbrev pub pair_of : {A B : Type 0} → A → B → A × B
pair_of first second = (first, second)

unfoldable pub pair_at : {A B : Type 0} → Reader A → Reader B → Reader (A × B)
pair_at first_at second_at = done pair_of <*> first_at <*> second_at
