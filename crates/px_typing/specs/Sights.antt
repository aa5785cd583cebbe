-- What is numbered in the order of first sight.
use Rattle.std.specs.Prelude.{ℕ, Bool, List, [], ◌∷◌, ◌++◌, position, unwrap_or}
use Rattle.indexmap.specs.IndexSet.{insert_key, insert_all}

-- those seen, and one more where it isn't among them
abbrev pub sighted : {A : Type 0} → (A → A → Bool) → List A → A → List A
sighted same seen x = insert_key same seen x

-- each once, in the order of first sight
abbrev pub first_sights : {A : Type 0} → (A → A → Bool) → List A → List A
first_sights same xs = insert_all same [] xs

-- the number of an item among those seen, and 0 where it isn't among them
abbrev pub number_in : {A : Type 0} → (A → A → Bool) → List A → A → ℕ
number_in same xs x = unwrap_or (position (same x) xs) 0
