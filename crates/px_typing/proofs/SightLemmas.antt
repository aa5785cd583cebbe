-- Sets of keys, seen as lists of what the keys stand for.
use Rattle.std.proofs.Common.{◌≡◌, ◌∙◌, ℕ, Option, None, Some, Bool, true, false, ◌||◌, List, [], ◌∷◌, ◌++◌, map, refl, sym, ap, ap₂, if◌then◌else◌}
use Rattle.std.specs.List.{list_any}
use Rattle.std.proofs.lemmas.List.{map_push}
use Rattle.std.specs.Borrow.{Bor}
use Rattle.indexmap.specs.IndexSet.{insert_key}
use Rattle.px_bodies.specs.declared.types.CType.{CType}
use Rattle.px_bodies.specs.contracts.types.CTypePartialEq
use Rattle.px_bodies.specs.Types.{same_type}
use Rattle.px_bodies.specs.Lent.{type_of}

module _ {A B : Type 0} (f : A → B) (same : A → A → Bool) (alike : B → B → Bool) (fits : (x y : A) → same x y ≡ alike (f x) (f y)) where
  pub any_seen : (x : A) (xs : List A) → list_any (same x) xs ≡ list_any (alike (f x)) (map f xs)
  any_seen x [] = refl
  any_seen x (y ∷ ys) = ap₂ (λ a b. a || b) (fits x y) (any_seen x ys)

  pub seen_insert_key : (xs : List A) (x : A) → map f (insert_key same xs x) ≡ insert_key alike (map f xs) (f x)
  seen_insert_key xs x = by (list_any (same x) xs) refl ∙ ap (λ b. if b then map f xs else map f xs ++ f x ∷ []) (any_seen x xs)
    where
      by : (b : Bool) → list_any (same x) xs ≡ b → map f (if b then xs else xs ++ x ∷ []) ≡ (if b then map f xs else map f xs ++ f x ∷ [])
      by true e = refl
      by false e = map_push f xs x

-- keys of types are equal where the types are one
same_parts : (a b : Option (Bor (List ℕ))) (m n : ℕ) →
    CTypePartialEq.TheImpl.eq-value.it (record { tag = a; stars = m }) (record { tag = b; stars = n })
    ≡ same_type (type_of (record { tag = a; stars = m })) (type_of (record { tag = b; stars = n }))
same_parts None None m n = refl
same_parts None (Some b) m n = refl
same_parts (Some a) None m n = refl
same_parts (Some a) (Some b) m n = refl

pub same_key : (x y : CType) → CTypePartialEq.TheImpl.eq-value.it x y ≡ same_type (type_of x) (type_of y)
same_key x y = same_parts x.tag y.tag x.stars y.stars
