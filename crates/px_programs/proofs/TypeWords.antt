-- What types are, and what their blocks and values are.
use Rattle.std.proofs.Common.{◌≡◌, ◌∙◌, ℕ, zero, suc, ◌+◌, ◌-◌, ◌<◌, Bool, true, false, ◌&&◌, ◌||◌, List, [], ◌∷◌, map, slice_get, length, nat_eq, nat_lt, bytes_eq, option_map, is_some, if◌then◌else◌, Option, Some, None, refl, sym, ap, ap₂, subst, true≢false, arith}
use Rattle.std.specs.List.{AllByRecursion}
use Rattle.std.proofs.lemmas.Slice.Eq.{bytes_eq-Decides}
use Rattle.std.proofs.lemmas.Bool.{eqb-true, lt-ltb, and_parts}
use Rattle.std.proofs.lemmas.Option.{slice_get_within, slice_get-map}
use Rattle.px_terms.specs.declared.types.ValueType.{ValueType}
use Rattle.px_terms.specs.declared.types.ValueType.TheVariants as V
use Rattle.px_terms.specs.declared.types.BlockType.{BlockType}
use Rattle.px_terms.specs.declared.types.BlockType.TheVariants.{One, Fields}
use Rattle.px_syntax.specs.declared.type_name.Base.{Base}
use Rattle.px_syntax.specs.declared.type_name.Base.TheVariants.{Int, Struct}
use Rattle.px_syntax.specs.declared.type_name.TypeName.{TypeName}
use Rattle.px_bodies.specs.Types.{when, given, provided, int, pointer_to, is_pointer, pointee, is_int, is_int_base, is_value, tag_of_base, same_base, same_type}
use Rattle.px_bodies.specs.Environment.{Environment, type_id, value_type, pointing_type, field_from}
use Rattle.px_bodies.specs.Typed.{declared_fields, field_named, is_block}
use Rattle.px_typing.specs.Programs.{behind, block_type, struct_block}
use Rattle.px_terms.specs.Types.{types_of}
use Rattle.px_meaning.specs.TreeTypes.{type_of_cell, IsDefined}
use Rattle.px_programs.specs.Numbers.{IsValueListed}
use Rattle.px_programs.proofs.Options.{Holds, of_some, on_when_is, on_cond, on_change, on_given_is}
use Rattle.px_programs.proofs.Lists.{all_first, all_second, all_get}

-- ---- types

same_base_is : (a b : Base) → same_base a b ≡ true → a ≡ b
same_base_is Int Int h = refl
same_base_is Int (Struct b) h = absurd (true≢false (sym h))
same_base_is (Struct a) Int h = absurd (true≢false (sym h))
same_base_is (Struct a) (Struct b) h = ap Struct ((bytes_eq-Decides a b).0 h)

pub same_type_is : (t u : TypeName) → same_type t u ≡ true → t ≡ u
same_type_is t u h =
    let k = and_parts (same_base t.base u.base) (nat_eq t.stars u.stars) h in
    ap₂ (λ b n. record { base = b; stars = n }) (same_base_is t.base u.base k.0) (eqb-true t.stars u.stars k.1)

int_of : (base : Base) (n : ℕ) → (is_int_base base && nat_eq n 0) ≡ true → record { base = base; stars = n } ≡ int
int_of Int n h = ap (λ m. record { base = Int; stars = m }) (eqb-true n 0 h)
int_of (Struct tag) n h = absurd (true≢false (sym h))

pub is_int_is : (t : TypeName) → is_int t ≡ true → t ≡ int
is_int_is t h = int_of t.base t.stars h

-- ---- values

module _ (env : Environment) where
  pub int_value : (t : TypeName) → is_int t ≡ true → value_type env t ≡ V.Int
  int_value t h = ap (value_type env) (is_int_is t h)

  pub plain_value : (t : TypeName) → is_pointer t ≡ false → value_type env t ≡ V.Int
  plain_value t h = ap (λ b. pointing_type env (when b (record { base = t.base; stars = t.stars - 1 }))) h

  pub pointer_value : (t : TypeName) → is_pointer t ≡ true → value_type env t ≡ V.Pointer (type_id env (record { base = t.base; stars = t.stars - 1 }))
  pointer_value t h = ap (λ b. pointing_type env (when b (record { base = t.base; stars = t.stars - 1 }))) h

  one_less : (n : ℕ) → n + 1 - 1 ≡ n
  one_less n = omega arith

  some_stars : (n : ℕ) → 0 < n + 1
  some_stars n = omega arith

  pub pointing_value : (t : TypeName) → value_type env (pointer_to t) ≡ V.Pointer (type_id env t)
  pointing_value t = pointer_value (pointer_to t) (lt-ltb 0 (t.stars + 1) (some_stars t.stars)) ∙ ap (λ n. V.Pointer (type_id env (record { base = t.base; stars = n }))) (one_less t.stars)

  -- ---- blocks

  pub value_block : (t : TypeName) → is_value t ≡ true → block_type env t ≡ One (value_type env t)
  value_block t h = ap (λ b. if b then One (value_type env t) else struct_block env (declared_fields env t)) h

  struct_alone : (base : Base) (n : ℕ) (fs : List (List ℕ × TypeName)) → given (provided (nat_eq n 0) (tag_of_base base)) env.fields ≡ Some fs → (is_int_base base || nat_lt 0 n) ≡ false
  struct_alone base n fs h = by base (nat_eq n 0) refl h
    where
      by : (base : Base) (b : Bool) → nat_eq n 0 ≡ b → given (provided b (tag_of_base base)) env.fields ≡ Some fs → (is_int_base base || nat_lt 0 n) ≡ false
      by Int true e k = absurd cc
      by Int false e k = absurd cc
      by (Struct tag) true e k = ap (nat_lt 0) (eqb-true n 0 e)
      by (Struct tag) false e k = absurd cc

  pub struct_type : (t : TypeName) (fs : List (List ℕ × TypeName)) → declared_fields env t ≡ Some fs → block_type env t ≡ Fields (map (λ f. value_type env f.1) fs)
  struct_type t fs h =
      ap₂ (λ b o. if b then One (value_type env t) else struct_block env o) (struct_alone t.base t.stars fs h) h

  defined_by_parts : (b : Bool) (v : ValueType) (o : Option (List (List ℕ × TypeName))) → (b || is_some o) ≡ true → IsDefined (Some (if b then One v else struct_block env o))
  defined_by_parts true v o h = tt
  defined_by_parts false v (Some fs) h = tt
  defined_by_parts false v None h = absurd (true≢false (sym h))

  pub block_defined : (t : TypeName) → is_block env t ≡ true → IsDefined (Some (block_type env t))
  block_defined t h = defined_by_parts (is_value t) (value_type env t) (declared_fields env t) h

  module _ (types : List BlockType) where
    -- ---- what is listed

    abbrev pub IsListedType : TypeName → Type 0
    IsListedType t = slice_get types (env.type_number t) ≡ Some (block_type env t)

    -- what blocks of a type point to, at any depth
    abbrev pub IsKnown : TypeName → Type 0
    IsKnown t = AllByRecursion IsListedType (behind t.base t.stars)

    pub after_last : (base : Base) (n : ℕ) → AllByRecursion IsListedType (behind base (n + 1)) → IsListedType (record { base = base; stars = n })
    after_last base n h =
        let e : n + 1 ≡ suc n = omega arith in
        (all_second IsListedType (behind base n) _ (subst (λ m. AllByRecursion IsListedType (behind base m)) e h)).0

    pub number_below : (t : TypeName) → IsListedType t → env.type_number t < length types
    number_below t h = slice_get_within types (env.type_number t) _ h

    -- what a pointer points to
    abbrev pub IsPointee : TypeName → TypeName → Type 0
    IsPointee t u = IsListedType u × IsKnown u × (value_type env t ≡ V.Pointer (type_id env u))

    pointee_of : (base : Base) (n : ℕ) → AllByRecursion IsListedType (behind base n) → Holds (IsPointee (record { base = base; stars = n })) (pointee (record { base = base; stars = n }))
    pointee_of base zero h = tt
    pointee_of base (suc n) h =
        let less : n ≡ suc n - 1 = omega arith in
        on_when_is (IsPointee (record { base = base; stars = suc n })) (nat_lt 0 (suc n)) (record { base = base; stars = suc n - 1 }) (λ e. (
          subst (λ m. IsListedType (record { base = base; stars = m })) less (all_second IsListedType (behind base n) _ h).0,
          subst (λ m. AllByRecursion IsListedType (behind base m)) less (all_first IsListedType (behind base n) _ h),
          pointer_value (record { base = base; stars = suc n }) e,
        ))

    pub pointee_known : (t : TypeName) → IsKnown t → Holds (IsPointee t) (pointee t)
    pointee_known t h = pointee_of t.base t.stars h

    pub value_listed : (t : TypeName) → IsKnown t → IsValueListed (length types) (value_type env t)
    value_listed t h = by (pointee t) (pointee_known t h)
      where
        by : (o : Option TypeName) → Holds (IsPointee t) o → IsValueListed (length types) (pointing_type env o)
        by None k = tt
        by (Some u) k = number_below u k.0

    -- ---- cells

    pub value_cell : (t : TypeName) → is_value t ≡ true → IsListedType t → type_of_cell types (type_id env t) (record { 0 = 0 }) ≡ Some (value_type env t)
    value_cell t v h = ap (λ o. slice_get (types_of o) 0) (h ∙ ap Some (value_block t v))

    -- the field at this place is of this type
    abbrev IsFieldAt : ℕ → List (List ℕ × TypeName) → ℕ × TypeName → Type 0
    IsFieldAt k fs f = (i : ℕ) × (name : List ℕ) × (f.0 ≡ k + i) × (slice_get fs i ≡ Some (name, f.1))

    field_at : (k : ℕ) (name : List ℕ) (fs : List (List ℕ × TypeName)) → Holds (IsFieldAt k fs) (field_from k name fs)
    field_at k name [] = tt
    field_at k name (f ∷ rest) =
        let same : k ≡ k + 0 = omega arith in
        on_cond (IsFieldAt k (f ∷ rest)) (bytes_eq f.0 name) (Some (k, f.1)) (field_from (k + 1) name rest) (0, f.0, same, refl)
        (on_change (IsFieldAt (k + 1) rest) (IsFieldAt k (f ∷ rest)) (field_from (k + 1) name rest) (field_at (k + 1) name rest) (λ g h. further g h))
      where
        further : (g : ℕ × TypeName) → IsFieldAt (k + 1) rest g → IsFieldAt k (f ∷ rest) g
        further g h = let e : (k + 1) + h.0 ≡ k + suc h.0 = omega arith in (suc h.0, h.1, h.2 ∙ e, h.3)

    field_here : (t : TypeName) (fs : List (List ℕ × TypeName)) (f : ℕ × TypeName) → IsListedType t → declared_fields env t ≡ Some fs → IsFieldAt 0 fs f
        → type_of_cell types (type_id env t) (record { 0 = f.0 }) ≡ Some (value_type env f.1)
    field_here t fs f h is k =
        let e : 0 + k.0 ≡ k.0 = omega arith in
        ap (λ o. slice_get (types_of o) f.0) (h ∙ ap Some (struct_type t fs is))
        ∙ ap (slice_get (map (λ g. value_type env g.1) fs)) (k.2 ∙ e)
        ∙ slice_get-map (λ g. value_type env g.1) fs k.0
        ∙ ap (option_map (λ g. value_type env g.1)) k.3

    -- a cell of a type's blocks, and its type
    abbrev pub IsCellOf : TypeName → ℕ × TypeName → Type 0
    IsCellOf t f = IsKnown f.1 × (type_of_cell types (type_id env t) (record { 0 = f.0 }) ≡ Some (value_type env f.1))

    -- the fields of each struct that is defined are known
    module _ (fields : (tag : List ℕ) (fs : List (List ℕ × TypeName)) → env.fields tag ≡ Some fs → AllByRecursion (λ f. IsKnown f.1) fs) where
      pub tag_known : (o : Option (List ℕ)) (fs : List (List ℕ × TypeName)) → given o env.fields ≡ Some fs → AllByRecursion (λ f. IsKnown f.1) fs
      tag_known None fs e = absurd cc
      tag_known (Some tag) fs e = fields tag fs e

      known_at : (fs : List (List ℕ × TypeName)) (i : ℕ) (g : List ℕ × TypeName) → slice_get fs i ≡ Some g → AllByRecursion (λ f. IsKnown f.1) fs → IsKnown g.1
      known_at fs i g e h = of_some (λ (f : List ℕ × TypeName). IsKnown f.1) (slice_get fs i) g e (all_get (λ (f : List ℕ × TypeName). IsKnown f.1) fs i h)

      pub named_field : (name : List ℕ) (t : TypeName) → IsListedType t → Holds (IsCellOf t) (field_named env name t)
      named_field name t h =
          on_given_is (IsCellOf t) (declared_fields env t) (field_from 0 name) (λ fs is.
          on_change (IsFieldAt 0 fs) (IsCellOf t) (field_from 0 name fs) (field_at 0 name fs) (λ f k. (known_at fs k.0 (k.1, f.1) k.3 (tag_known _ fs is), field_here t fs f h is k)))
