-- The types of C that the profile has: `int`, structs, and pointers to these.
use Rattle.std.specs.Prelude.{ℕ, ◌+◌, ◌-◌, Bool, true, false, ◌&&◌, ◌||◌, List, Option, Some, None, nat_eq, nat_lt, bytes_eq}
use Rattle.px_syntax.specs.declared.type_name.Base.{Base}
use Rattle.px_syntax.specs.declared.type_name.Base.TheVariants.{Int, Struct}
use Rattle.px_syntax.specs.declared.type_name.TypeName.{TypeName}

-- ---- words for what a rule may refuse

-- a value, where the rule holds
abbrev pub when : {A : Type 0} → Bool → A → Option A
when true a = Some a
when false a = None

-- what follows, where the rule holds
abbrev pub provided : {A : Type 0} → Bool → Option A → Option A
provided true o = o
provided false o = None

-- on with what a part gives
abbrev pub given : {A B : Type 0} → Option A → (A → Option B) → Option B
given None on = None
given (Some a) on = on a

-- ---- types

abbrev pub int : TypeName
int = record { base = Int; stars = 0 }

abbrev pub pointer_to : TypeName → TypeName
pointer_to t = record { base = t.base; stars = t.stars + 1 }

abbrev pub is_pointer : TypeName → Bool
is_pointer t = nat_lt 0 t.stars

-- what a pointer points to
abbrev pub pointee : TypeName → Option TypeName
pointee t = when (is_pointer t) (record { base = t.base; stars = t.stars - 1 })

abbrev pub is_int_base : Base → Bool
is_int_base Int = true
is_int_base (Struct tag) = false

abbrev pub tag_of_base : Base → Option (List ℕ)
tag_of_base Int = None
tag_of_base (Struct tag) = Some tag

abbrev pub is_int : TypeName → Bool
is_int t = is_int_base t.base && nat_eq t.stars 0

-- an int or a pointer: what a local, a parameter, a field or a result may be
abbrev pub is_value : TypeName → Bool
is_value t = is_int_base t.base || is_pointer t

-- the tag of a struct
abbrev pub struct_tag : TypeName → Option (List ℕ)
struct_tag t = provided (nat_eq t.stars 0) (tag_of_base t.base)

abbrev pub same_base : Base → Base → Bool
same_base Int Int = true
same_base (Struct a) (Struct b) = bytes_eq a b
same_base Int (Struct b) = false
same_base (Struct a) Int = false

abbrev pub same_type : TypeName → TypeName → Bool
same_type t u = same_base t.base u.base && nat_eq t.stars u.stars
