-- What is known of C's types, and the types of the profile among them.
use Rattle.std.specs.Prelude.{ℕ, ◌+◌, ◌-◌, Bool, true, false, ◌&&◌, ◌||◌, Option, Some, None, nat_eq, nat_lt, if◌then◌else◌}
use Rattle.px_real_types.specs.declared.shape.Base.{Base}
use Rattle.px_real_types.specs.declared.shape.Base.TheVariants as B
use Rattle.px_real_types.specs.declared.shape.Shape.TheVariants as S
use Rattle.px_real_types.specs.declared.shape.ProfileType.{ProfileType}
use Rattle.px_real_types.specs.declared.known.Known.{Known}
use Rattle.px_real_types.specs.declared.known.Known.TheVariants as K
use Rattle.px_real_types.specs.declared.known.Member.{Member}
use Rattle.px_real_types.specs.declared.known.Member.TheVariants as M

-- ---- types of the profile, and of what its pointers point to

abbrev pub int : ProfileType
int = record { base = B.Int; stars = 0 }

abbrev pub struct : ℕ → ProfileType
struct n = record { base = B.Struct n; stars = 0 }

abbrev pub pointer_to : ProfileType → ProfileType
pointer_to t = record { base = t.base; stars = t.stars + 1 }

abbrev pub is_pointer : ProfileType → Bool
is_pointer t = nat_lt 0 t.stars

-- what a pointer points to
abbrev pub pointee : ProfileType → Option ProfileType
pointee t = if is_pointer t then Some (record { base = t.base; stars = t.stars - 1 }) else None

abbrev pub is_int_base : Base → Bool
is_int_base B.Int = true
is_int_base (B.Struct n) = false

abbrev pub is_int : ProfileType → Bool
is_int t = is_int_base t.base && nat_eq t.stars 0

-- an int or a pointer, and no struct
abbrev pub is_value : ProfileType → Bool
is_value t = is_int_base t.base || is_pointer t

abbrev pub same_base : Base → Base → Bool
same_base B.Int B.Int = true
same_base (B.Struct m) (B.Struct n) = nat_eq m n
same_base B.Int (B.Struct n) = false
same_base (B.Struct m) B.Int = false

abbrev pub same_type : ProfileType → ProfileType → Bool
same_type t u = same_base t.base u.base && nat_eq t.stars u.stars

-- the number of a struct
abbrev pub struct_number : Base → Option ℕ
struct_number B.Int = None
struct_number (B.Struct n) = Some n

abbrev pub number_of : ProfileType → Option ℕ
number_of t = if nat_eq t.stars 0 then struct_number t.base else None

-- ---- what is known of a type

-- nothing
abbrev pub unknown : Known
unknown = K.Seen (S.Outside)

abbrev pub known : ProfileType → Known
known t = K.Seen (S.Value t.base t.stars)

-- an int, a pointer or a struct that is seen
abbrev pub block_in : Known → Option ProfileType
block_in (K.Seen (S.Value base stars)) = Some (record { base = base; stars = stars })
block_in _ = None

abbrev pub is_array : Known → Bool
is_array (K.Seen (S.Array base stars)) = true
is_array K.Array = true
is_array _ = false

-- the number of a struct or union
abbrev pub record_in : Known → Option ℕ
record_in (K.Record n) = Some n
record_in (K.Seen (S.Value base stars)) = number_of (record { base = base; stars = stars })
record_in _ = None

abbrev pub known_if : Option ProfileType → Known
known_if (Some t) = known t
known_if None = unknown

-- what a pointer points to, and the elements of an array
abbrev pub element : Known → Known
element (K.Seen (S.Value base stars)) = known_if (pointee (record { base = base; stars = stars }))
element (K.Seen (S.Array base stars)) = K.Seen (S.Value base stars)
element _ = unknown

-- the type of a member
abbrev pub member_type : Option Member → Known
member_type (Some (M.Cell number kind)) = known kind
member_type (Some (M.Other k)) = k
member_type None = unknown
