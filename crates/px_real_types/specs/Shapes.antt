-- Types of real C as the profile sees them.
use Rattle.std.specs.Prelude.{ℕ, zero, ◌+◌, Option, Some, None, nat_lt, if◌then◌else◌}
use Rattle.px_real_types.specs.declared.shape.Base.{Base}
use Rattle.px_real_types.specs.declared.shape.Base.TheVariants as B
use Rattle.px_real_types.specs.declared.shape.Shape.{Shape}
use Rattle.px_real_types.specs.declared.shape.Shape.TheVariants as S
use Rattle.px_real_types.specs.declared.shape.ProfileType.{ProfileType}

-- a pointer to a value of a profile type, or to a struct, has one star more: two at most
abbrev pub pointer_to : Shape → Shape
pointer_to (S.Value base stars) = if nat_lt stars 2 then S.Value base (stars + 1) else S.Outside
pointer_to _ = S.Outside

-- an array
abbrev pub array_of : Shape → Shape
array_of (S.Value base stars) = S.Array base stars
array_of _ = S.Outside

-- a parameter that is declared as an array is a pointer (6.7.6.3, 7)
abbrev pub as_parameter : Shape → Shape
as_parameter (S.Array base stars) = pointer_to (S.Value base stars)
as_parameter s = s

abbrev pub of_profile : Base → ℕ → Option ProfileType
of_profile (B.Struct n) zero = None
of_profile base stars = Some (record { base = base; stars = stars })

-- `int`, and stars before it or before a struct
abbrev pub in_profile : Shape → Option ProfileType
in_profile (S.Value base stars) = of_profile base stars
in_profile _ = None
