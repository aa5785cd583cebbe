-- Numbers in bytes, high byte first.
use Rattle.std.specs.Prelude.{ℕ, ◌<◌, ◌^◌, ℤ, FitsSigned, List, [], ◌∷◌, length, take, drop, Some, None, nat_lt, if◌then◌else◌}
use Rattle.std.specs.Int.{Width, w32, w64, byte_len, from_be_bytes, to_be_bytes}
use Rattle.px_terms.specs.Words.{word, signed}
use Rattle.px_spelling.specs.Reading.{Reader, ◌<*>◌, done}

-- a byte
abbrev pub u8_bytes : ℕ → List ℕ
u8_bytes n = n ∷ []

abbrev pub IsU8 : ℕ → Type 0
IsU8 n = n < 256

unfoldable pub u8_at : Reader ℕ
u8_at [] = None
u8_at (b ∷ rest) = Some (b, rest)

abbrev pub number_at : Width → Reader ℕ
number_at w bytes = if nat_lt (length bytes) (byte_len w) then None else Some (from_be_bytes w (take (byte_len w) bytes), drop (byte_len w) bytes)

-- four bytes
abbrev pub u32_bytes : ℕ → List ℕ
u32_bytes n = to_be_bytes w32 n

abbrev pub IsU32 : ℕ → Type 0
IsU32 n = n < 2 ^ 32

unfoldable pub u32_at : Reader ℕ
u32_at bytes = number_at w32 bytes

-- eight bytes
abbrev pub u64_bytes : ℕ → List ℕ
u64_bytes n = to_be_bytes w64 n

abbrev pub IsU64 : ℕ → Type 0
IsU64 n = n < 2 ^ 64

unfoldable pub u64_at : Reader ℕ
u64_at bytes = number_at w64 bytes

-- four bytes, in two's complement
abbrev pub i32_bytes : ℤ → List ℕ
i32_bytes z = u32_bytes (word z)

abbrev pub IsI32 : ℤ → Type 0
IsI32 z = FitsSigned w32 z

unfoldable pub i32_at : Reader ℤ
i32_at = done signed <*> u32_at
