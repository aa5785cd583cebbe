-- Lists of bits, and sums of them modulo 2.
use Rattle.std.specs.Prelude.{ℕ, suc, ◌*◌, ◌/◌, ◌%◌, List, [], ◌∷◌, Bool, true, false, not, map, length, nat_eq, slice_index, slice_index_or}
use Rattle.std.specs.List.{range_with_len}
use Rattle.std.specs.Int.{bit_at}

-- ---- words of bits

-- bit i of a list of words of 64 bits
abbrev pub bit_in : List ℕ → ℕ → Bool
bit_in ws i = nat_eq (bit_at (slice_index ws (i / 64)) (i % 64)) 1

-- all bits of the words
unfoldable pub bits_of : List ℕ → List Bool
bits_of ws = map (bit_in ws) (range_with_len 0 (64 * length ws))

-- ---- bits

-- bit i; beyond the list none is set
abbrev pub bit_of : List Bool → ℕ → Bool
bit_of bs i = slice_index_or bs i false

-- the sum of two bits modulo 2
abbrev pub plus : Bool → Bool → Bool
plus false b = b
plus true b = not b

abbrev pub times : Bool → Bool → Bool
times false b = false
times true b = b

-- the sum modulo 2 of the values of those whose bit is set
abbrev pub parity : (ℕ → Bool) → List Bool → Bool
parity w [] = false
parity w (b ∷ bs) = plus (times b (w 0)) (parity (λ i. w (suc i)) bs)
