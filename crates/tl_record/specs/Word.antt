-- Eight bytes in one word, the first of them in its lowest bits.
use Rattle.std.specs.Prelude.{◌≡◌, ℕ, ◌+◌, ◌<◌, List, length, slice_index, bit_and, bit_or}
use Rattle.std.specs.Int.{from_le_bytes, w64}

pub record IsWordOf (bytes : List ℕ) (word : ℕ) : Type 0 where
  pub eight : length bytes ≡ 8
  pub below : (i : ℕ) → slice_index bytes i < 256
  pub is : word ≡ from_le_bytes w64 bytes

-- the top bit of a byte, where it is above 9
abbrev pub above_nine_bit : ℕ → ℕ
above_nine_bit x = bit_and (bit_or (bit_and x 127 + 118) x) 128
