-- What the code knows of a number's bytes before it reads them.
use Rattle.std.specs.Prelude.{◌≡◌, ◌≢◌, ℕ, ◌<◌, List, length, slice_index}

-- some bytes, with no sign and no leading zero before others
pub record MaySpell (bytes : List ℕ) : Type 0 where
  pub some : 0 < length bytes
  pub sign : slice_index bytes 0 ≢ 43
  pub lead : slice_index bytes 0 ≡ 48 → length bytes ≡ 1
