-- The words of a line, each of which stands behind a space.
use Rattle.std.specs.Prelude.{◌≡◌, ◌≢◌, ℕ, ◌<◌, ◌≤◌, List, [], ◌∷◌, ◌++◌, length, slice_index, true, take, All, ⊤}
use mathlib.Core.HLevel.{×_prop}
use native.Mathlib.Bridge.{le_prop}
use Rattle.std.specs.List.{list_all}
use Rattle.std.specs.Char.{is_ascii_digit}
use Rattle.tl_record.specs.Lines.{line_feed}
use Rattle.tl_record.specs.Fields.{decimal}
use Rattle.tl_cert.specs.declared.certificate.Counts.{Counts}
use Rattle.tl_cert.specs.Text.{number}

-- the bytes are at their end, or go on with a space
abbrev pub StartsWord : List ℕ → Type 0
StartsWord [] = ⊤
StartsWord (byte ∷ bytes) = byte ≡ 32

-- the bytes are a space, a word, and others
pub record IsSplit (bytes word others : List ℕ) : Type 0 where
  pub joined : bytes ≡ 32 ∷ (word ++ others)
  pub inside : All (λ byte. byte ≢ 32) word
  pub behind : StartsWord others

-- the line stands whole at the front of the bytes, with its line feed behind it
pub record StandsFirst (bytes line : List ℕ) (len : ℕ) : Type 0 where
  pub within : len < length bytes
  pub feed : slice_index bytes len ≡ line_feed
  pub spelt : take len bytes ≡ line

-- so many bytes at the front are digits of this value
pub record AreDigits (bytes : List ℕ) (len n : ℕ) : Type 0 where
  pub within : len ≤ length bytes
  pub digits : list_all is_ascii_digit (take len bytes) ≡ true
  pub worth : decimal (take len bytes) ≡ n

-- as many bytes as a number has digits, with no leading zero
pub record MaySpell (bytes : List ℕ) : Type 0 where
  pub some : 0 < length bytes
  pub few : length bytes ≤ 10
  pub lead : slice_index bytes 0 ≡ 48 → length bytes ≡ 1

-- as many digits as are read at once
abbrev pub AreFew : ℕ → Type 0
AreFew digits = (1 ≤ digits) × (digits ≤ 7)

pub AreFew-prop : (digits : ℕ) → IsProp (AreFew digits)
AreFew-prop digits = ×_prop le_prop le_prop

-- the words of counts, without the letter before them
abbrev pub counts_words : Counts → List ℕ
counts_words c = number c.chains ++ number c.segments ++ number c.nodes ++ number c.polygons
