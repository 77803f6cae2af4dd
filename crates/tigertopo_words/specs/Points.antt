-- How a point is spelt as a word.
use Rattle.std.specs.Prelude.{◌≡◌, ◌≤◌, ◌+◌, ◌-◌, ◌*◌, ◌^◌, ◌++◌, ◌⊎◌, ℕ, ℤ, pos, negsuc, suc, List, length, codes, decimal, unsigned_abs}
use Rattle.std.specs.Fmt.{signed_decimal}
use Rattle.std.specs.Str.Parse.{AllDigits, digits_value}
use Rattle.tl_geom.specs.declared.point.Point.{Point}
use Rattle.tl_record.specs.Limits.{greatest_longitude, greatest_latitude}

-- a coordinate is spelt in millionths of a degree: with no plus and no leading zero
abbrev pub AreMillionths : List ℕ → ℤ → Type 0
AreMillionths text z = text ≡ signed_decimal z

-- decimals of a degree, from one to six, are so many millionths
pub record AreDecimals (decimals : List ℕ) (millionths : ℕ) : Type 0 where
  pub digits : AllDigits 10 decimals
  pub some : 1 ≤ length decimals
  pub most : length decimals ≤ 6
  pub worth : millionths ≡ digits_value 10 decimals * 10 ^ (6 - length decimals)

-- degrees with no sign are so many millionths: whole ones with no leading zero, a point and decimals
pub record AreDegreesOf (text : List ℕ) (millionths : ℕ) : Type 0 where
  pub whole : ℕ
  pub decimals : List ℕ
  pub part : ℕ
  pub is : text ≡ decimal whole ++ codes "." ++ decimals
  pub behind : AreDecimals decimals part
  pub sum : millionths ≡ whole * 1000000 + part

-- a coordinate is spelt in degrees: with a minus in front where it's below 0
abbrev pub AreDegrees : List ℕ → ℤ → Type 0
AreDegrees text (pos n) = AreDegreesOf text n
AreDegrees text (negsuc n) = (rest : List ℕ) × (text ≡ codes "-" ++ rest) × AreDegreesOf rest (suc n)

-- the word is `@`, a longitude, a comma and a latitude, spelt alike, of a point that lies within the limits
pub record SpellsBy (coordinate : List ℕ → ℤ → Type 0) (word : List ℕ) (p : Point) : Type 0 where
  pub east : List ℕ
  pub north : List ℕ
  pub is : word ≡ codes "@" ++ east ++ codes "," ++ north
  pub x : coordinate east p.x
  pub y : coordinate north p.y
  pub longitude : unsigned_abs p.x ≤ greatest_longitude
  pub latitude : unsigned_abs p.y ≤ greatest_latitude

-- the word spells the point, both of its numbers in one unit
abbrev pub Spells : List ℕ → Point → Type 0
Spells word p = SpellsBy AreMillionths word p ⊎ SpellsBy AreDegrees word p
