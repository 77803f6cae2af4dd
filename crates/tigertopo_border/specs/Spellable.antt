-- What can be spelt in the columns of records, so that it is read again.
use Rattle.std.specs.Prelude.{◌≡◌, ◌<◌, ◌≤◌, ◌^◌, ⊤, ℕ, true, List, [], ◌∷◌, length, Option, Some, None, unsigned_abs}
use Rattle.std.specs.List.{list_all}
use Rattle.tl_geom.specs.declared.point.Point.{Point}
use Rattle.tl_record_key.specs.declared.key.PolyKey.{PolyKey}
use Rattle.tl_record.specs.declared.record.Record.{Record}
use Rattle.tl_record.specs.declared.record.Record.TheVariants.{Chain, Shape, Sides, PolyPoint, Landmark, AreaLink}
use Rattle.tl_record.specs.Limits.{greatest_longitude, greatest_latitude}
use Rattle.tl_record.specs.Fields.{is_cenid_byte}
use Rattle.tl_record.specs.Judgement.{unless_zero}

-- a point of the earth
pub record IsPlaced (p : Point) : Type 0 where
  pub x : unsigned_abs p.x ≤ greatest_longitude
  pub y : unsigned_abs p.y ≤ greatest_latitude

-- a shape pair is unused, or a point of the earth that doesn't read as an unused one
abbrev pub IsPair : Option Point → Type 0
IsPair None = ⊤
IsPair (Some p) = IsPlaced p × (unless_zero (Some p) ≡ Some p)

abbrev pub ArePairs : List (Option Point) → Type 0
ArePairs [] = ⊤
ArePairs (pair ∷ pairs) = IsPair pair × ArePairs pairs

-- the bytes of a CENID
pub record IsName (cenid : List ℕ) : Type 0 where
  pub five : length cenid ≡ 5
  pub printed : list_all is_cenid_byte cenid ≡ true

-- a polygon's key
pub record IsKey (key : PolyKey) : Type 0 where
  pub name : IsName key.cenid
  pub number : key.polyid < 10 ^ 10

abbrev pub IsSideKey : Option PolyKey → Type 0
IsSideKey None = ⊤
IsSideKey (Some key) = IsKey key

-- a record of the types that a border has, with no zero-cell ids
abbrev pub IsSpellable : Record → Type 0
IsSpellable (Chain tlid from to) = (tlid < 10 ^ 10) × IsPlaced from × IsPlaced to
IsSpellable (Shape tlid rtsq pairs) = (tlid < 10 ^ 10) × (rtsq < 1000) × (length pairs ≡ 10) × ArePairs pairs
IsSpellable (Sides tlid start end left right) = (tlid < 10 ^ 10) × (start ≡ None) × (end ≡ None) × IsSideKey left × IsSideKey right
IsSpellable (PolyPoint key point) = IsKey key × IsPlaced point
IsSpellable (Landmark land point) = ⊥
IsSpellable (AreaLink key land) = ⊥
