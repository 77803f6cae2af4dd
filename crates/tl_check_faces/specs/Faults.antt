-- When a map has faces that disagree, as a fault tells.
use Rattle.std.specs.Prelude.{◌≡◌, ℕ, ℤ, pos, ◌-ℤ◌, ◌≤ℤ◌, Option, None, Some, List, option_map, slice_get}
use Rattle.tl_geom.specs.declared.rational.Rational.{Rational}
use Rattle.tl_geom.specs.declared.segment.Segment.{Segment}
use Rattle.tl_geom.specs.Lowest.{IsLowest, IsLowestOf}
use Rattle.tl_record_key.specs.declared.key.PolyKey.{PolyKey}
use Rattle.tl_map_county.specs.declared.polygons.Polygon.{Polygon}
use Rattle.tl_map_county.specs.declared.sides.Side.{Side}
use Rattle.tl_map_county.specs.declared.sides.Side.TheVariants as side
use Rattle.tl_map_county.specs.TheMap.{TheMap, MapChain}
use Rattle.tl_check_planar.specs.ByHeight.Heights.{widest}
use Rattle.tl_check_planar.specs.ByHeight.Neighbours.{IsNumbered}
use Rattle.tl_check_faces.specs.Lists.{west_side, east_side}
use Rattle.tl_check_faces.specs.Disagreements.{FacingSide, IsMidway, IsFaceDisagreement, IsOutwardDisagreement}
use Rattle.tl_check_faces.specs.Level.{DifferAlong}
use Rattle.tl_check_faces.specs.declared.fault.NamedFace.{NamedFace}
use Rattle.tl_check_faces.specs.declared.fault.Way.{Way}
use Rattle.tl_check_faces.specs.declared.fault.Way.TheVariants.{West, East}
use Rattle.tl_check_faces.specs.declared.fault.FaceFault.{FaceFault}
use Rattle.tl_check_faces.specs.declared.fault.FaceFault.TheVariants.{Facing, Outward}

-- the key of the polygon on a side; the outside has none, nor has a number that is of no polygon
abbrev pub side_key : List Polygon → Side → Option PolyKey
side_key polygons side.Outside = None
side_key polygons (side.Polygon p) = option_map (λ (polygon : Polygon). polygon.key) (slice_get polygons p)

-- the chain and the side have this TLID and this key
pub record IsNamed (m : TheMap) (chain : MapChain) (side : Side) (face : NamedFace) : Type 0 where
  pub tlid : face.tlid ≡ chain.tlid
  pub polygon : face.polygon ≡ side_key m.polygons side

-- two segments face one another from the places of the faces, which are in lowest terms, and name different sides there, those of the
-- faces
pub record IsTrueFacing (m : TheMap) (first last : NamedFace) : Type 0 where
  pub one : FacingSide
  pub other : FacingSide
  pub disagree : IsFaceDisagreement m.chains one other
  pub at_first : first.at ≡ one.place
  pub at_last : last.at ≡ other.place
  pub lowest_first : IsLowest first.at
  pub lowest_last : IsLowest last.at
  pub named_first : IsNamed m one.chain one.side first
  pub named_last : IsNamed m other.chain other.side last

-- the direction of a way along a line of one height
abbrev pub way_x : Way → ℤ
way_x West = pos 0 -ℤ widest
way_x East = widest

abbrev pub way_y : Way → ℤ
way_y West = pos 0 -ℤ pos 1
way_y East = pos 1

-- nothing lies on the ray this way from the place of the face, which is in lowest terms, and the segment there names the face's side,
-- not the outside
pub record IsTrueOutward (m : TheMap) (face : NamedFace) (way : Way) : Type 0 where
  pub one : FacingSide
  pub disagree : IsOutwardDisagreement m.chains one (way_x way) (way_y way)
  pub at : face.at ≡ one.place
  pub lowest : IsLowest face.at
  pub named : IsNamed m one.chain one.side face

-- what the fault says of the plane is true
abbrev pub IsTrueInPlane : TheMap → FaceFault → Type 0
IsTrueInPlane m (Facing first last) = IsTrueFacing m first last
IsTrueInPlane m (Outward face way) = IsTrueOutward m face way

-- ---- along lines of one height

-- the place is the segment's place midway between height n and the next, in lowest terms
pub record IsLowestMidway (K n : ℤ) (u : Segment) (at : Rational) : Type 0 where
  pub place : Rational
  pub midway : IsMidway K n u place
  pub lowest : IsLowestOf place at

-- the face is what segment s names to the west, from its place midway above height n
pub record IsWestFace (K : ℤ) (m : TheMap) (n : ℤ) (s : ℕ) (face : NamedFace) : Type 0 where
  pub segment : Segment
  pub is : IsNumbered m.chains s segment
  pub midway : IsLowestMidway K n segment face.at
  pub named : IsNamed m is.joins.chain (west_side K is.joins.chain segment) face

-- the face is what segment s names to the east, from there
pub record IsEastFace (K : ℤ) (m : TheMap) (n : ℤ) (s : ℕ) (face : NamedFace) : Type 0 where
  pub segment : Segment
  pub is : IsNumbered m.chains s segment
  pub midway : IsLowestMidway K n segment face.at
  pub named : IsNamed m is.joins.chain (east_side K is.joins.chain segment) face

-- the fault is of what stands west and east, above height n: of two segments what each names toward the other, of one alone what it
-- names toward the outside
abbrev pub IsOfBothSides : ℤ → TheMap → ℤ → (west east : Option ℕ) → FaceFault → Type 0
IsOfBothSides K m n (Some s) (Some t) (Facing first last) = IsEastFace K m n s first × IsWestFace K m n t last
IsOfBothSides K m n (Some s) (Some t) (Outward face way) = ⊥
IsOfBothSides K m n (Some s) None (Facing first last) = ⊥
IsOfBothSides K m n (Some s) None (Outward face way) = IsEastFace K m n s face × (way ≡ East)
IsOfBothSides K m n None (Some t) (Facing first last) = ⊥
IsOfBothSides K m n None (Some t) (Outward face way) = IsWestFace K m n t face × (way ≡ West)
IsOfBothSides K m n None None fault = ⊥

-- the fault is of what stands west and east: it is told at the lowest height above which they name different sides along a line
pub record IsFaultBetween (m : TheMap) (west east : Option ℕ) (fault : FaceFault) : Type 0 where
  pub n : ℤ
  pub differ : DifferAlong widest n m.chains west east
  pub lowest : (k : ℤ) → DifferAlong widest k m.chains west east → n ≤ℤ k
  pub of : IsOfBothSides widest m n west east fault

-- the fault is true of the map: what it says of the plane is, and it is of two segments, or of one and the outside. So one fault at
-- most is true of what stands on both sides
pub record IsTrueFaceFault (m : TheMap) (fault : FaceFault) : Type 0 where
  pub in_plane : IsTrueInPlane m fault
  pub west : Option ℕ
  pub east : Option ℕ
  pub between : IsFaultBetween m west east fault
