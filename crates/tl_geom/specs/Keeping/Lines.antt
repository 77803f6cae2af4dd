-- Where the lines of two segments that are not parallel cross.
use Rattle.std.specs.Prelude.{◌≡◌, ◌≢◌, ◌⊎◌, ℤ, pos, neg_ℤ, ◌<ℤ◌, ◌≤ℤ◌}
use Rattle.tl_geom.specs.declared.point.Point.{Point}
use Rattle.tl_geom.specs.declared.segment.Segment.{Segment}
use Rattle.tl_geom.specs.Plane.{step_cross}

-- d, n and m are these three cross products
pub record AreCrosses (s t : Segment) (d n m : ℤ) : Type 0 where
  pub whole : d ≡ step_cross s.a s.b t.a t.b
  pub first : n ≡ step_cross t.a t.b t.a s.a
  pub second : m ≡ step_cross s.a s.b t.a s.a

-- the lines cross n of d parts along the first segment and m of d parts along the second
pub record AreShares (s t : Segment) (d n m : ℤ) : Type 0 where
  pub above_zero : pos 0 <ℤ d
  pub measured : AreCrosses s t d n m ⊎ AreCrosses s t (neg_ℤ d) (neg_ℤ n) (neg_ℤ m)

-- the point is the end of the segment that n of d parts along it lead to
abbrev pub IsEndAt : Segment → (d n : ℤ) → Point → Type 0
IsEndAt s d n p = ((p ≡ s.a) × (n ≡ pos 0)) ⊎ ((p ≡ s.b) × (n ≡ d))

-- n of d parts along a segment lead to neither end
abbrev pub IsInside : (d n : ℤ) → Type 0
IsInside d n = (n ≢ pos 0) × (n ≢ d)

-- both ends of the second segment lie on the line of the first
pub record AreInLine (s t : Segment) : Type 0 where
  pub parallel : step_cross s.a s.b t.a t.b ≡ pos 0
  pub on_line : step_cross s.a s.b t.a s.a ≡ pos 0

-- p comes before q along a line, by x and then by y, or is q
abbrev pub AreInOrder : (p q : Point) → Type 0
AreInOrder p q = (p.x <ℤ q.x) ⊎ ((p.x ≡ q.x) × (p.y ≤ℤ q.y))

-- the ends of a segment in that order
pub record AreEndsInOrder (s : Segment) (first last : Point) : Type 0 where
  pub ends : ((first ≡ s.a) × (last ≡ s.b)) ⊎ ((first ≡ s.b) × (last ≡ s.a))
  pub order : AreInOrder first last

-- the later of two points in that order
pub record IsLater (p q later : Point) : Type 0 where
  pub one : (later ≡ p) ⊎ (later ≡ q)
  pub after_first : AreInOrder p later
  pub after_second : AreInOrder q later

-- the earlier of two points in that order
pub record IsEarlier (p q earlier : Point) : Type 0 where
  pub one : (earlier ≡ p) ⊎ (earlier ≡ q)
  pub before_first : AreInOrder earlier p
  pub before_second : AreInOrder earlier q

-- the point is an end of both segments
abbrev pub IsEndOfBoth : (s t : Segment) → Point → Type 0
IsEndOfBoth s t p = ((p ≡ s.a) ⊎ (p ≡ s.b)) × ((p ≡ t.a) ⊎ (p ≡ t.b))
