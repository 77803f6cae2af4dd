-- What lies at a place, and sides that name what lies there.
use Rattle.std.specs.Prelude.{◌≢◌, ℕ, ℤ, pos, ◌-ℤ◌, ◌*ℤ◌, ◌<ℤ◌, List}
use Rattle.tl_geom.specs.declared.rational.Rational.{Rational}
use Rattle.tl_geom.specs.declared.segment.Segment.{Segment}
use Rattle.tl_geom.specs.Plane.{cross}
use Rattle.tl_map_county.specs.declared.sides.Side.{Side}
use Rattle.tl_map_county.specs.declared.sides.Side.TheVariants.{Outside, Polygon}
use Rattle.tl_map_county.specs.TheMap.{MapChain}
use Rattle.tl_check_inside.specs.Inside.{IsPolygonCountAt}
use Rattle.tl_check_faces.specs.Facing.{IsOfChain, IsOff, IsStrictlyOn, step_x, step_y}

-- what lies at the rational point: the outside, where the count of each polygon is 0, or polygon p, where its count is 1 and that
-- of each other polygon is 0
abbrev pub LiesAt : List MapChain → Rational → Side → Type 0
LiesAt chains q Outside = (p : ℕ) → IsPolygonCountAt chains q p (pos 0)
LiesAt chains q (Polygon p) = IsPolygonCountAt chains q p (pos 1) × ((other : ℕ) → other ≢ p → IsPolygonCountAt chains q other (pos 0))

-- there is one polygon at each place that is on no chain, or the outside
abbrev pub HasOnePolygon : List MapChain → Type 0
HasOnePolygon chains = (q : Rational) → IsOff chains q → (side : Side) × LiesAt chains q side

-- q is nearer to r than 1 part of e, both in longitude and in latitude
pub record IsNearer (e : ℤ) (r q : Rational) : Type 0 where
  pub west : (e *ℤ (pos 0 -ℤ step_x r q)) <ℤ (r.d *ℤ q.d)
  pub east : (e *ℤ step_x r q) <ℤ (r.d *ℤ q.d)
  pub south : (e *ℤ (pos 0 -ℤ step_y r q)) <ℤ (r.d *ℤ q.d)
  pub north : (e *ℤ step_y r q) <ℤ (r.d *ℤ q.d)

-- above 0 where the rational point lies on the left of the segment's line, below 0 where it lies on the right
abbrev pub turn_about : Segment → Rational → ℤ
turn_about u q = cross (u.b.x -ℤ u.a.x) (u.b.y -ℤ u.a.y) (q.x -ℤ q.d *ℤ u.a.x) (q.y -ℤ q.d *ℤ u.a.y)

-- about the rational point, as near as 1 part of e, lies on the left of the segment what the chain names on its left, and on the
-- right what it names on its right
pub record IsTrueAbout (chains : List MapChain) (chain : MapChain) (u : Segment) (r : Rational) (e : ℤ) : Type 0 where
  pub some : pos 0 <ℤ e
  pub left : (q : Rational) → IsNearer e r q → IsOff chains q → pos 0 <ℤ turn_about u q → LiesAt chains q chain.left
  pub right : (q : Rational) → IsNearer e r q → IsOff chains q → turn_about u q <ℤ pos 0 → LiesAt chains q chain.right

-- sides are true: it is so about each rational point strictly within a segment
abbrev pub AreSidesTrue : List MapChain → Type 0
AreSidesTrue chains =
    (chain : MapChain) (u : Segment) (r : Rational) → IsOfChain chains chain u → IsStrictlyOn u r → (e : ℤ) × IsTrueAbout chains chain u r e

-- faces are true: at each place that is on no chain lies one polygon, or the outside, and sides are true
pub record AreFacesTrue (chains : List MapChain) : Type 0 where
  pub one_polygon : HasOnePolygon chains
  pub true_sides : AreSidesTrue chains
