-- What is told of two segments, and what a search for a meet may answer.
use Rattle.std.specs.Prelude.{◌≡◌, ◌⊎◌, ℕ, ◌<◌, ◌≤◌, Option, Some, None, List, length}
use Rattle.tl_geom.specs.declared.point.Point.{Point}
use Rattle.tl_geom.specs.declared.rational.Rational.{Rational}
use Rattle.tl_geom.specs.declared.segment.Segment.{Segment}
use Rattle.tl_geom.specs.Plane.{whole}
use Rattle.tl_geom.specs.Contact.{MeetAtEnds, IsCrossing}
use Rattle.tl_map_county.specs.TheMap.{MapChain}
use Rattle.tl_map_county.specs.Segments.{segments_before, Joins}
use Rattle.tl_tree_index.specs.Searches.{meeting_pairs, IsBeyond}
use Rattle.tl_check_planar.specs.declared.meet.Meet.{Meet}
use Rattle.tl_check_planar.specs.declared.meet.Meeting.{Meeting}
use Rattle.tl_check_planar.specs.declared.meet.Meeting.TheVariants.{Found, Clear, Budget}
use Rattle.tl_check_planar.specs.Planar.{IsPlanar}
use Rattle.tl_check_planar.specs.Meets.{IsSharedBy, IsMeet, IsAllowed, AreFree}
use Rattle.tl_check_planar.specs.Rectangles.{segment_rect}

-- the rational point by which the contact of two segments is told: the end that they share alone, or that of a crossing
abbrev pub IsContactPoint : (s t : Segment) → Rational → Type 0
IsContactPoint s t r = ((p : Point) × MeetAtEnds s t p × (r ≡ whole p)) ⊎ IsCrossing s t r

-- the point of the contact of segments s and t is allowed
abbrev pub IsContactAllowed : List MapChain → (s t : ℕ) → (one other : Segment) → Type 0
IsContactAllowed chains s t one other =
    (q : Rational) × (m : IsSharedBy chains s t q) × IsContactPoint one other q × IsAllowed chains s t q m

-- segments s and t conflict, and it is told by the point of their contact, unless that one is allowed
pub record IsConflictToldBy (chains : List MapChain) (s t : ℕ) (r : Rational) : Type 0 where
  pub meet : IsMeet chains s t r
  pub one : Segment
  pub other : Segment
  pub joins_one : Joins chains meet.shared.c meet.shared.i one
  pub joins_other : Joins chains meet.shared.d meet.shared.j other
  pub by : IsContactPoint one other r ⊎ IsContactAllowed chains s t one other

-- what may be told of segments s and t: a point by which they conflict, or that they don't
abbrev pub MayTell : List MapChain → (s t : ℕ) → Option Rational → Type 0
MayTell chains s t None = AreFree chains s t
MayTell chains s t (Some r) = IsConflictToldBy chains s t r

-- the meet is of two segments, in order, that conflict by its point, and names their chains
pub record IsTrueMeet (chains : List MapChain) (m : Meet) : Type 0 where
  pub ordered : m.s < m.t
  pub told : IsConflictToldBy chains m.s m.t m.at
  pub tlid : m.tlid ≡ told.meet.shared.first.chain.tlid
  pub other : m.other ≡ told.meet.shared.second.chain.tlid

-- how many pairs of segments have rectangles that meet
abbrev pub meeting_segments : List MapChain → ℕ
meeting_segments chains = meeting_pairs (segment_rect chains) (segments_before chains (length chains))

-- the chains are planar, and at most budget pairs of segments have rectangles that meet
pub record ArePlanarWithin (chains : List MapChain) (budget : ℕ) : Type 0 where
  pub planar : IsPlanar chains
  pub within : meeting_segments chains ≤ budget

-- more pairs of segments than the budget have rectangles that meet; and of those that don't conflict, as many as the budget
-- can be chosen
abbrev pub AreBeyond : List MapChain → ℕ → Type 0
AreBeyond chains budget = IsBeyond (segments_before chains (length chains)) (segment_rect chains) (MayTell chains) budget

-- what a search for a meet with this budget may answer
abbrev pub MayMeet : List MapChain → ℕ → Meeting → Type 0
MayMeet chains budget (Found m) = IsTrueMeet chains m
MayMeet chains budget Clear = ArePlanarWithin chains budget
MayMeet chains budget Budget = AreBeyond chains budget
