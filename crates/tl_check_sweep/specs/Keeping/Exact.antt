-- A step of the sweep of which the place is known by turns.
use Rattle.std.specs.Prelude.{◌≡◌, ◌≢◌, ℕ, ◌<◌, pos, ◌-ℤ◌, ◌≤ℤ◌, Some, List, slice_get, All}
use Rattle.tl_geom.specs.declared.point.Point.{Point}
use Rattle.tl_geom.specs.declared.segment.Segment.{Segment}
use Rattle.tl_map_county.specs.TheMap.{MapChain}
use Rattle.tl_tree_index.specs.Hits.{times}
use Rattle.tl_check_planar.specs.ByHeight.Heights.{height, low_end, high_end, turn_to, widest}
use Rattle.tl_check_planar.specs.ByHeight.Neighbours.{IsNumbered, IsWestOf, AreApartOrAtEnds}
use Rattle.tl_check_planar.specs.ByHeight.Slabs.{IsListOf}
use Rattle.tl_check_active.specs.Blocks.Lined.{TheLine, last_of}
use Rattle.tl_check_active.specs.Ranges.{IsInRange, AreInRange}
use Rattle.tl_check_faces.specs.Crossings.Headings.{AreProper}
use Rattle.tl_check_gaps.specs.Beside.{IsEastOf}

-- the point doesn't lie east of segment s
abbrev pub IsNotEastOf : List MapChain → Point → ℕ → Type 0
IsNotEastOf chains p s = (segment : Segment) → IsNumbered chains s segment → pos 0 ≤ℤ turn_to widest segment p

-- segment s ends at the point, or it doesn't
abbrev pub EndsAt : List MapChain → Point → ℕ → Type 0
EndsAt chains p s = (segment : Segment) × IsNumbered chains s segment × (high_end widest segment ≡ p)

abbrev pub EndsElsewhere : List MapChain → Point → ℕ → Type 0
EndsElsewhere chains p s = (segment : Segment) → IsNumbered chains s segment → high_end widest segment ≢ p

-- segment s begins at the point
abbrev pub BeginsAt : List MapChain → Point → ℕ → Type 0
BeginsAt chains p s = (segment : Segment) → IsNumbered chains s segment → low_end widest segment ≡ p

-- the place of a list is that of the point
pub record StandsAt (chains : List MapChain) (p : Point) (line : TheLine) : Type 0 where
  pub east : (t : ℕ) → last_of line.front ≡ Some t → IsEastOf widest chains p t
  pub west : (t : ℕ) → slice_get line.back 0 ≡ Some t → IsNotEastOf chains p t

-- segment s is west of segment t by two turns
abbrev pub IsWestOfOther : List MapChain → (s t : ℕ) → Type 0
IsWestOfOther chains s t = (u w : Segment) → IsNumbered chains s u → IsNumbered chains t w → IsWestOf widest u w

-- two segments are west and east of one another, if they are apart or share an end of both alone
pub record MayFollow (chains : List MapChain) (s t : ℕ) : Type 0 where
  pub two : s ≢ t
  pub west : (u w : Segment) → IsNumbered chains s u → IsNumbered chains t w → AreApartOrAtEnds u w → IsWestOf widest u w

-- the list is of the slab below a point, and these are the segments that end there and begin there
pub record IsBefore (chains : List MapChain) (p : Point) (list outs ins : List ℕ) : Type 0 where
  pub proper : AreProper chains
  pub ranges : AreInRange chains
  pub here : IsInRange p
  pub listed : IsListOf widest (height widest p -ℤ pos 1) chains list
  pub off : (s : ℕ) (segment : Segment) → IsNumbered chains s segment → high_end widest segment ≡ p → times s outs ≡ 1
  pub off_alone : (s : ℕ) → 0 < times s outs → EndsAt chains p s
  pub on : All (BeginsAt chains p) ins
  pub on_once : (s : ℕ) → 0 < times s ins → times s ins ≡ 1
