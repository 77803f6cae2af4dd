-- What is drawn of chains: strokes from point to point.
use Rattle.std.specs.Prelude.{◌==◌, Bool, not, ◌&&◌, if◌then◌else◌, List, [], ◌∷◌, length, Option, Some, None, is_none, unwrap_or}
use Rattle.tl_geom.specs.declared.point.Point.{Point}
use Rattle.tl_map_county.specs.TheMap.{MapChain}
use Rattle.tigertopo_pictures.specs.declared.svg.frame.Frame.{Frame}
use Rattle.tigertopo_pictures.specs.declared.svg.frame.Spot.{Spot}
use Rattle.tigertopo_pictures.specs.declared.svg.walk.Stroke.{Stroke}
use Rattle.tigertopo_pictures.specs.declared.svg.walk.Walk.{Walk}
use Rattle.tigertopo_pictures.specs.Svg.Frames.{spot_of, is_near, is_small, is_seen, around_points, no_points}

-- is a point passed over: it is nearer than a third of a pixel to the point before it, and not a chain's last
abbrev pub is_passed : Frame → (last p : Point) → List Point → Bool
is_passed f last p rest = is_near f last p && not (length rest == 0)

-- the stroke from the last point to another: from the place where the stroke before it ended, or else anew
abbrev pub stroke_to : Frame → (end : Option Spot) → (last p : Point) → Stroke
stroke_to f end last p = record { from = unwrap_or end (spot_of f last); to = spot_of f p; begins = is_none end }

-- the strokes from a point on through these, where the last stroke before ended there at this place, or wasn't drawn. Points that are
-- passed over are left out, and so is what isn't seen
abbrev pub strokes_from : Frame → (end : Option Spot) → (last : Point) → List Point → List Stroke
strokes_from f end last [] = []
strokes_from f end last (p ∷ rest) =
    if is_passed f last p rest then strokes_from f end last rest
    else if is_seen f last p
    then stroke_to f end last p ∷ strokes_from f (Some (spot_of f p)) p rest
    else strokes_from f None p rest

-- the strokes that a walk along a chain still has to come to
abbrev pub strokes_left : Walk → List Stroke
strokes_left w = strokes_from w.frame w.end w.last w.rest.now

-- the strokes of a chain by its points: none where the rectangle about them is smaller than a third of a pixel
abbrev pub chain_strokes : Frame → List Point → List Stroke
chain_strokes f [] = []
chain_strokes f (p ∷ rest) = if is_small f (around_points no_points (p ∷ rest)) then [] else strokes_from f None p rest

-- what is drawn of a chain: its strokes, and its points from start to end
pub record Drawing : Type 0 where
  pub strokes : List Stroke
  pub points : List Point

-- what is drawn of chains
abbrev pub drawings : Frame → List MapChain → List Drawing
drawings f [] = []
drawings f (chain ∷ rest) = (record { strokes = chain_strokes f chain.points; points = chain.points }) ∷ drawings f rest

-- is something drawn of it
abbrev pub is_shown : Drawing → Bool
is_shown d = not (length d.strokes == 0)
