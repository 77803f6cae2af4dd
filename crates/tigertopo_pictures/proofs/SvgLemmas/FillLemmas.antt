-- Polygons that are filled.
use Rattle.std.proofs.Common.{◌≡◌, ℕ, ℤ, ◌+◌, ◌<◌, ◌≤◌, true, false, List, [], ◌∷◌, ◌++◌, length, refl, sym, ap, ◌∙◌, add-one, arith}
use Rattle.std.specs.Prelude.{slice_index, if◌then◌else◌, codes}
use Rattle.tl_geom.specs.declared.rect.Rect.{Rect}
use Rattle.tl_check_sides.specs.Lists.{list_at}
use Rattle.tigertopo_pictures.specs.Groups.{GoesThrough}
use Rattle.tl_map_county.specs.TheMap.{MapChain}
use Rattle.tigertopo_pictures.specs.declared.svg.frame.Frame.{Frame}
use Rattle.tigertopo_pictures.specs.declared.svg.frame.Spot.{Spot}
use Rattle.tigertopo_pictures.specs.Svg.Frames.{no_points}
use Rattle.tigertopo_pictures.specs.Svg.Texts.{pair_text}
use Rattle.tigertopo_pictures.specs.Svg.Fills.{Filling, is_spot, step_text, around_darts, around_walks, rings_of, is_filled, fill_text, polygon_fill, fills_below}

-- a step that is written, and one that isn't
pub step_there : (from to : Spot) (x y : ℤ) → is_spot from to ≡ false → x ≡ to.x → y ≡ to.y → pair_text (codes "L") x y ≡ step_text from to
unfolding step_text
step_there from to x y other along down = rw (along, down, other) refl

pub step_none : (from to : Spot) → is_spot from to ≡ true → [] ≡ step_text from to
unfolding step_text
step_none from to same = rw same refl

-- one polygon more
pub one_filled : (f : Frame) (chains : List MapChain) (filling : Filling) (n : ℕ)
    → fills_below f chains filling n ++ polygon_fill f chains filling n ≡ fills_below f chains filling (n + 1)
one_filled f chains filling n = rw add-one refl

-- ---- what lies about walks

-- of walks some are within the rectangle, and the rectangle about the others too is that about all
pub record IsAroundSome (chains : List MapChain) (walks : List (List ℕ)) (next : List ℕ) (at : ℕ) (ns : List ℕ) (rect : Rect) : Type 0 where
  pub rest : List ℕ
  pub goes : GoesThrough next at rest
  pub is : around_walks chains walks rect rest ≡ around_walks chains walks no_points ns

module _ (chains : List MapChain) (walks : List (List ℕ)) (next : List ℕ) (at : ℕ) (ns : List ℕ) (rect : Rect) where
  more_around : (rest : List ℕ) → at < length next → GoesThrough next at rest → around_walks chains walks rect rest ≡ around_walks chains walks no_points ns
      → IsAroundSome chains walks next (slice_index next at) ns (around_darts chains rect (list_at walks at))
  more_around [] within goes is = absurd (omega (arith, within, goes))
  more_around (n ∷ rest) within goes is = record {
    rest = rest;
    goes = rw goes.0 goes.2;
    is = rw goes.0 is;
  }

  pub around_more : at < length next → IsAroundSome chains walks next at ns rect → IsAroundSome chains walks next (slice_index next at) ns (around_darts chains rect (list_at walks at))
  around_more within some = more_around some.rest within some.goes some.is

  all_around : (rest : List ℕ) → length next ≤ at → GoesThrough next at rest → around_walks chains walks rect rest ≡ around_walks chains walks no_points ns
      → rect ≡ around_walks chains walks no_points ns
  all_around [] beyond goes is = is
  all_around (n ∷ rest) beyond goes is = absurd (omega (arith, beyond, goes.0, goes.1))

  pub around_all : length next ≤ at → IsAroundSome chains walks next at ns rect → rect ≡ around_walks chains walks no_points ns
  around_all beyond some = all_around some.rest beyond some.goes some.is

-- ---- what is filled

-- a polygon that is filled, and one that isn't
module _ (f : Frame) (chains : List MapChain) (filling : Filling) (p : ℕ) (rect : Rect) (around : rect ≡ around_walks chains filling.walks no_points (rings_of chains filling.walks p)) where
  pub fill_there : (colour : ℕ) → colour ≡ slice_index filling.colours p → is_filled f rect ≡ true
      → fill_text f chains filling.walks colour (rings_of chains filling.walks p) ≡ polygon_fill f chains filling p
  fill_there colour is meets =
      ap (λ c. fill_text f chains filling.walks c (rings_of chains filling.walks p)) is
      ∙ sym (ap (λ b. if b then fill_text f chains filling.walks (slice_index filling.colours p) (rings_of chains filling.walks p) else []) (sym (ap (is_filled f) around) ∙ meets))

  pub fill_none : is_filled f rect ≡ false → [] ≡ polygon_fill f chains filling p
  fill_none beside = sym (ap (λ b. if b then fill_text f chains filling.walks (slice_index filling.colours p) (rings_of chains filling.walks p) else []) (sym (ap (is_filled f) around) ∙ beside))
