-- What a vector of eight numbers keeps.
use Rattle.std.specs.Prelude.{◌≡◌, ℕ, ◌<◌, ℤ, pos, List, length, get_or, FitsSigned}
use Rattle.std.specs.Int.{w32}
use Rattle.tl_geom.specs.declared.rect.Rect.{Rect}

-- there are eight numbers, each an i32
pub record AreLanes (v : List ℤ) : Type 0 where
  pub eight : length v ≡ 8
  pub fit : (k : ℕ) → k < 8 → FitsSigned w32 (get_or v k (pos 0))

-- each side of a rectangle is an i32
pub record HasSides (r : Rect) : Type 0 where
  pub west : FitsSigned w32 r.xmin
  pub south : FitsSigned w32 r.ymin
  pub east : FitsSigned w32 r.xmax
  pub north : FitsSigned w32 r.ymax
