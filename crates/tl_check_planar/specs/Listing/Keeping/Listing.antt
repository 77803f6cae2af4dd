-- The items behind one item that conflict with it.
use Rattle.std.specs.Prelude.{ℕ, ◌<◌, Option, None}
use Rattle.tl_geom.specs.declared.rect.Rect.{Rect}
use Rattle.tl_geom.specs.Rectangle.{AreMeeting}

-- item j is behind item i, its rectangle meets this one, and of both it isn't told that they don't conflict
pub record IsBehind {C : Type 0} (bounds_of : ℕ → Rect) (tells : ℕ → ℕ → Option C → Type 0) (i : ℕ) (bounds : Rect) (j : ℕ) : Type 0 where
  pub behind : i < j
  pub meet : AreMeeting bounds (bounds_of j)
  pub conflict : ¬ tells i j None

-- item j is one of the n items behind item i, and of both it isn't told that they don't conflict
pub record IsListed {C : Type 0} (n : ℕ) (tells : ℕ → ℕ → Option C → Type 0) (i j : ℕ) : Type 0 where
  pub behind : i < j
  pub known : j < n
  pub conflict : ¬ tells i j None
