-- Eight rectangles side by side.
use Rattle.std.specs.Prelude.{ℕ, pos, get_or}
use Rattle.tl_geom.specs.declared.rect.Rect.{Rect}
use Rattle.tl_geom.specs.declared.rect8.Rect8.{Rect8}

-- lane k of eight rectangles, from 0
abbrev pub lane : Rect8 → ℕ → Rect
lane e k =
    record {
      xmin = get_or e.xmin k (pos 1);
      ymin = get_or e.ymin k (pos 1);
      xmax = get_or e.xmax k (pos 0);
      ymax = get_or e.ymax k (pos 0);
    }
