use Rattle.std.proofs.Common.{◌≡◌, ℕ, zero, suc, ◌<◌, List, [], ◌∷◌, length, get_or, refl, ◌∙◌, ap, arith}
use Rattle.tl_geom.specs.declared.segment.Segment.{Segment}
use Rattle.tl_geom.specs.Rectangle.{rect_of}
use Rattle.bench.specs.Bounds.{rect_at}
use Rattle.bench.proofs.streets.StreetsItems.bounds.Goals as goal

at : (xs : List Segment) (i : ℕ) (s : Segment) → i < length xs → rect_of (get_or xs i s) ≡ rect_at xs i
at [] i s h = absurd (omega arith)
at (x ∷ xs) zero s h = refl
at (x ∷ xs) (suc i) s h = at xs i s (omega arith)

pub returns : goal.returns
returns c = c.of.ensures.value ∙ ap rect_of c.index.ensures ∙ at c.args.self.now.segments.items c.args.i c.index.result.now c.requires
