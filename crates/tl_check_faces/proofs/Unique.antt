-- At a place lies one polygon, or the outside.
use Rattle.std.proofs.Common.{◌≡◌, ⊎_elim, ℕ, pos, List, refl, ap, arith}
use Rattle.std.proofs.lemmas.Bool.{cases_eq}
use Rattle.std.proofs.lemmas.Int.{ints}
use Rattle.tl_geom.specs.declared.rational.Rational.{Rational}
use Rattle.tl_map_county.specs.declared.sides.Side.{Side}
use Rattle.tl_map_county.specs.declared.sides.Side.TheVariants.{Outside, Polygon}
use Rattle.tl_map_county.specs.TheMap.{MapChain}
use Rattle.tl_check_inside.specs.Inside.{is_polygon, IsPolygonCountAt}
use Rattle.tl_check_faces.specs.Truth.{LiesAt}
use Rattle.tl_check_faces.proofs.Whole.{one_count}

module _ (chains : List MapChain) (q : Rational) where
  never : (p : ℕ) → IsPolygonCountAt chains q p (pos 1) → IsPolygonCountAt chains q p (pos 0) → ⊥
  never p one none = let e = one_count chains q (is_polygon p) (pos 1) (pos 0) one none in omega (arith, ints, e)

  pub unique : (side other : Side) → LiesAt chains q side → LiesAt chains q other → side ≡ other
  unique Outside Outside one two = refl
  unique Outside (Polygon p) one two = absurd (never p two.0 (one p))
  unique (Polygon p) Outside one two = absurd (never p one.0 (two p))
  unique (Polygon p) (Polygon r) one two = ⊎_elim (λ e. ap Polygon e) (λ ne. absurd (never p one.0 (two.1 p ne))) (cases_eq p r)
