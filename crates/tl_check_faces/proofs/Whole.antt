-- There is one count of a place.
use Rattle.std.proofs.Common.{◌≡◌, ℤ, Bool, List, length, sym, ◌∙◌}
use Rattle.tl_geom.specs.declared.rational.Rational.{Rational}
use Rattle.tl_map_county.specs.declared.sides.Side.{Side}
use Rattle.tl_map_county.specs.TheMap.{MapChain}
use Rattle.tl_map_county.specs.Segments.{segments_before}
use Rattle.tl_check_inside.specs.Inside.{IsCrossedAt, IsCountAt}
use Rattle.tl_check_faces.proofs.Hits.{one_balance}

pub one_count : (chains : List MapChain) (q : Rational) (S : Side → Bool) (m n : ℤ) → IsCountAt chains q S m → IsCountAt chains q S n → m ≡ n
one_count chains q S m n a b =
    a.counted ∙ one_balance chains (segments_before chains (length chains)) (IsCrossedAt chains q) S a.crossed b.crossed a.are b.are ∙ sym b.counted
