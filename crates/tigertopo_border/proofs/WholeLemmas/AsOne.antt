-- A part counts as its name.
use Rattle.std.proofs.Common.{◌↔◌, ℕ, ℤ, List, subst}
use Rattle.tl_geom.specs.declared.rational.Rational.{Rational}
use Rattle.tl_map_county.specs.TheMap.{MapChain}
use Rattle.tl_check_inside.specs.Inside.{is_polygon, IsCountAt}
use Rattle.tl_check_faces.specs.Crossings.Headings.{AreProper}
use Rattle.tigertopo_border.specs.Whole.Told.{AreTold}
use Rattle.tigertopo_border.specs.Whole.Homes.{Homes, is_named, is_of, own, tells, name, is_border}
use Rattle.tigertopo_border.proofs.WholeLemmas.Counts.{counts}
use Rattle.tigertopo_border.proofs.WholeLemmas.Names.{named_own, polygon_name, passed, inner_names}

module _ (homes : Homes) (k : ℕ) (chains : List MapChain) (proper : AreProper chains) (q : Rational) (n : ℤ) where
  pub of_part : (part : List MapChain) → AreTold (own homes k) (tells homes k) chains part → IsCountAt part q is_named n ↔ IsCountAt chains q (is_of homes k) n
  of_part part told =
      subst (λ S. IsCountAt part q is_named n ↔ IsCountAt chains q S n) (λ i s. named_own homes k s i)
      (counts (own homes k) (tells homes k) (λ c e. passed homes k c e) chains part told proper q is_named n)

  pub of_border : (border : List MapChain) → AreTold (name homes) (is_border homes) chains border → IsCountAt border q (is_polygon k) n ↔ IsCountAt chains q (is_of homes k) n
  of_border border told =
      subst (λ S. IsCountAt border q (is_polygon k) n ↔ IsCountAt chains q S n) (λ i s. polygon_name homes k s i)
      (counts (name homes) (is_border homes) (λ c e. inner_names homes c e) chains border told proper q (is_polygon k) n)

  pub as_name : (part border : List MapChain) → AreTold (own homes k) (tells homes k) chains part → AreTold (name homes) (is_border homes) chains border →
      IsCountAt part q is_named n ↔ IsCountAt border q (is_polygon k) n
  as_name part border told told' = (
    λ c. (of_border border told').1 ((of_part part told).0 c),
    λ c. (of_part part told).1 ((of_border border told').0 c),
  )
