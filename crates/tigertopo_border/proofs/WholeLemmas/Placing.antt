-- Points of polygons: one lies in its own polygon alone in the joined map exactly where it does in its part.
use Rattle.std.proofs.Common.{◌≡◌, ℕ, ◌<◌, pos, Bool, true, false, List, refl, sym, ap, subst, arith}
use Rattle.std.proofs.lemmas.Int.{ints}
use Rattle.tl_geom.specs.declared.point.Point.{Point}
use Rattle.tl_geom.specs.declared.rational.Rational.{Rational}
use Rattle.tl_geom.specs.Plane.{whole}
use Rattle.tl_map_county.specs.declared.sides.Side.{Side}
use Rattle.tl_map_county.specs.declared.sides.Side.TheVariants.{Outside, Polygon}
use Rattle.tl_map_county.specs.TheMap.{TheMap, MapChain}
use Rattle.tl_tree_index.proofs.Times.{same_or}
use Rattle.tl_check_planar.specs.Planar.{IsOnChain}
use Rattle.tl_check_inside.specs.Inside.{is_polygon, IsCountAt}
use Rattle.tl_check_inside.specs.Placed.{IsPlacedIn}
use Rattle.tl_check_faces.specs.Facing.{IsOff}
use Rattle.tl_check_faces.specs.Clear.{IsOffBoundary}
use Rattle.tl_check_faces.specs.Truth.{LiesAt}
use Rattle.tl_check_faces.proofs.Whole.{one_count}
use Rattle.tigertopo_border.specs.Whole.Homes.{Homes, is_named, is_of, own, tells}
use Rattle.tigertopo_border.proofs.WholeLemmas.Told.{IsToldAs, told_as, off_boundary_back}
use Rattle.tigertopo_border.proofs.WholeLemmas.Lies.{AreGood, counts_of}
use Rattle.tigertopo_border.proofs.WholeLemmas.Names.{named_own, passed}
use Rattle.tigertopo_border.proofs.WholeLemmas.Fitting.{AreParts, part_counts, alone}
use Rattle.tigertopo_border.proofs.WholeLemmas.Faces.{by_part}

-- ---- in one map

module _ (m : TheMap) (q : Point) (p : ℕ) where
  pub placed_by : IsOff m.chains (whole q) → LiesAt m.chains (whole q) (Polygon p) → IsPlacedIn m q p
  placed_by clear lies = record {
    off = λ c held. clear c held.chain held.is held.on;
    inside = lies.0;
    clear = λ other lt ne. (lies.1 other ne);
  }

  module _ (placed : IsPlacedIn m q p) where
    pub off_there : IsOff m.chains (whole q)
    off_there c chain is on = placed.off c (record { chain = chain; is = is; on = on })

    pub lies_there : AreGood m.chains → LiesAt m.chains (whole q) (Polygon p)
    lies_there good = go (good.truth.one_polygon (whole q) off_there)
      where
        one : IsCountAt m.chains (whole q) (is_polygon p) (pos 1)
        one = placed.inside

        never : IsCountAt m.chains (whole q) (is_polygon p) (pos 0) → ⊥
        never none = let e = one_count m.chains (whole q) (is_polygon p) (pos 1) (pos 0) one none in omega (arith, ints, e)

        by_side : (side : Side) → LiesAt m.chains (whole q) side → LiesAt m.chains (whole q) (Polygon p)
        by_side Outside lies = absurd (never (lies p))
        by_side (Polygon r) lies = same_or p r
            (λ e. subst (λ z. LiesAt m.chains (whole q) (Polygon z)) (sym e) lies)
            (λ ne. absurd (never (lies.1 p ne)))

        go : (side : Side) × LiesAt m.chains (whole q) side → LiesAt m.chains (whole q) (Polygon p)
        go (side, lies) = by_side side lies

-- ---- from a part to the joined map

module _ (homes : Homes) (two : (p q : ℕ) → homes.part p ≡ homes.part q → homes.number p ≡ homes.number q → p ≡ q)
    (n : ℕ) (chains border : List MapChain) (parts : AreParts homes n chains border) (q : Rational) (p : ℕ) (lt : homes.part p < n)
    (clear : IsOff (parts.part (homes.part p) lt) q) (lies : LiesAt (parts.part (homes.part p) lt) q (Polygon (homes.number p))) where
  k : ℕ
  k = homes.part p

  off_bounds : IsOffBoundary chains (is_of homes (homes.part p)) q
  off_bounds =
      subst (λ S. IsOffBoundary chains S q) (λ i s. named_own homes (homes.part p) s i)
      (off_boundary_back (own homes (homes.part p)) (tells homes (homes.part p)) chains (parts.part (homes.part p) lt) (parts.told (homes.part p) lt) is_named
      (λ c chain is t. ap is_named (passed homes (homes.part p) chain t)) q (λ c chain is differ on. clear c chain is on))

  one : IsCountAt chains q (is_of homes (homes.part p)) (pos 1)
  one =
      (part_counts homes n chains border parts (homes.part p) lt q (pos 1)).0
      (counts_of (parts.part (homes.part p) lt) (parts.good (homes.part p) lt) q clear (Polygon (homes.number p)) lies is_named refl)

  pub joined_off : IsOff chains q
  joined_off c chain is on = go (tells homes (homes.part p) chain) refl
    where
      go : (b : Bool) → tells homes (homes.part p) chain ≡ b → ⊥
      go true e =
          let s : IsToldAs (own homes (homes.part p)) (tells homes (homes.part p)) chains (parts.part (homes.part p) lt) chain c =
          told_as (own homes (homes.part p)) (tells homes (homes.part p)) chains (parts.part (homes.part p) lt) (parts.told (homes.part p) lt) c chain is e in
          clear s.place_of s.one s.is (subst (λ z. IsOnChain z q) (sym s.named.points) on)
      go false e = alone homes n chains border parts (homes.part p) q off_bounds one c chain is e on

  pub joined_lies : LiesAt chains q (Polygon p)
  joined_lies = by_part homes two n chains border parts q joined_off p (homes.part p) refl lt lies
