-- Each segment is crossed by the ray to the east, or by that to the west, or holds the point, or doesn't cross its height.
use Rattle.std.proofs.Common.{◌≡◌, ◌⊎◌, inl, inr, ⊎_elim, ℕ, ◌<◌, Bool, true, false, List, length, refl, sym, arith}
use Rattle.std.proofs.lemmas.Int.{ints}
use Rattle.tl_geom.specs.declared.point.Point.{Point}
use Rattle.tl_geom.specs.declared.segment.Segment.{Segment}
use Rattle.tl_geom.specs.Plane.{IsOn, whole}
use Rattle.tl_geom.specs.Ray.{Crosses}
use Rattle.tl_geom.proofs.AtPoints.{ArePartedBy, parted_by}
use Rattle.tl_map_county.specs.TheMap.{MapChain}
use Rattle.tl_map_county.specs.Segments.{segments_before}
use Rattle.tl_check_inside.specs.Inside.{flanks_at, flanks_between, IsCrossed}
use Rattle.tl_check_planar.proofs.Numbering.{HaveSameEnds, same_ends}
use Rattle.tl_check_inside.proofs.Sides.{by_points}
use Rattle.tl_check_faces.specs.Crossings.Heights.{is_above, parts}
use Rattle.tl_check_faces.specs.Crossings.Headings.{AreProper}
use Rattle.tl_check_faces.specs.Crossings.West.{CrossesWest, IsCrossedWest}
use Rattle.tl_check_faces.proofs.CrossingsLemmas.AtHeight.{east_or_west, not_both, not_east, not_west}
use Rattle.tl_check_faces.proofs.CrossingsLemmas.Located.{IsLocated, located}
use Rattle.tl_check_inside.proofs.Hitting.{on_same}
use Rattle.tl_check_planar.proofs.ByHeight.Rising.{lt_of, le_of}

-- ---- parted ends

pub data IsPart (q a b : Point) : Type 0 where
  parted : parts q.y a b ≡ true → ArePartedBy q a b → IsPart q a b
  level : parts q.y a b ≡ false → ¬ ArePartedBy q a b → IsPart q a b

pub part : (q a b : Point) → IsPart q a b
part q a b = go (is_above q.y a) (is_above q.y b) refl refl
  where
    go : (s t : Bool) → is_above q.y a ≡ s → is_above q.y b ≡ t → IsPart q a b
    go true true e f =
        let x = lt_of q.y a.y e in let y = lt_of q.y b.y f in
        level (rw (e, f) refl) (λ h. ⊎_elim (λ up. omega (arith, ints, up.0, x)) (λ down. omega (arith, ints, down.0, y)) h)
    go false false e f =
        let x = le_of q.y a.y e in let y = le_of q.y b.y f in
        level (rw (e, f) refl) (λ h. ⊎_elim (λ up. omega (arith, ints, up.1, y)) (λ down. omega (arith, ints, down.1, x)) h)
    go false true e f = parted (rw (e, f) refl) (inl (le_of q.y a.y e, lt_of q.y b.y f))
    go true false e f = parted (rw (e, f) refl) (inr (le_of q.y b.y f, lt_of q.y a.y e))

-- ---- a segment

pub data IsKind (s : Segment) (q : Point) : Type 0 where
  east : parts q.y s.a s.b ≡ true → Crosses s (whole q) → ¬ CrossesWest s q → IsKind s q
  here : parts q.y s.a s.b ≡ true → IsOn s (whole q) → ¬ Crosses s (whole q) → ¬ CrossesWest s q → IsKind s q
  west : parts q.y s.a s.b ≡ true → ¬ Crosses s (whole q) → CrossesWest s q → IsKind s q
  neither : parts q.y s.a s.b ≡ false → ¬ Crosses s (whole q) → ¬ CrossesWest s q → IsKind s q

pub kind : (s : Segment) (q : Point) → IsKind s q
kind s q = go (part q s.a s.b)
  where
    go : IsPart q s.a s.b → IsKind s q
    go (parted e h) =
        ⊎_elim (λ c. east e c (λ w. not_both s q c w))
        (λ rest. ⊎_elim (λ on. here e on (not_east s q on) (not_west s q on)) (λ w. west e (λ c. not_both s q c w) w) rest)
        (east_or_west s q h)
    go (level e never) = neither e (λ c. never (parted_by q s.a s.b c.parted)) (λ c. never (parted_by q s.a s.b c.parted))

module _ (chains : List MapChain) (q : Point) (s : ℕ) (at : IsLocated chains s) where
  pub crossed_there : IsCrossed chains q s → Crosses at.segment (whole q)
  crossed_there h =
      let same : HaveSameEnds h.segment at.segment = same_ends chains s h.c h.k at.c at.k h.segment at.segment h.number h.joins at.number at.joins in
      record {
        parted = rw (sym same.first, sym same.last) h.crosses.parted;
        place = h.crosses.place;
        on_segment = on_same h.segment at.segment h.crosses.place same h.crosses.on_segment;
        to_the_east = h.crosses.to_the_east;
      }

  pub crossed_back : Crosses at.segment (whole q) → IsCrossed chains q s
  crossed_back h = record { c = at.c; k = at.k; segment = at.segment; number = at.number; joins = at.joins; crosses = h }

  pub west_there : IsCrossedWest chains q s → CrossesWest at.segment q
  west_there h =
      let same : HaveSameEnds h.segment at.segment = same_ends chains s h.c h.k at.c at.k h.segment at.segment h.number h.joins at.number at.joins in
      record {
        parted = rw (sym same.first, sym same.last) h.crosses.parted;
        place = h.crosses.place;
        on_segment = on_same h.segment at.segment h.crosses.place same h.crosses.on_segment;
        to_the_west = h.crosses.to_the_west;
      }

  pub west_back : CrossesWest at.segment q → IsCrossedWest chains q s
  west_back h = record { c = at.c; k = at.k; segment = at.segment; number = at.number; joins = at.joins; crosses = h }

  pub flanks_are : flanks_at chains s ≡ flanks_between at.segment.a at.segment.b at.number.chain.left at.number.chain.right
  flanks_are = by_points chains s at.c at.k at.segment.a at.segment.b at.number at.from at.to

-- ---- it is told of each segment whether it is crossed

module _ (chains : List MapChain) (proper : AreProper chains) (q : Point) (s : ℕ) (lt : s < segments_before chains (length chains)) where
  pub is_crossed : IsCrossed chains q s ⊎ (¬ IsCrossed chains q s)
  is_crossed = go (located chains proper s lt)
    where
      go : IsLocated chains s → IsCrossed chains q s ⊎ (¬ IsCrossed chains q s)
      go at = by (kind at.segment q)
        where
          by : IsKind at.segment q → IsCrossed chains q s ⊎ (¬ IsCrossed chains q s)
          by (east e c never) = inl (crossed_back chains q s at c)
          by (here e on never w) = inr (λ h. never (crossed_there chains q s at h))
          by (west e never w) = inr (λ h. never (crossed_there chains q s at h))
          by (neither e never w) = inr (λ h. never (crossed_there chains q s at h))

  pub is_crossed_west : IsCrossedWest chains q s ⊎ (¬ IsCrossedWest chains q s)
  is_crossed_west = go (located chains proper s lt)
    where
      go : IsLocated chains s → IsCrossedWest chains q s ⊎ (¬ IsCrossedWest chains q s)
      go at = by (kind at.segment q)
        where
          by : IsKind at.segment q → IsCrossedWest chains q s ⊎ (¬ IsCrossedWest chains q s)
          by (east e c never) = inr (λ h. never (west_there chains q s at h))
          by (here e on c never) = inr (λ h. never (west_there chains q s at h))
          by (west e c w) = inl (west_back chains q s at w)
          by (neither e c never) = inr (λ h. never (west_there chains q s at h))
