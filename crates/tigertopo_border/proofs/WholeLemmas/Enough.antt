-- A joined map is sound with true faces exactly where its parts are, and its border.
use Rattle.std.proofs.Common.{◌≡◌, ◌↔◌, ℕ, ◌<◌, Some, List, [], length, get_or, slice_get, refl, sym, ap, subst, ◌∙◌}
use Rattle.std.proofs.lemmas.Option.{slice_get-get_or, slice_get_within}
use Rattle.tl_geom.specs.Plane.{whole}
use Rattle.tl_map_county.specs.declared.polygons.Polygon as polygons
use Rattle.tl_map_county.specs.declared.sides.Side.TheVariants.{Outside, Polygon}
use Rattle.tl_map_county.specs.TheMap.{TheMap}
use Rattle.tl_check_planar.specs.Keeping.Apart.{one_found}
use Rattle.tl_check_inside.specs.Placed.{ArePlaced, IsPlacedIn}
use Rattle.tl_check_faces.specs.Crossings.Headings.{AreProper}
use Rattle.tl_check_faces.specs.Facing.{IsOff}
use Rattle.tl_check_faces.specs.Truth.{LiesAt}
use Rattle.tl_check_faces.proofs.CrossingsLemmas.Apart.{apart}
use Rattle.tigertopo_border.specs.Whole.Told.{AreTold}
use Rattle.tigertopo_border.specs.Whole.Homes.{Homes, own, tells, name, is_border}
use Rattle.tigertopo_border.specs.Whole.Joined.{IsJoined, IsBorder, IsPolygonOf, IsFromPart, IsPointOfPart}
use Rattle.tigertopo_border.specs.Whole.Sound.{IsSoundWithFaces}
use Rattle.tigertopo_border.proofs.WholeLemmas.Told.{proper, off}
use Rattle.tigertopo_border.proofs.WholeLemmas.Closed.{all_closed}
use Rattle.tigertopo_border.proofs.WholeLemmas.Lies.{AreGood, counts_of}
use Rattle.tigertopo_border.proofs.WholeLemmas.Names.{own_there, passed, inner_names}
use Rattle.tigertopo_border.proofs.WholeLemmas.Fitting.{AreParts}
use Rattle.tigertopo_border.proofs.WholeLemmas.Good.{joined_good, part_good, border_good}
use Rattle.tigertopo_border.proofs.WholeLemmas.Parting.{named_lies}
use Rattle.tigertopo_border.proofs.WholeLemmas.Placing.{placed_by, off_there, lies_there, joined_off, joined_lies}

-- chains of a sound map with true faces, and the other way with its points
pub good_of : (m : TheMap) → AreProper m.chains → IsSoundWithFaces m → AreGood m.chains
good_of m some sound = record { proper = some; planar = sound.planar; agree = sound.sides; truth = sound.faces }

pub sound_by : (m : TheMap) → AreGood m.chains → ArePlaced m → IsSoundWithFaces m
sound_by m good placed = record {
  planar = good.planar;
  sides = good.agree;
  polygons = λ p lt. all_closed m.chains good.proper (apart m.chains good.planar good.proper) good.agree (Polygon p);
  outside = all_closed m.chains good.proper (apart m.chains good.planar good.proper) good.agree Outside;
  points = placed;
  faces = good.truth;
}

module _ (homes : Homes) (parts : List TheMap) (joined border : TheMap) (is_joined : IsJoined homes parts joined) (is_border_of : IsBorder homes joined border)
    (some : AreProper joined.chains) where
  -- ---- from the parts

  module _ (sound : (k : ℕ) (part : TheMap) → slice_get parts k ≡ Some part → IsSoundWithFaces part) (border_sound : IsSoundWithFaces border) where
    no_map : TheMap
    no_map = record { chains = []; polygons = []; landmarks = []; skipped = 0 }

    at : ℕ → TheMap
    at k = get_or parts k no_map

    at_is : (k : ℕ) → k < length parts → slice_get parts k ≡ Some (at k)
    unfolding at
    at_is k lt = slice_get-get_or parts k no_map lt

    told_at : (k : ℕ) (lt : k < length parts) → AreTold (own homes k) (tells homes k) joined.chains (at k).chains
    told_at k lt = is_joined.each k (at k) (at_is k lt)

    are_parts : AreParts homes (length parts) joined.chains border.chains
    are_parts = record {
      proper = some;
      known = is_joined.told;
      part = λ k lt. (at k).chains;
      told = told_at;
      good = λ k lt. good_of (at k) (proper (own homes k) (tells homes k) joined.chains (at k).chains (told_at k lt) some) (sound k (at k) (at_is k lt));
      border_told = is_border_of.chains;
      border_good = good_of border (proper (name homes) (is_border homes) joined.chains border.chains is_border_of.chains some) border_sound;
    }

    placed : ArePlaced joined
    unfolding are_parts
    placed p polygon is = go (is_joined.no_other p polygon is)
      where
        go : IsFromPart homes parts p polygon → IsPlacedIn joined polygon.point p
        go f =
            let lt : homes.part p < length parts = slice_get_within parts (homes.part p) f.part f.is in
            let same : f.part ≡ at (homes.part p) = one_found f.part (at (homes.part p)) (slice_get parts (homes.part p)) f.is (at_is (homes.part p) lt) in
            let there : IsPlacedIn (at (homes.part p)) polygon.point (homes.number p) =
            (sound (homes.part p) (at (homes.part p)) (at_is (homes.part p) lt)).points (homes.number p) polygon
            (subst (λ (z : TheMap). slice_get z.polygons (homes.number p) ≡ Some polygon) same f.polygon_is) in
            let clear : IsOff (at (homes.part p)).chains (whole polygon.point) = off_there (at (homes.part p)) polygon.point (homes.number p) there in
            let lies : LiesAt (at (homes.part p)).chains (whole polygon.point) (Polygon (homes.number p)) =
            lies_there (at (homes.part p)) polygon.point (homes.number p) there (are_parts.good (homes.part p) lt) in
            placed_by joined polygon.point p
            (joined_off homes is_joined.apart (length parts) joined.chains border.chains are_parts (whole polygon.point) p lt clear lies)
            (joined_lies homes is_joined.apart (length parts) joined.chains border.chains are_parts (whole polygon.point) p lt clear lies)

    joined_sound : IsSoundWithFaces joined
    joined_sound = sound_by joined (joined_good homes is_joined.apart (length parts) joined.chains border.chains are_parts) placed

  -- ---- to the parts

  module _ (sound : IsSoundWithFaces joined) where
    good : AreGood joined.chains
    good = good_of joined some sound

    part_sound : (k : ℕ) (part : TheMap) → slice_get parts k ≡ Some part → IsSoundWithFaces part
    part_sound k part is = sound_by part (part_good homes k joined.chains part.chains told good) placed_there
      where
        told : AreTold (own homes k) (tells homes k) joined.chains part.chains
        told = is_joined.each k part is

        by_place : (p : ℕ) (polygon : polygons.Polygon) → IsPolygonOf homes joined k p polygon → IsPlacedIn part polygon.point p
        by_place p polygon f =
            let there : IsPlacedIn joined polygon.point f.place = sound.points f.place polygon f.is in
            let clear : IsOff joined.chains (whole polygon.point) = off_there joined polygon.point f.place there in
            let lies : LiesAt joined.chains (whole polygon.point) (Polygon f.place) = lies_there joined polygon.point f.place there good in
            placed_by part polygon.point p
            (off (own homes k) (tells homes k) joined.chains part.chains told (whole polygon.point) clear)
            (subst (LiesAt part.chains (whole polygon.point)) (own_there homes k f.place f.part ∙ ap Polygon f.number)
            (named_lies (own homes k) (tells homes k) refl (λ c e. passed homes k c e) joined.chains part.chains told good (whole polygon.point) (Polygon f.place)
            (counts_of joined.chains good (whole polygon.point) clear (Polygon f.place) lies)))

        placed_there : ArePlaced part
        placed_there p polygon at = by_place p polygon (is_joined.known k p part polygon is at)

    border_sound_too : IsSoundWithFaces border
    border_sound_too = sound_by border (border_good homes joined.chains border.chains is_border_of.chains good) placed_there
      where
        by_place : (k : ℕ) (polygon : polygons.Polygon) → IsPointOfPart homes joined k polygon → IsPlacedIn border polygon.point k
        by_place k polygon f =
            let there : IsPlacedIn joined f.other.point f.place = sound.points f.place f.other f.is in
            let clear : IsOff joined.chains (whole f.other.point) = off_there joined f.other.point f.place there in
            let lies : LiesAt joined.chains (whole f.other.point) (Polygon f.place) = lies_there joined f.other.point f.place there good in
            subst (λ z. IsPlacedIn border z k) (sym f.point)
            (placed_by border f.other.point k
            (off (name homes) (is_border homes) joined.chains border.chains is_border_of.chains (whole f.other.point) clear)
            (subst (LiesAt border.chains (whole f.other.point)) (ap Polygon f.part)
            (named_lies (name homes) (is_border homes) refl (λ c e. inner_names homes c e) joined.chains border.chains is_border_of.chains good (whole f.other.point) (Polygon f.place)
            (counts_of joined.chains good (whole f.other.point) clear (Polygon f.place) lies))))

        placed_there : ArePlaced border
        placed_there k polygon at = by_place k polygon (is_border_of.points k polygon at)

  pub parts_are_enough : IsSoundWithFaces joined ↔ (((k : ℕ) (part : TheMap) → slice_get parts k ≡ Some part → IsSoundWithFaces part) × IsSoundWithFaces border)
  parts_are_enough = (λ sound. (part_sound sound, border_sound_too sound), λ two. joined_sound two.0 two.1)
