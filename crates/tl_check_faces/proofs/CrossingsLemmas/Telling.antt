-- What places list, told by the ray to the west, and at points outside of the box of all chains.
use Rattle.std.proofs.Common.{◌≡◌, inl, inr, ⊎_elim, ℕ, ℤ, pos, List, [], ◌∷◌, length, refl, arith}
use Rattle.tl_geom.specs.declared.point.Point.{Point}
use Rattle.tl_map_county.specs.TheMap.{TheMap}
use Rattle.tl_check_sides.specs.Sides.{SidesAgree}
use Rattle.tl_check_inside.specs.declared.place.Place.{Place}
use Rattle.tl_check_inside.specs.declared.place.Place.TheVariants.{OnChain, In}
use Rattle.tl_check_inside.specs.Inside.{is_polygon, is_among, IsPolygonCount}
use Rattle.tl_check_inside.specs.Places.{IsPlaceOf, AreCounted, IsCountOf}
use Rattle.tl_check_faces.specs.Crossings.Headings.{AreProper, HeadApart}
use Rattle.tl_check_faces.specs.Crossings.Boxes.{IsOfChains, IsOutsideOfBox}
use Rattle.tl_check_faces.specs.Crossings.West.{IsWestPolygonCount, IsWestCountOf}
use Rattle.tl_check_faces.specs.Crossings.Told.{ListsByWest, IsNowhere}
use Rattle.tl_check_faces.proofs.CrossingsLemmas.Boxed.{counts_nothing}
use Rattle.tl_check_faces.proofs.CrossingsLemmas.Boxes.{of_all, off_all}
use Rattle.tl_check_faces.proofs.CrossingsLemmas.Rays.{east_is_west}

-- what is counted by one count is counted by another that says the same
counted_by : (n : ℕ) (counts others : ℕ → ℤ → Type 0) (listed : List ℕ) → ((p : ℕ) (z : ℤ) → counts p z → others p z) → AreCounted n counts listed → AreCounted n others listed
counted_by n counts others listed same are = record {
  rising = are.rising;
  each = λ k d lt. let h = are.each k d lt in (h.0, (h.1.0, same _ h.1.0 h.1.1, h.1.2));
  others = λ p lt. ⊎_elim (λ has. inl has) (λ none. inr (same p (pos 0) none)) (are.others p lt);
}

none_counted : (n : ℕ) (counts : ℕ → ℤ → Type 0) (listed : List ℕ) → ((p : ℕ) (z : ℤ) → counts p z → z ≡ pos 0) → AreCounted n counts listed → listed ≡ []
none_counted n counts [] zero are = refl
none_counted n counts (p ∷ listed) zero are = absurd (let h = are.each 0 p (omega arith) in h.1.2 (zero p h.1.0 h.1.1))

module _ (m : TheMap) (proper : AreProper m.chains) (apart : HeadApart m.chains) (agree : SidesAgree m.chains) (q : Point) where
  pub told : (place : Place) → IsPlaceOf m q place → ListsByWest m q place
  told (OnChain c) is = tt
  told (In polygons landmarks) is = (
    counted_by (length m.polygons) (IsPolygonCount m.chains q) (IsWestPolygonCount m.chains q) polygons.items
        (λ p z. (east_is_west m.chains q (is_polygon p) z proper apart agree is.0).0) is.1,
    counted_by (length m.landmarks) (IsCountOf m q) (IsWestCountOf m q) landmarks.items
        (λ l z c. record { landmark = c.landmark; is = c.is; count = (east_is_west m.chains q (is_among c.landmark.polygons) z proper apart agree is.0).0 c.count }) is.2,
  )

  pub nowhere : IsOutsideOfBox (IsOfChains m.chains) q → (place : Place) → IsPlaceOf m q place → IsNowhere place
  nowhere outside (OnChain c) is = off_all m.chains q c outside is.held
  nowhere outside (In polygons landmarks) is = (
    none_counted (length m.polygons) (IsPolygonCount m.chains q) polygons.items
        (λ p z. (counts_nothing m.chains q (is_polygon p) proper apart agree z (of_all m.chains (is_polygon p) q outside)).0) is.1,
    none_counted (length m.landmarks) (IsCountOf m q) landmarks.items
        (λ l z c. (counts_nothing m.chains q (is_among c.landmark.polygons) proper apart agree z (of_all m.chains (is_among c.landmark.polygons) q outside)).0 c.count) is.2,
  )
