-- A side counts nothing at a point outside of the box of its boundary.
use Rattle.std.proofs.Common.{◌≡◌, ◌≢◌, ◌⊎◌, ◌↔◌, inl, inr, ⊎_elim, ℕ, ◌+◌, ◌*◌, ◌<◌, ℤ, pos, ◌*ℤ◌, ◌<ℤ◌, Bool, true, false, cond, Some, List, length, map, count_by, Contains, refl, sym, ap, ◌∙◌, arith}
use Rattle.std.specs.Prelude.{slice_get, int_lt}
use Rattle.std.proofs.lemmas.Bool.{false≢true}
use Rattle.std.proofs.lemmas.Int.{ints}
use Rattle.std.proofs.lemmas.Option.{slice_get_within, get_or_from_slice_get}
use Rattle.tl_geom.specs.declared.point.Point.{Point}
use Rattle.tl_geom.specs.Plane.{whole}
use Rattle.tl_geom.specs.Ray.{Crosses}
use Rattle.tl_geom.proofs.AtPoints.{parted_by}
use Rattle.tl_map_county.specs.declared.sides.Side.{Side}
use Rattle.tl_map_county.specs.TheMap.{MapChain}
use Rattle.tl_map_county.specs.Segments.{segments_before}
use Rattle.tl_tree_index.specs.Hits.{times}
use Rattle.tl_check_sides.specs.Sides.{SidesAgree}
use Rattle.tl_check_inside.specs.declared.flanks.Flanks.{Flanks}
use Rattle.tl_check_inside.specs.Inside.{flanks_at, flanks_between, balance, AreCrossed, IsCount}
use Rattle.tl_check_faces.specs.Crossings.Heights.{parts, crossed_at}
use Rattle.tl_check_faces.specs.Crossings.Headings.{AreProper, HeadApart}
use Rattle.tl_check_faces.specs.Crossings.Boxes.{IsOnBoundary, IsEastOf, IsSouthOf, IsNorthOf, IsOutsideOfBox}
use Rattle.tl_check_faces.proofs.CrossingsLemmas.Sums.{sum_below, sum_same, sum_both}
use Rattle.tl_check_faces.proofs.CrossingsLemmas.Telescoping.{bit, near_count, far_count}
use Rattle.tl_check_faces.proofs.CrossingsLemmas.Cancelling.{near_is_far}
use Rattle.tl_check_faces.proofs.CrossingsLemmas.AtHeight.{all_east, crosses_no_east, one_times}
use Rattle.tl_check_faces.proofs.CrossingsLemmas.Located.{IsLocated, located}
use Rattle.tl_check_faces.proofs.CrossingsLemmas.Listing.{crossed_count, listed_count}
use Rattle.tl_check_faces.proofs.CrossingsLemmas.Crossing.{IsKind, east, here, west, neither, kind, crossed_there, crossed_back, flanks_are}
use Rattle.tl_check_faces.proofs.CrossingsLemmas.Rays.{value, value_is, value_parted, value_level, east_list}

alike_or : (a b : Bool) → (a ≡ b) ⊎ (a ≢ b)
alike_or true true = inl refl
alike_or false false = inl refl
alike_or true false = inr (λ e. false≢true (sym e))
alike_or false true = inr false≢true

pub contained : (points : List Point) (k : ℕ) (p : Point) → slice_get points k ≡ Some p → Contains points p
contained points k p is = (k, slice_get_within points k p is, get_or_from_slice_get points k p p is)

module _ (chains : List MapChain) (S : Side → Bool) (s : ℕ) (at : IsLocated chains s) where
  -- where the sides are alike, so are the flanks
  flanks_alike : S at.number.chain.left ≡ S at.number.chain.right → S (flanks_at chains s).near ≡ S (flanks_at chains s).far
  flanks_alike same = rw (flanks_are chains at.segment.a s at) (go (int_lt at.segment.a.y at.segment.b.y) refl)
    where
      go : (b : Bool) → int_lt at.segment.a.y at.segment.b.y ≡ b → S (flanks_between at.segment.a at.segment.b at.number.chain.left at.number.chain.right).near ≡ S (flanks_between at.segment.a at.segment.b at.number.chain.left at.number.chain.right).far
      go true e = rw e same
      go false e = rw e (sym same)

  first_bounds : S at.number.chain.left ≢ S at.number.chain.right → IsOnBoundary chains S at.segment.a
  first_bounds ne = record { c = at.c; chain = at.number.chain; is = at.number.is; bounds = ne; holds = contained at.number.chain.points at.k at.segment.a at.from }

  last_bounds : S at.number.chain.left ≢ S at.number.chain.right → IsOnBoundary chains S at.segment.b
  last_bounds ne = record { c = at.c; chain = at.number.chain; is = at.number.is; bounds = ne; holds = contained at.number.chain.points (at.k + 1) at.segment.b at.to }

-- ---- one segment

abbrev near_of : (Side → Bool) → Flanks → Bool
near_of S f = S f.near

abbrev far_of : (Side → Bool) → Flanks → Bool
far_of S f = S f.far

-- it counts alike near and far, or the ray doesn't cross it
same_products : (e : ℕ) (a b : Bool) → a ≡ b → e * bit a ≡ e * bit b
same_products e a b same = ap (λ t. e * bit t) same

no_products : (e : ℕ) (a b : Bool) → e ≡ 0 → e * bit a ≡ e * bit b
no_products e a b none = rw none (omega arith)

-- what the height counts goes over to what the ray counts
both_alike : (e t u : ℕ) (a b : Bool) → a ≡ b → t ≡ u → e * bit a + u ≡ e * bit b + t
both_alike e t u a b same h = rw (same, h) refl

both_crossed : (e t u : ℕ) (a b : Bool) → e ≡ 1 → t ≡ bit a → u ≡ bit b → e * bit a + u ≡ e * bit b + t
both_crossed e t u a b one h k = rw (one, h, k) (omega arith)

both_none : (e t u : ℕ) (a b : Bool) → e ≡ 0 → t ≡ 0 → u ≡ 0 → e * bit a + u ≡ e * bit b + t
both_none e t u a b none h k = rw (none, h, k) (omega arith)

module _ (chains : List MapChain) (proper : AreProper chains) (q : Point) (S : Side → Bool) (crossed : List ℕ) (are : AreCrossed chains q crossed) where
  near_total : count_by (λ f. S f.near) (map (flanks_at chains) crossed) ≡ sum_below (λ s. times s crossed * bit (S (flanks_at chains s).near)) (segments_before chains (length chains))
  near_total = listed_count (segments_before chains (length chains)) (λ f. S f.near) (flanks_at chains) crossed are.known

  far_total : count_by (λ f. S f.far) (map (flanks_at chains) crossed) ≡ sum_below (λ s. times s crossed * bit (S (flanks_at chains s).far)) (segments_before chains (length chains))
  far_total = listed_count (segments_before chains (length chains)) (λ f. S f.far) (flanks_at chains) crossed are.known

  -- ---- the ray crosses no segment of the boundary

  missed : ((s : ℕ) (at : IsLocated chains s) → S at.number.chain.left ≢ S at.number.chain.right → ¬ Crosses at.segment (whole q)) → balance S (map (flanks_at chains) crossed) ≡ pos 0
  missed clear =
      let same = sum_same (λ s. times s crossed * bit (S (flanks_at chains s).near)) (λ s. times s crossed * bit (S (flanks_at chains s).far)) (segments_before chains (length chains)) (λ s lt. each s lt (located chains proper s lt)) in
      let near = near_total in
      let far = far_total in
      omega (arith, ints, same, near, far)
    where
      each : (s : ℕ) → s < segments_before chains (length chains) → IsLocated chains s → times s crossed * bit (S (flanks_at chains s).near) ≡ times s crossed * bit (S (flanks_at chains s).far)
      each s lt at =
          ⊎_elim
          (λ same. same_products (times s crossed) (S (flanks_at chains s).near) (S (flanks_at chains s).far) (flanks_alike chains S s at same))
          (λ ne. no_products (times s crossed) (S (flanks_at chains s).near) (S (flanks_at chains s).far) (are.others s (λ h. clear s at ne (crossed_there chains q s at h))))
          (alike_or (S at.number.chain.left) (S at.number.chain.right))

  -- ---- the ray crosses each segment of the boundary that crosses the height

  module _ (apart : HeadApart chains) (agree : SidesAgree chains) (east_of : (s : ℕ) (at : IsLocated chains s) → S at.number.chain.left ≢ S at.number.chain.right → (q.x <ℤ at.segment.a.x) × (q.x <ℤ at.segment.b.x)) where
    met : (s : ℕ) → s < segments_before chains (length chains) → (at : IsLocated chains s) → S at.number.chain.left ≢ S at.number.chain.right →
        times s crossed * bit (S (flanks_at chains s).near) + value (λ f. S f.far) chains q s ≡ times s crossed * bit (S (flanks_at chains s).far) + value (λ f. S f.near) chains q s
    met s lt at ne = by (kind at.segment q)
      where
        ends : (q.x <ℤ at.segment.a.x) × (q.x <ℤ at.segment.b.x)
        ends = east_of s at ne

        by : IsKind at.segment q → times s crossed * bit (S (flanks_at chains s).near) + value (λ f. S f.far) chains q s ≡ times s crossed * bit (S (flanks_at chains s).far) + value (λ f. S f.near) chains q s
        by (east e c not_west) =
            both_crossed (times s crossed) (value (λ f. S f.near) chains q s) (value (λ f. S f.far) chains q s) (S (flanks_at chains s).near) (S (flanks_at chains s).far)
            (are.once s lt (crossed_back chains q s at c)) (value_parted (λ f. S f.near) chains q s at e) (value_parted (λ f. S f.far) chains q s at e)
        by (here e on not_east not_west) =
            absurd (let past : (pos 1 *ℤ q.x) <ℤ q.x = all_east at.segment q (whole q) ends.0 ends.1 on in let one = one_times q.x in omega (arith, ints, past, one))
        by (west e not_east w) =
            absurd (let past = all_east at.segment q w.place ends.0 ends.1 w.on_segment in let far = w.to_the_west.past in omega (arith, ints, past, far))
        by (neither e not_east not_west) =
            both_none (times s crossed) (value (λ f. S f.near) chains q s) (value (λ f. S f.far) chains q s) (S (flanks_at chains s).near) (S (flanks_at chains s).far)
            (are.others s (λ h. not_east (crossed_there chains q s at h))) (value_level (λ f. S f.near) chains q s at e) (value_level (λ f. S f.far) chains q s at e)

    alike : (s : ℕ) (at : IsLocated chains s) → S at.number.chain.left ≡ S at.number.chain.right →
        times s crossed * bit (S (flanks_at chains s).near) + value (λ f. S f.far) chains q s ≡ times s crossed * bit (S (flanks_at chains s).far) + value (λ f. S f.near) chains q s
    alike s at same = both_alike (times s crossed) (value (λ f. S f.near) chains q s) (value (λ f. S f.far) chains q s) (S (flanks_at chains s).near) (S (flanks_at chains s).far) flanks values
      where
        flanks : S (flanks_at chains s).near ≡ S (flanks_at chains s).far
        flanks = flanks_alike chains S s at same

        values : value (λ f. S f.near) chains q s ≡ value (λ f. S f.far) chains q s
        values =
            value_is (λ f. S f.near) chains q s at ∙ ap (λ b. cond (parts q.y at.segment.a at.segment.b) (bit b) 0) flanks ∙ sym (value_is (λ f. S f.far) chains q s at)

    all_met : balance S (map (flanks_at chains) crossed) ≡ pos 0
    unfolding near_count far_count
    all_met =
        let n : ℕ = segments_before chains (length chains) in
        let same = sum_same
        (λ s. times s crossed * bit (S (flanks_at chains s).near) + value (λ f. S f.far) chains q s)
        (λ s. times s crossed * bit (S (flanks_at chains s).far) + value (λ f. S f.near) chains q s) n
        (λ s lt. let at : IsLocated chains s = located chains proper s lt in
        ⊎_elim (λ same. alike s at same) (λ ne. met s lt at ne) (alike_or (S at.number.chain.left) (S at.number.chain.right))) in
        let one = sum_both (λ s. times s crossed * bit (S (flanks_at chains s).near)) (value (λ f. S f.far) chains q) n in
        let other = sum_both (λ s. times s crossed * bit (S (flanks_at chains s).far)) (value (λ f. S f.near) chains q) n in
        let near = near_total in
        let far = far_total in
        let near_all = crossed_count q.y (λ f. S f.near) chains in
        let far_all = crossed_count q.y (λ f. S f.far) chains in
        let all = as_often in
        omega (arith, ints, same, one, other, near, far, near_all, far_all, all)
      where
        as_often : count_by (λ f. S f.near) (crossed_at q.y chains) ≡ count_by (λ f. S f.far) (crossed_at q.y chains)
        as_often = near_is_far chains proper apart agree q.y S

-- ---- a point outside of the box

module _ (chains : List MapChain) (q : Point) (S : Side → Bool) (proper : AreProper chains) (apart : HeadApart chains) (agree : SidesAgree chains) where
  -- a segment of the boundary isn't crossed from east, south or north of the box
  no_crossing : IsEastOf (IsOnBoundary chains S) q ⊎ IsSouthOf (IsOnBoundary chains S) q ⊎ IsNorthOf (IsOnBoundary chains S) q → (s : ℕ) (at : IsLocated chains s) → S at.number.chain.left ≢ S at.number.chain.right → ¬ Crosses at.segment (whole q)
  no_crossing (inl of_east) s at ne crosses =
      crosses_no_east at.segment q (of_east at.segment.a (first_bounds chains S s at ne)) (of_east at.segment.b (last_bounds chains S s at ne)) crosses
  no_crossing (inr (inl of_south)) s at ne crosses =
      let a = of_south at.segment.a (first_bounds chains S s at ne) in
      let b = of_south at.segment.b (last_bounds chains S s at ne) in
      ⊎_elim (λ up. omega (arith, ints, up.0, a)) (λ down. omega (arith, ints, down.0, b)) (parted_by q at.segment.a at.segment.b crosses.parted)
  no_crossing (inr (inr of_north)) s at ne crosses =
      let a = of_north at.segment.a (first_bounds chains S s at ne) in
      let b = of_north at.segment.b (last_bounds chains S s at ne) in
      ⊎_elim (λ up. omega (arith, ints, up.1, b)) (λ down. omega (arith, ints, down.1, a)) (parted_by q at.segment.a at.segment.b crosses.parted)

  zero : IsOutsideOfBox (IsOnBoundary chains S) q → (crossed : List ℕ) → AreCrossed chains q crossed → balance S (map (flanks_at chains) crossed) ≡ pos 0
  zero outside crossed are =
      ⊎_elim
      (λ of_west. all_met chains proper q S crossed are apart agree (λ s at ne. (of_west at.segment.a (first_bounds chains S s at ne), of_west at.segment.b (last_bounds chains S s at ne))))
      (λ rest. missed chains proper q S crossed are (no_crossing rest))
      outside

  -- its count is 0, and no other number
  pub counts_nothing : (n : ℤ) → IsOutsideOfBox (IsOnBoundary chains S) q → IsCount chains q S n ↔ (n ≡ pos 0)
  counts_nothing n outside = (
    λ c. c.counted ∙ zero outside c.crossed c.are,
    λ none.
        let e = east_list chains proper q in
        record { crossed = e.0; are = e.1; counted = none ∙ sym (zero outside e.0 e.1) },
  )
