-- The count by the ray to the west is the count by the ray to the east.
use Rattle.std.proofs.Common.{◌≡◌, ◌↔◌, ℕ, ◌+◌, ◌*◌, ◌<◌, ℤ, Bool, true, false, cond, List, length, map, get_or, count_by, refl, sym, ap, ◌∙◌, arith}
use Rattle.std.proofs.lemmas.Int.{ints}
use Rattle.tl_geom.specs.declared.point.Point.{Point}
use Rattle.tl_map_county.specs.declared.sides.Side.{Side}
use Rattle.tl_map_county.specs.TheMap.{MapChain}
use Rattle.tl_map_county.specs.Segments.{segments_before}
use Rattle.tl_tree_index.specs.Hits.{times}
use Rattle.tl_check_sides.specs.Sides.{SidesAgree}
use Rattle.tl_check_inside.specs.declared.flanks.Flanks.{Flanks}
use Rattle.tl_check_inside.specs.Inside.{flanks_at, balance, IsCrossed, AreCrossed, IsCount}
use Rattle.tl_check_inside.specs.Places.{IsOffChains}
use Rattle.tl_check_inside.proofs.Counting.{one_count}
use Rattle.tl_check_faces.specs.Crossings.Heights.{parts, crossed_at}
use Rattle.tl_check_faces.specs.Crossings.Headings.{AreProper, HeadApart}
use Rattle.tl_check_faces.specs.Crossings.West.{IsCrossedWest, AreCrossedWest, west_flanks_at, IsWestCount}
use Rattle.tl_check_faces.proofs.CrossingsLemmas.Sums.{sum_same, sum_both}
use Rattle.tl_check_faces.proofs.CrossingsLemmas.Telescoping.{bit, near_count, far_count}
use Rattle.tl_check_faces.proofs.CrossingsLemmas.Cancelling.{near_is_far}
use Rattle.tl_check_faces.proofs.CrossingsLemmas.Located.{IsLocated, located, each_of, each_at}
use Rattle.tl_check_faces.proofs.CrossingsLemmas.Listing.{step, crossed_count, listed_count, all_hits}
use Rattle.tl_check_faces.proofs.CrossingsLemmas.Crossing.{IsKind, east, here, west, neither, kind, crossed_there, crossed_back, west_there, west_back, flanks_are, is_crossed, is_crossed_west}

-- what segment s counts at the height of q
abbrev pub value : (Flanks → Bool) → List MapChain → Point → ℕ → ℕ
value P chains q s = get_or (each_of (step q.y P) chains) s 0

module _ (P : Flanks → Bool) (chains : List MapChain) (q : Point) (s : ℕ) (at : IsLocated chains s) where
  abbrev own : ℕ
  own = bit (P (flanks_at chains s))

  pub value_is : value P chains q s ≡ cond (parts q.y at.segment.a at.segment.b) own 0
  value_is =
      each_at (step q.y P) chains s at ∙ ap (λ f. cond (parts q.y at.segment.a at.segment.b) (bit (P f)) 0) (sym (flanks_are chains q s at))

  pub value_parted : parts q.y at.segment.a at.segment.b ≡ true → value P chains q s ≡ bit (P (flanks_at chains s))
  value_parted e = value_is ∙ ap (λ b. cond b own 0) e

  pub value_level : parts q.y at.segment.a at.segment.b ≡ false → value P chains q s ≡ 0
  value_level e = value_is ∙ ap (λ b. cond b own 0) e

by_first : (t v e w : ℕ) → t ≡ v → e ≡ 1 → w ≡ 0 → t ≡ e * v + w * v
by_first t v e w h k l = rw (k, l) (omega (arith, h))

by_second : (t v e w : ℕ) → t ≡ v → e ≡ 0 → w ≡ 1 → t ≡ e * v + w * v
by_second t v e w h k l = rw (k, l) (omega (arith, h))

by_neither : (t v e w : ℕ) → t ≡ 0 → e ≡ 0 → w ≡ 0 → t ≡ e * v + w * v
by_neither t v e w h k l = rw (k, l) (omega (arith, h))

module _ (chains : List MapChain) (proper : AreProper chains) (q : Point) where
  pub east_list : (found : List ℕ) × AreCrossed chains q found
  east_list = all_hits (IsCrossed chains q) (segments_before chains (length chains)) (λ s lt. is_crossed chains proper q s lt)

  pub west_list : (found : List ℕ) × AreCrossedWest chains q found
  west_list = all_hits (IsCrossedWest chains q) (segments_before chains (length chains)) (λ s lt. is_crossed_west chains proper q s lt)

  module _ (off : IsOffChains chains q) (easts wests : List ℕ) (are : AreCrossed chains q easts) (wes : AreCrossedWest chains q wests) where
    each : (P : Flanks → Bool) (s : ℕ) → s < segments_before chains (length chains) → value P chains q s ≡ times s easts * bit (P (flanks_at chains s)) + times s wests * bit (P (flanks_at chains s))
    each P s lt = go (located chains proper s lt)
      where
        go : IsLocated chains s → value P chains q s ≡ times s easts * bit (P (flanks_at chains s)) + times s wests * bit (P (flanks_at chains s))
        go at = by (kind at.segment q)
          where
            by : IsKind at.segment q → value P chains q s ≡ times s easts * bit (P (flanks_at chains s)) + times s wests * bit (P (flanks_at chains s))
            by (east e c not_west) =
                by_first (value P chains q s) (bit (P (flanks_at chains s))) (times s easts) (times s wests)
                (value_parted P chains q s at e) (are.once s lt (crossed_back chains q s at c)) (wes.others s (λ h. not_west (west_there chains q s at h)))
            by (here e on not_east not_west) =
                absurd (off at.c (record {
                  chain = at.number.chain;
                  is = at.number.is;
                  on = (at.k, record { segment = at.segment; from = at.from; to = at.to; on = on });
                }))
            by (west e not_east w) =
                by_second (value P chains q s) (bit (P (flanks_at chains s))) (times s easts) (times s wests)
                (value_parted P chains q s at e) (are.others s (λ h. not_east (crossed_there chains q s at h))) (wes.once s lt (west_back chains q s at w))
            by (neither e not_east not_west) =
                by_neither (value P chains q s) (bit (P (flanks_at chains s))) (times s easts) (times s wests)
                (value_level P chains q s at e) (are.others s (λ h. not_east (crossed_there chains q s at h))) (wes.others s (λ h. not_west (west_there chains q s at h)))

    -- what the height crosses is what the two rays cross
    split : (P : Flanks → Bool) → count_by P (crossed_at q.y chains) ≡ count_by P (map (flanks_at chains) easts) + count_by P (map (flanks_at chains) wests)
    split P =
        let n : ℕ = segments_before chains (length chains) in
        let v : ℕ → ℕ = λ s. bit (P (flanks_at chains s)) in
        crossed_count q.y P chains
        ∙ sum_same (value P chains q) (λ s. times s easts * bit (P (flanks_at chains s)) + times s wests * bit (P (flanks_at chains s))) (segments_before chains (length chains)) (each P)
        ∙ sum_both (λ s. times s easts * bit (P (flanks_at chains s))) (λ s. times s wests * bit (P (flanks_at chains s))) (segments_before chains (length chains))
        ∙ (λ i. sym (listed_count n P (flanks_at chains) easts are.known) i + sym (listed_count n P (flanks_at chains) wests wes.known) i)

    module _ (apart : HeadApart chains) (agree : SidesAgree chains) (S : Side → Bool) where
      turned_near : count_by (λ f. S f.near) (map (west_flanks_at chains) wests) ≡ count_by (λ f. S f.far) (map (flanks_at chains) wests)
      turned_near =
          let n : ℕ = segments_before chains (length chains) in
          listed_count n (λ f. S f.near) (west_flanks_at chains) wests wes.known ∙ sym (listed_count n (λ f. S f.far) (flanks_at chains) wests wes.known)

      turned_far : count_by (λ f. S f.far) (map (west_flanks_at chains) wests) ≡ count_by (λ f. S f.near) (map (flanks_at chains) wests)
      turned_far =
          let n : ℕ = segments_before chains (length chains) in
          listed_count n (λ f. S f.far) (west_flanks_at chains) wests wes.known ∙ sym (listed_count n (λ f. S f.near) (flanks_at chains) wests wes.known)

      pub balances : balance S (map (flanks_at chains) easts) ≡ balance S (map (west_flanks_at chains) wests)
      unfolding near_count far_count
      balances =
          let all : count_by (λ f. S f.near) (crossed_at q.y chains) ≡ count_by (λ f. S f.far) (crossed_at q.y chains) = as_often in
          let near = split (λ f. S f.near) in
          let far = split (λ f. S f.far) in
          let t = turned_near in
          let u = turned_far in
          omega (arith, ints, all, near, far, t, u)
        where
          as_often : near_count q.y S (crossed_at q.y chains) ≡ far_count q.y S (crossed_at q.y chains)
          as_often = near_is_far chains proper apart agree q.y S

-- any sides have one count
pub counted : (chains : List MapChain) (q : Point) (S : Side → Bool) → AreProper chains → (n : ℤ) × IsCount chains q S n × ((other : ℤ) → IsCount chains q S other → other ≡ n)
counted chains q S proper =
    let e = east_list chains proper q in
    let n : ℤ = balance S (map (flanks_at chains) e.0) in
    let own : IsCount chains q S n = record { crossed = e.0; are = e.1; counted = refl } in
    (n, own, λ other c. one_count chains q S other n c own)

-- by either ray
pub east_is_west : (chains : List MapChain) (q : Point) (S : Side → Bool) (n : ℤ) → AreProper chains → HeadApart chains → SidesAgree chains → IsOffChains chains q → IsCount chains q S n ↔ IsWestCount chains q S n
east_is_west chains q S n proper apart agree off = (
  λ c.
      let w = west_list chains proper q in
      record { crossed = w.0; are = w.1; counted = c.counted ∙ balances chains proper q off c.crossed w.0 c.are w.1 apart agree S },
  λ c.
      let e = east_list chains proper q in
      record { crossed = e.0; are = e.1; counted = c.counted ∙ sym (balances chains proper q off e.0 c.crossed e.1 c.are apart agree S) },
)
