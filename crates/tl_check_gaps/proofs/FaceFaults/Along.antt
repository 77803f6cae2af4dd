-- What stands on both sides of a gap where sides differ does so along a line of one height, and the other way round.
use Rattle.std.proofs.Common.{◌≡◌, ◌≢◌, ℕ, ℤ, pos, ◌-ℤ◌, ◌≤ℤ◌, Option, None, Some, List, [], ◌∷◌, ◌++◌, length, get_or, map, refl, sym, ap, subst, ◌∙◌, arith}
use Rattle.std.specs.List.{AllZip}
use Rattle.std.proofs.lemmas.Int.{ints}
use Rattle.std.proofs.lemmas.List.{get_or-map, length-map}
use mathlib.Core.List.{append_assoc}
use Rattle.tl_geom.specs.declared.point.Point.{Point}
use Rattle.tl_geom.proofs.Polynomials.{num, ◌⊖◌, ◌⊗◌, same}
use Rattle.tl_map_county.specs.declared.sides.Side.TheVariants.{Outside}
use Rattle.tl_map_county.specs.TheMap.{TheMap}
use Rattle.tl_check_planar.specs.Planar.{IsPlanar}
use Rattle.tl_check_planar.specs.ByHeight.Heights.{height, widest}
use Rattle.tl_check_planar.specs.ByHeight.Slabs.{IsListOf}
use Rattle.tl_check_planar.specs.Listing.Orders.{IsPairBefore}
use Rattle.tl_check_faces.specs.Lists.{west_side, east_side, AreAllNear}
use Rattle.tl_check_faces.specs.Level.{DifferFacing, DiffersEastward, DiffersWestward, DifferAlong}
use Rattle.tl_check_faces.specs.Odd.{IsOddGap, IsLowestOddGap}
use Rattle.tl_check_faces.specs.AllFaults.{WestAndEast, AreAllFaceFaults, order_of}
use Rattle.tl_check_faces.specs.Faults.{IsOfBothSides, IsFaultBetween}
use Rattle.tl_check_faces.specs.declared.odd.OddGap.{OddGap}
use Rattle.tl_check_faces.specs.declared.fault.FaceFault.{FaceFault}
use Rattle.tl_check_faces.proofs.Midway.{some_midway, inside, one_height, own_near, neighbours_midway, westward_midway, first_midway, last_midway}
use Rattle.tl_check_faces.proofs.Neighbours.{above_zero}
use Rattle.tl_check_faces.proofs.ToNeighbours as facing
use Rattle.tl_check_faces.proofs.ToSlabs.{lists}
use Rattle.tl_check_gaps.specs.Gaps.{AreAllOddGaps}
use Rattle.tl_check_gaps.proofs.Lowest.{at_odds}
use Rattle.tl_check_gaps.proofs.Splits.{last_behind}
use Rattle.tl_check_gaps.proofs.FaceFaults.Told.{last_split, last_none, first_split, first_none, list_of, names_east, names_west, west_outside, east_outside, some_side}

-- a point at any height
pub point_at : ℤ → Point
point_at n = record { x = pos 0 -ℤ n; y = pos 0 }

pub height_there : (n : ℤ) → height widest (point_at n) ≡ n
unfolding point_at
height_there n = same (num widest ⊗ num (pos 0) ⊖ (num (pos 0) ⊖ num n)) (num n) (omega arith)

-- the gap between these in the slab above height n
abbrev pub gap_at : ℤ → (west east : Option ℕ) → OddGap
gap_at n west east = record { at = point_at n; west = west; east = east }

module _ (m : TheMap) (planar : IsPlanar m.chains) (near : AreAllNear widest m.chains) where
  -- ---- from a gap

  module _ (gap : OddGap) (odd : IsOddGap widest m.chains gap) where
    abbrev n : ℤ
    n = height widest gap.at

    both : (s t : ℕ) → gap.west ≡ Some s → gap.east ≡ Some t → DifferFacing widest n m.chains s t
    both s t e f =
        let front = last_split odd.front s (sym odd.is_west ∙ e) in
        let back = first_split odd.back t (sym odd.is_east ∙ f) in
        let listed : IsListOf widest n m.chains (front.0 ++ (s ∷ (t ∷ back.0))) =
        subst (λ l. IsListOf widest n m.chains l) (append_assoc front.0 (s ∷ []) (t ∷ back.0))
        (list_of m gap odd (front.0 ++ (s ∷ [])) (t ∷ back.0) front.1 back.1) in
        let one = names_east m gap odd s e in
        let other = names_west m gap odd t f in
        let one_near = own_near widest n m.chains near planar s one.segment one.is in
        let other_near = own_near widest n m.chains near planar t other.segment other.is in
        let p = some_midway widest n one.segment one_near in
        let q = some_midway widest n other.segment other_near in
        let differ : east_side widest one.is.joins.chain one.segment ≢ west_side widest other.is.joins.chain other.segment =
        (λ k. odd.differ (one.names ∙ k ∙ sym other.names)) in
        let told = neighbours_midway widest n m.chains near planar front.0 back.0 s one.segment one.is p.0 p.1 t other.segment other.is q.0 q.1 listed
        differ in
        let west = westward_midway widest n m.chains near planar front.0 back.0 s one.segment one.is p.0 p.1 t other.segment other.is q.0 q.1 listed in
        record {
          u = one.segment;
          w = other.segment;
          western = one.is;
          eastern = other.is;
          p = p.0;
          q = q.0;
          on_west = told.on_first.on;
          on_east = told.on_last.on;
          within = inside widest n one.segment one_near p.0 p.1;
          level = one_height widest n one.segment other.segment one_near other_near p.0 q.0 p.1 q.1;
          eastward = omega (arith, ints, west);
          clear = told.clear;
          differ = differ;
        }

    eastward : (s : ℕ) → gap.west ≡ Some s → gap.east ≡ None → DiffersEastward widest n m.chains s
    eastward s e f =
        let front = last_split odd.front s (sym odd.is_west ∙ e) in
        let none : odd.back ≡ [] = first_none odd.back (sym odd.is_east ∙ f) in
        let listed : IsListOf widest n m.chains (front.0 ++ (s ∷ [])) =
        subst (λ l. IsListOf widest n m.chains l) (append_assoc front.0 (s ∷ []) []) (list_of m gap odd (front.0 ++ (s ∷ [])) [] front.1 none) in
        let one = names_east m gap odd s e in
        let one_near = own_near widest n m.chains near planar s one.segment one.is in
        let p = some_midway widest n one.segment one_near in
        let differs : east_side widest one.is.joins.chain one.segment ≢ Outside = (λ k. odd.differ (one.names ∙ k ∙ sym (east_outside m gap odd f))) in
        let told = last_midway widest n m.chains near planar front.0 [] s one.segment one.is p.0 p.1 listed differs in
        record {
          u = one.segment;
          is = one.is;
          p = p.0;
          on = told.on.on;
          within = inside widest n one.segment one_near p.0 p.1;
          clear = told.clear;
          differs = differs;
        }

    westward : (t : ℕ) → gap.west ≡ None → gap.east ≡ Some t → DiffersWestward widest n m.chains t
    westward t e f =
        let none : odd.front ≡ [] = last_none odd.front (sym odd.is_west ∙ e) in
        let back = first_split odd.back t (sym odd.is_east ∙ f) in
        let one = names_west m gap odd t f in
        let one_near = own_near widest n m.chains near planar t one.segment one.is in
        let p = some_midway widest n one.segment one_near in
        let differs : west_side widest one.is.joins.chain one.segment ≢ Outside = (λ k. odd.differ (west_outside m gap odd e ∙ sym k ∙ sym one.names)) in
        let told = first_midway widest n m.chains near planar [] back.0 t one.segment one.is p.0 p.1 (list_of m gap odd [] (t ∷ back.0) none back.1)
        differs in
        record {
          u = one.segment;
          is = one.is;
          p = p.0;
          on = told.on.on;
          within = inside widest n one.segment one_near p.0 p.1;
          clear = told.clear;
          differs = differs;
        }

    along_by : (west east : Option ℕ) → gap.west ≡ west → gap.east ≡ east → DifferAlong widest n m.chains west east
    along_by (Some s) (Some t) e f = both s t e f
    along_by (Some s) None e f = eastward s e f
    along_by None (Some t) e f = westward t e f
    along_by None None e f = absurd (some_side m gap odd e f)

    pub along : DifferAlong widest n m.chains gap.west gap.east
    along = along_by gap.west gap.east refl refl

  -- ---- and to one

  module _ (n : ℤ) where
    there : (list : List ℕ) → IsListOf widest n m.chains list → IsListOf widest (height widest (point_at n)) m.chains list
    there list of = subst (λ h. IsListOf widest h m.chains list) (sym (height_there n)) of

    pub to_gap : (west east : Option ℕ) → DifferAlong widest n m.chains west east → IsOddGap widest m.chains (gap_at n west east)
    to_gap (Some s) (Some t) d =
        let list = lists widest m.chains (above_zero widest m.chains near s d.u d.western) near planar n in
        let found = facing.neighbours widest n m.chains list.0 near planar list.1 s d.u d.western d.p d.on_west d.within t d.w d.eastern d.q d.on_east
        d.level d.eastward d.clear in
        record {
          front = found.0 ++ (s ∷ []);
          back = t ∷ found.1;
          listed =
              there _
              (subst (λ l. IsListOf widest n m.chains l) (found.2 ∙ sym (append_assoc found.0 (s ∷ []) (t ∷ found.1))) list.1);
          is_west = sym (last_behind found.0 s []);
          is_east = refl;
          west = east_side widest d.western.joins.chain d.u;
          east = west_side widest d.eastern.joins.chain d.w;
          named_west = record { segment = d.u; is = d.western; names = refl };
          named_east = record { segment = d.w; is = d.eastern; names = refl };
          differ = d.differ;
        }
    to_gap (Some s) None d =
        let list = lists widest m.chains (above_zero widest m.chains near s d.u d.is) near planar n in
        let found = facing.last widest n m.chains list.0 near planar list.1 s d.u d.is d.p d.on d.within d.clear in
        record {
          front = found.0 ++ (s ∷ []);
          back = [];
          listed =
              there _
              (subst (λ l. IsListOf widest n m.chains l) (found.1 ∙ sym (append_assoc found.0 (s ∷ []) [])) list.1);
          is_west = sym (last_behind found.0 s []);
          is_east = refl;
          west = east_side widest d.is.joins.chain d.u;
          east = _;
          named_west = record { segment = d.u; is = d.is; names = refl };
          named_east = refl;
          differ = d.differs;
        }
    to_gap None (Some t) d =
        let list = lists widest m.chains (above_zero widest m.chains near t d.u d.is) near planar n in
        let found = facing.first widest n m.chains list.0 near planar list.1 t d.u d.is d.p d.on d.within d.clear in
        record {
          front = [];
          back = t ∷ found.0;
          listed = there _ (subst (λ l. IsListOf widest n m.chains l) found.1 list.1);
          is_west = refl;
          is_east = refl;
          west = _;
          east = west_side widest d.is.joins.chain d.u;
          named_west = refl;
          named_east = record { segment = d.u; is = d.is; names = refl };
          differ = λ k. d.differs (sym k);
        }
    to_gap None None d = absurd d

  -- ---- faults

  -- the fault of the lowest gap between two
  pub of_lowest : (gap : OddGap) (fault : FaceFault) → IsLowestOddGap widest m.chains gap →
      IsOfBothSides widest m (height widest gap.at) gap.west gap.east fault → IsFaultBetween m gap.west gap.east fault
  of_lowest gap fault low of = record {
    n = height widest gap.at;
    differ = along gap low.is;
    lowest = λ k d.
        subst (λ h. height widest gap.at ≤ℤ h) (height_there k) (low.lowest (gap_at k gap.west gap.east) (to_gap k gap.west gap.east d) refl refl);
    of = of;
  }

  -- all faults, of all gaps
  abbrev sides_of : OddGap → WestAndEast
  sides_of gap = record { west = gap.west; east = gap.east }

  zipped : (gaps : List OddGap) (faults : List FaceFault) → AllZip (λ gap fault. IsFaultBetween m gap.west gap.east fault) gaps faults →
      AllZip (λ sides fault. IsFaultBetween m sides.west sides.east fault) (map sides_of gaps) faults
  zipped [] [] each = each
  zipped [] (fault ∷ faults) each = absurd each
  zipped (gap ∷ gaps) [] each = absurd each
  zipped (gap ∷ gaps) (fault ∷ faults) each = (each.0, zipped gaps faults each.1)

  pub all_faults : (gaps : List OddGap) (faults : List FaceFault) → AreAllOddGaps widest m.chains gaps →
      AllZip (λ gap fault. IsFaultBetween m gap.west gap.east fault) gaps faults → AreAllFaceFaults m faults
  all_faults gaps faults all each = record {
    between = map sides_of gaps;
    each = zipped gaps faults each;
    complete = λ n sides d.
        let gap : OddGap = gap_at n sides.west sides.east in
        let odd : IsOddGap widest m.chains gap = to_gap n sides.west sides.east d in
        let told = all.complete (height widest gap.at) odd.front odd.back odd.listed (at_odds widest m.chains gap odd) in
        let lt = told.2 in
        let west : told.1.west ≡ sides.west = told.4.0 ∙ sym odd.is_west in
        let east : told.1.east ≡ sides.east = told.4.1 ∙ sym odd.is_east in
        let long : length (map sides_of gaps) ≡ length gaps = length-map gaps sides_of in
        let there : get_or (map sides_of gaps) told.0 sides ≡ sides_of told.1 =
        get_or-map sides_of gaps told.0 told.1 sides told.2 ∙ ap sides_of told.3 in
        (told.0, omega (arith, lt, long), there ∙ (λ i. record { west = west i; east = east i }));
    in_order = λ i j d less within.
        let long : length (map sides_of gaps) ≡ length gaps = length-map gaps sides_of in
        let one : get_or (map sides_of gaps) i d ≡ sides_of (get_or gaps i some_gap) =
        get_or-map sides_of gaps i some_gap d (omega (arith, less, within, long)) in
        let other : get_or (map sides_of gaps) j d ≡ sides_of (get_or gaps j some_gap) =
        get_or-map sides_of gaps j some_gap d (omega (arith, within, long)) in
        subst (λ (x : WestAndEast).
        IsPairBefore (order_of x.west) (order_of x.east) (order_of (get_or (map sides_of gaps) j d).west) (order_of (get_or (map sides_of gaps) j d).east))
        (sym one)
        (subst (λ (y : WestAndEast).
        IsPairBefore (order_of (get_or gaps i some_gap).west) (order_of (get_or gaps i some_gap).east) (order_of y.west) (order_of y.east)) (sym other)
        (all.in_order i j some_gap less (omega (arith, within, long))));
  }
    where
      some_gap : OddGap
      some_gap = record { at = record { x = pos 0; y = pos 0 }; west = None; east = None }
