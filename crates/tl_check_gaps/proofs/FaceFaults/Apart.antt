-- No two faults of all gaps are equal.
use Rattle.std.proofs.Common.{◌≡◌, ◌≢◌, ⊎_elim, ℕ, zero, suc, ◌<◌, Option, None, Some, List, [], ◌∷◌, length, get_or, refl, sym, ap, subst, ◌∙◌, arith}
use Rattle.std.specs.List.{AllZip, AllPairs}
use Rattle.std.proofs.lemmas.Bool.{cases_order}
use Rattle.tl_geom.specs.declared.rational.Rational.{Rational}
use Rattle.tl_geom.specs.declared.segment.Segment.{Segment}
use Rattle.tl_map_county.specs.TheMap.{TheMap, MapChain}
use Rattle.tl_check_planar.specs.Planar.{IsPlanar}
use Rattle.tl_check_planar.specs.ByHeight.Heights.{height, widest}
use Rattle.tl_check_planar.specs.ByHeight.Neighbours.{IsNumbered}
use Rattle.tl_check_faces.specs.Facing.{IsStrictlyOn}
use Rattle.tl_check_faces.specs.Lists.{AreAllNear}
use Rattle.tl_check_faces.specs.Odd.{IsOddGap}
use Rattle.tl_check_faces.specs.declared.odd.OddGap.{OddGap}
use Rattle.tl_check_faces.specs.declared.fault.Way.{Way}
use Rattle.tl_check_faces.specs.declared.fault.Way.TheVariants.{West, East}
use Rattle.tl_check_faces.specs.declared.fault.FaceFault.{FaceFault}
use Rattle.tl_check_faces.specs.declared.fault.FaceFault.TheVariants.{Facing, Outward}
use Rattle.tl_check_faces.specs.Faults.{IsOfBothSides, IsFaultBetween}
use Rattle.tl_check_faces.proofs.Alone.{alone}
use Rattle.tl_check_planar.specs.Listing.Orders.{IsPairBefore}
use Rattle.tl_check_faces.specs.AllFaults.{WestAndEast, AreAllFaceFaults, order_of}
use Rattle.tl_check_gaps.proofs.Lowest.{not_before_itself}
use Rattle.tl_check_gaps.proofs.FaceFaults.Told.{within_both, within_western, within_eastern}
use Rattle.tl_check_gaps.proofs.FaceFaults.Along.{height_there, gap_at, to_gap}

-- the place lies strictly within segment s
pub record IsWithin (chains : List MapChain) (s : ℕ) (at : Rational) : Type 0 where
  pub segment : Segment
  pub is : IsNumbered chains s segment
  pub on : IsStrictlyOn segment at

one_number : (chains : List MapChain) → IsPlanar chains → (s t : ℕ) (at : Rational) → IsWithin chains s at → IsWithin chains t at → s ≡ t
one_number chains planar s t at one other =
    ⊎_elim (λ e. e)
    (λ differ. absurd (alone chains planar s t one.segment other.segment at one.is other.is one.on
    (λ e. ⊎_elim (λ lt. omega (arith, lt, e)) (λ gt. omega (arith, gt, e)) differ) other.on.on))
    (cases_order s t)

-- the places of a fault lie within the segments of a gap
abbrev pub AreWithin : List MapChain → (west east : Option ℕ) → FaceFault → Type 0
AreWithin chains (Some s) (Some t) (Facing first last) = IsWithin chains s first.at × IsWithin chains t last.at
AreWithin chains (Some s) (Some t) (Outward face way) = ⊥
AreWithin chains (Some s) None (Facing first last) = ⊥
AreWithin chains (Some s) None (Outward face way) = IsWithin chains s face.at × (way ≡ East)
AreWithin chains None (Some t) (Facing first last) = ⊥
AreWithin chains None (Some t) (Outward face way) = IsWithin chains t face.at × (way ≡ West)
AreWithin chains None None fault = ⊥

module _ (chains : List MapChain) (planar : IsPlanar chains) where
  other_way : (way : Way) → way ≡ East → way ≡ West → ⊥
  other_way way e f = let k : East ≡ West = sym e ∙ f in cc

  one_gap : (w e w' e' : Option ℕ) (fault : FaceFault) → AreWithin chains w e fault → AreWithin chains w' e' fault → (w ≡ w') × (e ≡ e')
  one_gap (Some s) (Some t) (Some s') (Some t') (Facing first last) a b =
      (ap Some (one_number chains planar s s' first.at a.0 b.0), ap Some (one_number chains planar t t' last.at a.1 b.1))
  one_gap (Some s) (Some t) (Some s') None (Facing first last) a b = absurd b
  one_gap (Some s) (Some t) None (Some t') (Facing first last) a b = absurd b
  one_gap (Some s) (Some t) None None (Facing first last) a b = absurd b
  one_gap (Some s) (Some t) w' e' (Outward face way) a b = absurd a
  one_gap (Some s) None w' e' (Facing first last) a b = absurd a
  one_gap (Some s) None (Some s') (Some t') (Outward face way) a b = absurd b
  one_gap (Some s) None (Some s') None (Outward face way) a b = (ap Some (one_number chains planar s s' face.at a.0 b.0), refl)
  one_gap (Some s) None None (Some t') (Outward face way) a b = absurd (other_way way a.1 b.1)
  one_gap (Some s) None None None (Outward face way) a b = absurd b
  one_gap None (Some t) w' e' (Facing first last) a b = absurd a
  one_gap None (Some t) (Some s') (Some t') (Outward face way) a b = absurd b
  one_gap None (Some t) (Some s') None (Outward face way) a b = absurd (other_way way b.1 a.1)
  one_gap None (Some t) None (Some t') (Outward face way) a b = (refl, ap Some (one_number chains planar t t' face.at a.0 b.0))
  one_gap None (Some t) None None (Outward face way) a b = absurd b
  one_gap None None w' e' fault a b = absurd a

-- the places of a gap's fault lie within its segments
module _ (m : TheMap) (planar : IsPlanar m.chains) (near : AreAllNear widest m.chains) (gap : OddGap) (odd : IsOddGap widest m.chains gap) where
  within_by : (w e : Option ℕ) → gap.west ≡ w → gap.east ≡ e → (fault : FaceFault) → IsOfBothSides widest m (height widest gap.at) w e fault →
      AreWithin m.chains w e fault
  within_by (Some s) (Some t) f g (Facing first last) of =
      let on = within_both m gap odd planar near s t f g first last of.0 of.1 in
      (record { segment = of.0.segment; is = of.0.is; on = on.0 }, record { segment = of.1.segment; is = of.1.is; on = on.1 })
  within_by (Some s) (Some t) f g (Outward face way) of = absurd of
  within_by (Some s) None f g (Facing first last) of = absurd of
  within_by (Some s) None f g (Outward face way) of =
      (record { segment = of.0.segment; is = of.0.is; on = within_western m gap odd planar near s f g face of.0 }, of.1)
  within_by None (Some t) f g (Facing first last) of = absurd of
  within_by None (Some t) f g (Outward face way) of =
      (record { segment = of.0.segment; is = of.0.is; on = within_eastern m gap odd planar near t f g face of.0 }, of.1)
  within_by None None f g fault of = absurd of

  within_gap : (fault : FaceFault) → IsOfBothSides widest m (height widest gap.at) gap.west gap.east fault → AreWithin m.chains gap.west gap.east fault
  within_gap fault of = within_by gap.west gap.east refl refl fault of

pub within_between : (m : TheMap) → IsPlanar m.chains → AreAllNear widest m.chains → (west east : Option ℕ) (fault : FaceFault) →
    IsFaultBetween m west east fault → AreWithin m.chains west east fault
within_between m planar near west east fault of =
    within_gap m planar near (gap_at of.n west east) (to_gap m planar near of.n west east of.differ) fault
    (subst (λ h. IsOfBothSides widest m h west east fault) (sym (height_there of.n)) of.of)

-- ---- lists

module _ {A B : Type 0} (R : A → B → Type 0) where
  pub zipped_length : (xs : List A) (ys : List B) → AllZip R xs ys → length xs ≡ length ys
  zipped_length [] [] each = refl
  zipped_length [] (y ∷ ys) each = absurd each
  zipped_length (x ∷ xs) [] each = absurd each
  zipped_length (x ∷ xs) (y ∷ ys) each = let rest = zipped_length xs ys each.1 in omega (arith, rest)

  pub zipped_at : (xs : List A) (ys : List B) (i : ℕ) (d : A) (e : B) → AllZip R xs ys → i < length ys → R (get_or xs i d) (get_or ys i e)
  zipped_at [] [] i d e each lt = absurd (omega (arith, lt))
  zipped_at [] (y ∷ ys) i d e each lt = absurd each
  zipped_at (x ∷ xs) [] i d e each lt = absurd each
  zipped_at (x ∷ xs) (y ∷ ys) zero d e each lt = each.0
  zipped_at (x ∷ xs) (y ∷ ys) (suc i) d e each lt = zipped_at xs ys i d e each.1 (omega (arith, lt))

no_sides : WestAndEast
no_sides = record { west = None; east = None }

pub all_apart : (m : TheMap) (faults : List FaceFault) → IsPlanar m.chains → AreAllNear widest m.chains → AreAllFaceFaults m faults →
    AllPairs (λ x y. x ≢ y) faults
all_apart m faults planar near all i j d lt within same =
    let long : length all.between ≡ length faults = zipped_length (λ sides fault. IsFaultBetween m sides.west sides.east fault) all.between faults all.each in
    let x : WestAndEast = get_or all.between i no_sides in
    let y : WestAndEast = get_or all.between j no_sides in
    let one : AreWithin m.chains x.west x.east (get_or faults i d) =
    within_between m planar near x.west x.east (get_or faults i d)
    (zipped_at (λ sides fault. IsFaultBetween m sides.west sides.east fault) all.between faults i no_sides d all.each (omega (arith, lt, within))) in
    let other : AreWithin m.chains y.west y.east (get_or faults j d) =
    within_between m planar near y.west y.east (get_or faults j d)
    (zipped_at (λ sides fault. IsFaultBetween m sides.west sides.east fault) all.between faults j no_sides d all.each (omega (arith, within))) in
    let both : (x.west ≡ y.west) × (x.east ≡ y.east) =
    one_gap m.chains planar x.west x.east y.west y.east (get_or faults j d)
    (subst (AreWithin m.chains (get_or all.between i no_sides).west (get_or all.between i no_sides).east) same one) other in
    let before : IsPairBefore (order_of x.west) (order_of x.east) (order_of y.west) (order_of y.east) =
    all.in_order i j no_sides lt (omega (arith, within, long)) in
    not_before_itself (order_of y.west) (order_of y.east)
    (subst (λ w. IsPairBefore (order_of w) (order_of y.east) (order_of y.west) (order_of y.east)) both.0
    (subst (λ e. IsPairBefore (order_of x.west) (order_of e) (order_of y.west) (order_of y.east)) both.1 before))
