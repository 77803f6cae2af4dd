-- Of what stands on both sides there is one fault; so all that are true are among all.
use Rattle.std.proofs.Common.{◌≡◌, ℕ, ℤ, pos, ◌+ℤ◌, ◌-ℤ◌, ◌*ℤ◌, ◌≤ℤ◌, Option, None, Some, List, get_or, sym, ap, subst, ◌∙◌, arith}
use Rattle.std.specs.Prelude.{int_lt, if◌then◌else◌}
use Rattle.std.specs.List.{Contains}
use Rattle.std.proofs.lemmas.Int.{ints}
use Rattle.tl_geom.specs.declared.rational.Rational.{Rational}
use Rattle.tl_geom.specs.declared.segment.Segment.{Segment}
use Rattle.tl_geom.specs.Plane.{IsSame}
use Rattle.tl_geom.proofs.Places.{same_sym, same_trans}
use Rattle.tl_map_county.specs.declared.sides.Side.{Side}
use Rattle.tl_map_county.specs.TheMap.{TheMap, MapChain}
use Rattle.tl_check_planar.proofs.Numbering.{HaveSameEnds}
use Rattle.tl_check_planar.specs.ByHeight.Heights.{height, widest, low_end, high_end}
use Rattle.tl_check_planar.proofs.ByHeight.Numbered.{one_segment}
use Rattle.tl_check_faces.specs.Disagreements.{IsMidway}
use Rattle.tl_check_faces.specs.AllFaults.{WestAndEast, AreAllFaceFaults}
use Rattle.tl_check_faces.specs.declared.fault.NamedFace.{NamedFace}
use Rattle.tl_check_faces.specs.declared.fault.FaceFault.{FaceFault}
use Rattle.tl_check_faces.specs.declared.fault.FaceFault.TheVariants.{Facing, Outward}
use Rattle.tl_check_faces.specs.Faults.{side_key, IsNamed, IsTrueFaceFault, IsLowestMidway, IsWestFace, IsEastFace, IsOfBothSides, IsFaultBetween}
use Rattle.tl_check_gaps.proofs.Sides.{one_chain_of, one_west, one_east}
use Rattle.tl_check_gaps.proofs.FaceFaults.Apart.{zipped_length, zipped_at}
use Rattle.tl_check_gaps.proofs.FaceFaults.Lowest.{one_way}

-- ---- one place midway

module _ (n : ℤ) (u w : Segment) (ends : HaveSameEnds u w) where
  low : low_end widest u ≡ low_end widest w
  low = λ i. if int_lt (height widest (ends.first i)) (height widest (ends.last i)) then ends.first i else ends.last i

  high : high_end widest u ≡ high_end widest w
  high = λ i. if int_lt (height widest (ends.first i)) (height widest (ends.last i)) then ends.last i else ends.first i

  module _ (p q : Rational) (one : IsMidway widest n u p) (other : IsMidway widest n w q) where
    same_d : p.d ≡ q.d
    same_d = one.d ∙ (λ i. pos 2 *ℤ (height widest (high i) -ℤ height widest (low i))) ∙ sym other.d

    same_x : p.x ≡ q.x
    same_x =
        one.x
        ∙ (λ i. same_d i *ℤ (low i).x +ℤ (pos 2 *ℤ n +ℤ pos 1 -ℤ pos 2 *ℤ height widest (low i)) *ℤ ((high i).x -ℤ (low i).x))
        ∙ sym other.x

    same_y : p.y ≡ q.y
    same_y =
        one.y
        ∙ (λ i. same_d i *ℤ (low i).y +ℤ (pos 2 *ℤ n +ℤ pos 1 -ℤ pos 2 *ℤ height widest (low i)) *ℤ ((high i).y -ℤ (low i).y))
        ∙ sym other.y

    back_d : q.d ≡ p.d
    back_d = sym same_d

    one_place : IsSame p q
    one_place = record { x = λ i. same_x i *ℤ back_d i; y = λ i. same_y i *ℤ back_d i }

  one_lowest : (p q : Rational) → IsLowestMidway widest n u p → IsLowestMidway widest n w q → p ≡ q
  one_lowest p q one other =
      one_way p q
      (same_trans p one.place q one.lowest.same
      (same_trans one.place other.place q (one_place one.place other.place one.midway other.midway) (same_sym q other.place other.lowest.same)))
      one.lowest.lowest other.lowest.lowest

-- ---- one fault

named_once : (m : TheMap) (chain chain' : MapChain) (side side' : Side) (face face' : NamedFace) → chain ≡ chain' → side ≡ side' →
    IsNamed m chain side face → IsNamed m chain' side' face' → face.at ≡ face'.at → face ≡ face'
named_once m chain chain' side side' face face' one_chain one_side one other at =
    let tlid : face.tlid ≡ face'.tlid = one.tlid ∙ ap (λ (c : MapChain). c.tlid) one_chain ∙ sym other.tlid in
    let polygon : face.polygon ≡ face'.polygon = one.polygon ∙ ap (side_key m.polygons) one_side ∙ sym other.polygon in
    λ i. record { tlid = tlid i; polygon = polygon i; at = at i }

module _ (m : TheMap) (n : ℤ) where
  one_east_face : (s : ℕ) (face face' : NamedFace) → IsEastFace widest m n s face → IsEastFace widest m n s face' → face ≡ face'
  one_east_face s face face' one other =
      named_once m one.is.joins.chain other.is.joins.chain _ _ face face'
      (one_chain_of m.chains s one.segment other.segment one.is other.is)
      (one_east m.chains s one.segment other.segment one.is other.is) one.named other.named
      (one_lowest n one.segment other.segment (one_segment m.chains s one.segment other.segment one.is other.is) face.at face'.at one.midway other.midway)

  one_west_face : (s : ℕ) (face face' : NamedFace) → IsWestFace widest m n s face → IsWestFace widest m n s face' → face ≡ face'
  one_west_face s face face' one other =
      named_once m one.is.joins.chain other.is.joins.chain _ _ face face'
      (one_chain_of m.chains s one.segment other.segment one.is other.is)
      (one_west m.chains s one.segment other.segment one.is other.is) one.named other.named
      (one_lowest n one.segment other.segment (one_segment m.chains s one.segment other.segment one.is other.is) face.at face'.at one.midway other.midway)

  one_between : (w e : Option ℕ) (fault fault' : FaceFault) → IsOfBothSides widest m n w e fault → IsOfBothSides widest m n w e fault' → fault ≡ fault'
  one_between (Some s) (Some t) (Facing first last) (Facing first' last') a b =
      let p : first ≡ first' = one_east_face s first first' a.0 b.0 in
      let q : last ≡ last' = one_west_face t last last' a.1 b.1 in
      λ i. Facing (p i) (q i)
  one_between (Some s) (Some t) (Facing first last) (Outward face way) a b = absurd b
  one_between (Some s) (Some t) (Outward face way) fault' a b = absurd a
  one_between (Some s) None (Facing first last) fault' a b = absurd a
  one_between (Some s) None (Outward face way) (Facing first last) a b = absurd b
  one_between (Some s) None (Outward face way) (Outward face' way') a b =
      let p : face ≡ face' = one_east_face s face face' a.0 b.0 in
      let q : way ≡ way' = a.1 ∙ sym b.1 in
      λ i. Outward (p i) (q i)
  one_between None (Some t) (Facing first last) fault' a b = absurd a
  one_between None (Some t) (Outward face way) (Facing first last) a b = absurd b
  one_between None (Some t) (Outward face way) (Outward face' way') a b =
      let p : face ≡ face' = one_west_face t face face' a.0 b.0 in
      let q : way ≡ way' = a.1 ∙ sym b.1 in
      λ i. Outward (p i) (q i)
  one_between None None fault fault' a b = absurd a

-- of what stands on both sides
pub one_fault : (m : TheMap) (west east west' east' : Option ℕ) (fault fault' : FaceFault) → west ≡ west' → east ≡ east' →
    IsFaultBetween m west east fault → IsFaultBetween m west' east' fault' → fault ≡ fault'
one_fault m west east west' east' fault fault' e f one other =
    let moved : IsFaultBetween m west' east' fault =
    subst (λ w. IsFaultBetween m w east' fault) e (subst (λ o. IsFaultBetween m west o fault) f one) in
    let up : moved.n ≤ℤ other.n = moved.lowest other.n other.differ in
    let down : other.n ≤ℤ moved.n = other.lowest moved.n moved.differ in
    let level : moved.n ≡ other.n = omega (arith, ints, up, down) in
    one_between m other.n west' east' fault fault' (subst (λ n. IsOfBothSides widest m n west' east' fault) level moved.of) other.of

-- ---- all that are true

pub told : (m : TheMap) (faults : List FaceFault) → AreAllFaceFaults m faults → (fault : FaceFault) → IsTrueFaceFault m fault → Contains faults fault
told m faults all fault true =
    let sides : WestAndEast = record { west = true.west; east = true.east } in
    let found = all.complete true.between.n sides true.between.differ in
    let lt = found.1 in
    let long = zipped_length (λ sides fault. IsFaultBetween m sides.west sides.east fault) all.between faults all.each in
    let of : IsFaultBetween m (get_or all.between found.0 sides).west (get_or all.between found.0 sides).east (get_or faults found.0 fault) =
    zipped_at (λ sides fault. IsFaultBetween m sides.west sides.east fault) all.between faults found.0 sides fault all.each (omega (arith, lt, long)) in (
      found.0,
      omega (arith, lt, long),
      one_fault m (get_or all.between found.0 sides).west (get_or all.between found.0 sides).east true.west true.east (get_or faults found.0 fault) fault
          (ap (λ (s : WestAndEast). s.west) found.2) (ap (λ (s : WestAndEast). s.east) found.2) of true.between,
    )
