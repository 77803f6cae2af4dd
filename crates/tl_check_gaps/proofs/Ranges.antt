-- What follows from the range of longitudes.
use Rattle.std.proofs.Common.{◌≡◌, ⊎_elim, Bool, true, false, ℕ, ◌+◌, ◌≤◌, ◌<ℤ◌, Some, List, length, get_or, subst, arith}
use Rattle.std.specs.Prelude.{int_lt, slice_get, if◌then◌else◌}
use Rattle.std.proofs.lemmas.Bool.{cases_order}
use Rattle.std.proofs.lemmas.Option.{slice_get_within, get_or_from_slice_get}
use Rattle.tl_geom.specs.declared.point.Point.{Point}
use Rattle.tl_geom.specs.declared.segment.Segment.{Segment}
use Rattle.tl_map_county.specs.TheMap.{MapChain}
use Rattle.tl_check_planar.specs.Keeping.Apart.{one_found}
use Rattle.tl_check_planar.specs.ByHeight.Heights.{height, widest, AreNear, low_end, high_end}
use Rattle.tl_check_planar.proofs.ByHeight.Rising.{ends_of}
use Rattle.tl_check_faces.specs.Lists.{AreAllNear}
use Rattle.tl_check_active.specs.Ranges.{IsInRange}
use Rattle.tl_check_active.proofs.Wide.{near_by_range}
use Rattle.tl_check_gaps.specs.Keeping.Ranges.{ArePointsInRange, AreFirstInRange, AreChainsInRange}

-- one more point
pub one_more : (points : List Point) (i : ℕ) (d : Point) → IsInRange (get_or points i d) → AreFirstInRange points i → AreFirstInRange points (i + 1)
one_more points i d here so_far k p lt e =
    ⊎_elim
    (λ (same : k ≡ i). subst IsInRange (get_or_from_slice_get points i p d (subst (λ n. slice_get points n ≡ Some p) same e)) here)
    (λ w. ⊎_elim (λ less. so_far k p less e) (λ more. absurd (omega (arith, more, lt))) w)
    (cases_order k i)

pub all_points : (points : List Point) (i : ℕ) → length points ≤ i → AreFirstInRange points i → ArePointsInRange points
all_points points i le so_far k p e = let lt = slice_get_within points k p e in so_far k p (omega (arith, lt, le)) e

-- one more chain
pub one_chain_more : (chains : List MapChain) (i : ℕ) (chain : MapChain) → slice_get chains i ≡ Some chain → ArePointsInRange chain.points →
    AreChainsInRange chains i → AreChainsInRange chains (i + 1)
one_chain_more chains i chain is here so_far c other lt e =
    ⊎_elim
    (λ (same : c ≡ i). subst (λ (x : MapChain). ArePointsInRange x.points)
    (one_found chain other (slice_get chains i) is (subst (λ n. slice_get chains n ≡ Some other) same e)) here)
    (λ w. ⊎_elim (λ less. so_far c other less e) (λ more. absurd (omega (arith, more, lt))) w)
    (cases_order c i)

pub all_near : (chains : List MapChain) (i : ℕ) → length chains ≤ i → AreChainsInRange chains i → AreAllNear widest chains
all_near chains i le so_far c k d j p q one other =
    let lt = slice_get_within chains c one.chain one.is in
    let lt' = slice_get_within chains d other.chain other.is in
    near_by_range p q (so_far c one.chain (omega (arith, lt, le)) one.is k p one.point) (so_far d other.chain (omega (arith, lt', le)) other.is j q other.point)

-- a segment rises from its low end to its high end
near_ends : (u : Segment) (t : Bool) → IsInRange (if t then u.a else u.b) → IsInRange (if t then u.b else u.a) → AreNear widest u.a u.b
near_ends u true r r' = near_by_range u.a u.b r r'
near_ends u false r r' = near_by_range u.a u.b r' r

pub rising : (u : Segment) (low high : Point) → low ≡ low_end widest u → high ≡ high_end widest u → IsInRange low → IsInRange high →
    height widest low <ℤ height widest high
rising u low high e f r r' =
    let near : AreNear widest u.a u.b = near_ends u (int_lt (height widest u.a) (height widest u.b)) (subst IsInRange e r) (subst IsInRange f r') in
    rw (e, f) (ends_of widest u near).rising
