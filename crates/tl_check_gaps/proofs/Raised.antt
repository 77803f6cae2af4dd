-- The sides of segments by their heights: the flanks of segments of raised chains.
use Rattle.std.proofs.Common.{◌≡◌, inl, inr, ℕ, zero, suc, ◌+◌, ◌-◌, Bool, true, false, if◌then◌else◌, Some, List, [], ◌∷◌, length, map, take, refl, sym, ap, subst, ◌∙◌, arith}
use Rattle.std.specs.Prelude.{int_lt, slice_get, option_map}
use Rattle.std.proofs.lemmas.List.{length-map}
use Rattle.std.proofs.lemmas.List.Sums.{sum_by-cons}
use Rattle.std.proofs.lemmas.Option.{slice_get-map}
use Rattle.tl_geom.specs.declared.point.Point.{Point}
use Rattle.tl_geom.specs.declared.segment.Segment.{Segment}
use Rattle.tl_map_county.specs.declared.sides.Side.{Side}
use Rattle.tl_map_county.specs.TheMap.{MapChain, IsChain}
use Rattle.tl_map_county.specs.Segments.{segments_before, IsSegmentOf, Joins}
use Rattle.tl_check_planar.proofs.Numbering.{one_chain}
use Rattle.tl_check_planar.specs.Keeping.Apart.{one_found}
use Rattle.tl_check_inside.specs.declared.flanks.Flanks.{Flanks}
use Rattle.tl_check_inside.specs.Inside.{flanks_at}
use Rattle.tl_check_inside.proofs.Sides.{by_points}
use Rattle.tl_check_planar.specs.ByHeight.Heights.{height, widest, AreNear}
use Rattle.tl_check_planar.specs.ByHeight.Neighbours.{IsNumbered}
use Rattle.tl_check_faces.specs.Lists.{sides_by_height, RunsWest}
use Rattle.tl_check_faces.proofs.Flanks.{are_sides}
use Rattle.tl_check_planar.proofs.ByHeight.Walking.{IsIn}
use Rattle.tl_check_gaps.specs.Beside.{AreFacing, seen_side}
use Rattle.tl_check_gaps.specs.Keeping.Facing.{raised, raised_chain, raised_point}

same_before : (chains : List MapChain) (c : ℕ) → segments_before (raised chains) c ≡ segments_before chains c
same_before chains zero = refl
same_before [] (suc c) = refl
same_before (x ∷ chains) (suc c) =
    let rest = same_before chains c in
    let one = sum_by-cons (λ (z : MapChain). length z.points - 1) x (take c chains) in
    let raised_one = sum_by-cons (λ (z : MapChain). length z.points - 1) (raised_chain x) (take c (raised chains)) in
    let long : length (map raised_point x.points) ≡ length x.points = length-map x.points raised_point in
    omega (arith, rest, one, raised_one, long)

raised_number : (chains : List MapChain) (s c k : ℕ) → IsSegmentOf chains s c k → IsSegmentOf (raised chains) s c k
raised_number chains s c k n = record {
  chain = raised_chain n.chain;
  is = slice_get-map raised_chain chains c ∙ ap (option_map raised_chain) n.is;
  place = let lt = n.place in let long : length (map raised_point n.chain.points) ≡ length n.chain.points =
      length-map n.chain.points raised_point in omega (arith, lt, long);
  number = n.number ∙ ap (λ b. b + k) (sym (same_before chains c));
}

abbrev flanks_if : (left right : Side) → Bool → Flanks
flanks_if left right t = if t then record { near = left; far = right } else record { near = right; far = left }

alike : (left right : Side) (t : Bool) → flanks_if left right t ≡ record { near = if t then left else right; far = if t then right else left }
alike left right true = refl
alike left right false = refl

by_heights : (chains : List MapChain) (s c k : ℕ) (p q : Point) (number : IsSegmentOf chains s c k) → slice_get number.chain.points k ≡ Some p →
    slice_get number.chain.points (k + 1) ≡ Some q →
    flanks_at (raised chains) s ≡ flanks_if number.chain.left number.chain.right (int_lt (height widest p) (height widest q))
unfolding raised_number
by_heights chains s c k p q number e f =
    by_points (raised chains) s c k (raised_point p) (raised_point q) (raised_number chains s c k number)
    (slice_get-map raised_point number.chain.points k ∙ ap (option_map raised_point) e)
    (slice_get-map raised_point number.chain.points (k + 1) ∙ ap (option_map raised_point) f)

-- ---- what is told of a segment and of the chain that it is one of

module _ (chains : List MapChain) (s c k d j tlid : ℕ) (segment : Segment) (points : List Point) (left right : Side) (first last : Point)
    (number : IsSegmentOf chains s c k) (joins : Joins chains c k segment) (of : IsSegmentOf chains s d j)
    (told : IsChain (slice_get chains d) tlid points left right) (a : first ≡ segment.a) (b : last ≡ segment.b) where
  by_chain : flanks_at (raised chains) s ≡ flanks_if left right (int_lt (height widest first) (height widest last))
  by_chain =
      let one : number.chain ≡ joins.chain = one_found number.chain joins.chain (slice_get chains c) number.is joins.is in
      let other : number.chain ≡ told.chain =
      one_found number.chain told.chain (slice_get chains c) number.is (ap (λ n. slice_get chains n) (one_chain chains s c k d j number of) ∙ told.is) in
      by_heights chains s c k segment.a segment.b number (ap (λ (z : MapChain). slice_get z.points k) one ∙ joins.from)
      (ap (λ (z : MapChain). slice_get z.points (k + 1)) one ∙ joins.to)
      ∙ (λ i. flanks_if ((ap (λ (z : MapChain). z.left) other ∙ sym told.left_is) i) ((ap (λ (z : MapChain). z.right) other ∙ sym told.right_is) i)
      (int_lt (height widest (sym a i)) (height widest (sym b i))))

  pub rising : int_lt (height widest first) (height widest last) ≡ true → record { near = left; far = right } ≡ flanks_at (raised chains) s
  rising up = sym (by_chain ∙ ap (flanks_if left right) up)

  pub falling : int_lt (height widest first) (height widest last) ≡ false → record { near = right; far = left } ≡ flanks_at (raised chains) s
  falling down = sym (by_chain ∙ ap (flanks_if left right) down)

-- ---- a segment by its number

pub sides_are : (chains : List MapChain) (s : ℕ) (u : Segment) (n : IsNumbered chains s u) →
    flanks_at (raised chains) s ≡ sides_by_height widest n.joins.chain u
sides_are chains s u n =
    let same : n.joins.chain ≡ n.number.chain = one_found n.joins.chain n.number.chain (slice_get chains n.c) n.joins.is n.number.is in
    by_heights chains s n.c n.k u.a u.b n.number
    (subst (λ (z : MapChain). slice_get z.points n.k ≡ Some u.a) same n.joins.from)
    (subst (λ (z : MapChain). slice_get z.points (n.k + 1) ≡ Some u.b) same n.joins.to)
    ∙ ap (λ (z : MapChain). flanks_if z.left z.right (int_lt (height widest u.a) (height widest u.b))) (sym same)
    ∙ alike n.joins.chain.left n.joins.chain.right (int_lt (height widest u.a) (height widest u.b))

pub same_flanks : (chains : List MapChain) (s : ℕ) (u : Segment) → IsNumbered chains s u → AreNear widest u.a u.b → ¬ RunsWest u →
    flanks_at (raised chains) s ≡ flanks_at chains s
same_flanks chains s u n near not_west = sides_are chains s u n ∙ sym (are_sides widest chains s u n near not_west)

-- ---- lists

module _ (chains : List MapChain) where
  -- where the sides by height are the flanks
  pub same_facing : (list : List ℕ) → ((s : ℕ) → IsIn s list → flanks_at (raised chains) s ≡ flanks_at chains s) → AreFacing (raised chains) list →
      AreFacing chains list
  same_facing [] same facing = tt
  same_facing (s ∷ []) same facing = ap (λ (f : Flanks). f.far) (sym (same s (inl refl))) ∙ facing
  same_facing (s ∷ (t ∷ rest)) same facing = (
    ap (λ (f : Flanks). f.far) (sym (same s (inl refl))) ∙ facing.0 ∙ ap (λ (f : Flanks). f.near) (same t (inr (inl refl))),
    same_facing (t ∷ rest) (λ n i. same n (inr i)) facing.1,
  )

  pub same_seen : (list : List ℕ) → ((s : ℕ) → IsIn s list → flanks_at (raised chains) s ≡ flanks_at chains s) →
      seen_side (raised chains) list ≡ seen_side chains list
  same_seen [] same = refl
  same_seen (s ∷ rest) same = ap (λ (f : Flanks). f.near) (same s (inl refl))
