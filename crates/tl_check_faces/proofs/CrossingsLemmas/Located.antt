-- Each segment below their number is one of a chain, and what is listed of each stands at its number.
use Rattle.std.proofs.Common.{◌≡◌, inl, inr, ℕ, zero, suc, ◌+◌, ◌-◌, ◌<◌, pos, Some, List, [], ◌∷◌, ◌++◌, length, get_or, take, refl, sym, ap, subst, ◌∙◌, arith}
use Rattle.std.specs.Prelude.{slice_get}
use Rattle.std.proofs.lemmas.Bool.{cases_lt}
use Rattle.std.proofs.lemmas.List.{get_or_append_left, get_or-append-add, length-append}
use Rattle.std.proofs.lemmas.List.Sums.{sum_by-cons}
use Rattle.std.proofs.lemmas.Option.{slice_get-get_or}
use Rattle.tl_geom.specs.declared.point.Point.{Point}
use Rattle.tl_geom.specs.declared.segment.Segment.{Segment}
use Rattle.tl_map_county.specs.Chains.{IsProperChain}
use Rattle.tl_map_county.specs.declared.sides.Side.{Side}
use Rattle.tl_map_county.specs.TheMap.{MapChain}
use Rattle.tl_map_county.specs.Segments.{segments_before, IsSegmentOf, Joins}
use Rattle.tl_check_planar.specs.Keeping.Apart.{one_found}
use Rattle.tl_check_faces.specs.Crossings.Headings.{AreProper}

-- ---- the chain and the place of a segment

pub record IsPlacedSegment (chains : List MapChain) (s : ℕ) : Type 0 where
  pub c : ℕ
  pub k : ℕ
  pub number : IsSegmentOf chains s c k

placed_segment : (chains : List MapChain) (s : ℕ) → s < segments_before chains (length chains) → IsPlacedSegment chains s
placed_segment [] s lt = absurd (omega (arith, lt))
placed_segment (x ∷ chains) s lt =
    let all = sum_by-cons (λ (z : MapChain). length z.points - 1) x (take (length chains) chains) in
    elim (cases_lt s (length x.points - 1)) [
      | inl here ↦ record { c = 0; k = s; number = record { chain = x; is = refl; place = omega (arith, here); number = omega arith } }
      | inr later ↦
          let rest : IsPlacedSegment chains (s - (length x.points - 1)) = placed_segment chains (s - (length x.points - 1)) (omega (arith, lt, later, all)) in
          let more = sum_by-cons (λ (z : MapChain). length z.points - 1) x (take rest.c chains) in
          let own = rest.number.number in
          record { c = suc rest.c; k = rest.k; number = record { chain = rest.number.chain; is = rest.number.is; place = rest.number.place; number = omega (arith, own, more, later) } }
    ]

-- and the segment itself
pub record IsLocated (chains : List MapChain) (s : ℕ) : Type 0 where
  pub c : ℕ
  pub k : ℕ
  pub number : IsSegmentOf chains s c k
  pub segment : Segment
  pub from : slice_get number.chain.points k ≡ Some segment.a
  pub to : slice_get number.chain.points (k + 1) ≡ Some segment.b
  pub joins : Joins chains c k segment

no_point : Point
no_point = record { x = pos 0; y = pos 0 }

pub located : (chains : List MapChain) → AreProper chains → (s : ℕ) → s < segments_before chains (length chains) → IsLocated chains s
located chains proper s lt =
    let at : IsPlacedSegment chains s = placed_segment chains s lt in
    let points : List Point = at.number.chain.points in
    let place = at.number.place in
    let own : IsProperChain at.number.chain.points = proper at.c at.number.chain at.number.is in
    let segment : Segment = record { a = get_or points at.k no_point; b = get_or points (at.k + 1) no_point; different = own.distinct at.k no_point place } in
    let from : slice_get at.number.chain.points at.k ≡ Some segment.a = slice_get-get_or points at.k no_point (omega (arith, place)) in
    let to : slice_get at.number.chain.points (at.k + 1) ≡ Some segment.b = slice_get-get_or points (at.k + 1) no_point place in
    record {
      c = at.c;
      k = at.k;
      number = at.number;
      segment = segment;
      from = from;
      to = to;
      joins = record { chain = at.number.chain; is = at.number.is; from = from; to = to };
    }

-- ---- what is listed of each segment

module _ (h : (p q : Point) → (left right : Side) → ℕ) where
  abbrev pub each_from : Point → List Point → (left right : Side) → List ℕ
  each_from p [] left right = []
  each_from p (q ∷ points) left right = h p q left right ∷ each_from q points left right

  abbrev pub each_along : List Point → (left right : Side) → List ℕ
  each_along [] left right = []
  each_along (p ∷ points) left right = each_from p points left right

  abbrev pub each_of : List MapChain → List ℕ
  each_of [] = []
  each_of (c ∷ chains) = each_along c.points c.left c.right ++ each_of chains

  from_point : (p : Point) (ps : List Point) (left right : Side) (k : ℕ) (x y : Point) → slice_get (p ∷ ps) k ≡ Some x → slice_get ps k ≡ Some y → get_or (each_from p ps left right) k 0 ≡ h x y left right
  from_point p [] left right k x y e f = absurd (cc)
  from_point p (q ∷ ps) left right zero x y e f =
      ap (λ z. h z q left right) (one_found p x (Some p) refl e) ∙ ap (λ z. h x z left right) (one_found q y (Some q) refl f)
  from_point p (q ∷ ps) left right (suc k) x y e f = from_point q ps left right k x y e f

  along : (ps : List Point) (left right : Side) (k : ℕ) (x y : Point) → slice_get ps k ≡ Some x → slice_get ps (suc k) ≡ Some y → get_or (each_along ps left right) k 0 ≡ h x y left right
  along [] left right k x y e f = absurd (cc)
  along (p ∷ ps) left right k x y e f = from_point p ps left right k x y e f

  length-from : (p : Point) (ps : List Point) (left right : Side) → length (each_from p ps left right) ≡ length ps
  length-from p [] left right = refl
  length-from p (q ∷ ps) left right = let rest = length-from q ps left right in omega arith

  length-along : (ps : List Point) (left right : Side) → length (each_along ps left right) ≡ length ps - 1
  length-along [] left right = refl
  length-along (p ∷ ps) left right = let rest = length-from p ps left right in omega arith

  abbrev of_this : MapChain → List ℕ
  of_this z = each_along z.points z.left z.right

  of_chain : (cs : List MapChain) (c k : ℕ) (x : MapChain) → slice_get cs c ≡ Some x → k + 1 < length x.points → get_or (each_of cs) (segments_before cs c + k) 0 ≡ get_or (of_this x) k 0
  of_chain [] c k x e lt = absurd (cc)
  of_chain (y ∷ cs) zero k x e lt =
      let same : y ≡ x = one_found y x (Some y) refl e in
      let count : length (of_this x) ≡ length x.points - 1 = length-along x.points x.left x.right in
      let place : 0 + k ≡ k = omega arith in
      subst (λ (z : MapChain). get_or (of_this z ++ each_of cs) (0 + k) 0 ≡ get_or (of_this x) k 0) (sym same)
      (ap (λ n. get_or (of_this x ++ each_of cs) n 0) place ∙ get_or_append_left (of_this x) (each_of cs) 0 k (omega (arith, count, lt)))
  of_chain (y ∷ cs) (suc c) k x e lt =
      let place : segments_before (y ∷ cs) (suc c) + k ≡ length (of_this y) + (segments_before cs c + k) =
      omega (arith, length-along y.points y.left y.right, sum_by-cons (λ (z : MapChain). length z.points - 1) y (take c cs)) in
      ap (λ n. get_or (of_this y ++ each_of cs) n 0) place
      ∙ get_or-append-add (of_this y) (each_of cs) (segments_before cs c + k) 0 ∙ of_chain cs c k x e lt

  -- by the two points of the segment
  pub each_at : (cs : List MapChain) (s : ℕ) (at : IsLocated cs s) → get_or (each_of cs) s 0 ≡ h at.segment.a at.segment.b at.number.chain.left at.number.chain.right
  each_at cs s at =
      ap (λ n. get_or (each_of cs) n 0) at.number.number ∙ of_chain cs at.c at.k at.number.chain at.number.is at.number.place
      ∙ along at.number.chain.points at.number.chain.left at.number.chain.right at.k at.segment.a at.segment.b at.from (ap (slice_get at.number.chain.points) (after at.k) ∙ at.to)
    where
      after : (k : ℕ) → suc k ≡ k + 1
      after k = omega arith

  pub length-each : (cs : List MapChain) → length (each_of cs) ≡ segments_before cs (length cs)
  length-each [] = refl
  length-each (c ∷ cs) =
      let here = length-along c.points c.left c.right in
      let rest = length-each cs in
      let both = length-append (each_along c.points c.left c.right) (each_of cs) in
      let all = sum_by-cons (λ (z : MapChain). length z.points - 1) c (take (length cs) cs) in
      omega (arith, here, rest, both, all)
