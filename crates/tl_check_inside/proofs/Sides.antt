-- The sides of a segment by its number.
use Rattle.std.proofs.Common.{◌≡◌, ℕ, zero, suc, ◌+◌, ◌-◌, ◌<◌, ◌<ℤ◌, ◌≤ℤ◌, ℤ, Bool, true, false, T, if◌then◌else◌, Some, List, [], ◌∷◌, ◌++◌, length, get_or, take, map, ap, sym, subst, ◌∙◌, refl, arith}
use Rattle.std.specs.Prelude.{slice_get, int_lt}
use Rattle.std.proofs.lemmas.Int.{ints}
use Rattle.std.proofs.lemmas.List.{get_or_append_left, get_or-append-add, map-append, take_more}
use Rattle.std.proofs.lemmas.List.Sums.{sum_by-cons}
use Rattle.tl_geom.specs.declared.point.Point.{Point}
use Rattle.tl_map_county.specs.declared.sides.Side.{Side}
use Rattle.tl_map_county.specs.declared.sides.Side.TheVariants.{Outside}
use Rattle.tl_map_county.specs.TheMap.{MapChain, IsChain}
use Rattle.tl_geom.specs.declared.segment.Segment.{Segment}
use Rattle.tl_map_county.specs.Segments.{segments_before, IsSegmentOf, Joins}
use Rattle.tl_check_planar.proofs.Numbering.{one_chain}
use Rattle.tl_check_planar.specs.Keeping.Apart.{one_found}
use Rattle.tl_check_inside.specs.declared.flanks.Flanks.{Flanks}
use Rattle.tl_check_inside.specs.Inside.{flanks_between, flanks_from, flanks_along, flanks_of, flanks_at}

abbrev no_flanks : Flanks
no_flanks = record { near = Outside; far = Outside }

module _ (left right : Side) where
  from_point : (p : Point) (ps : List Point) (k : ℕ) (x y : Point) → slice_get (p ∷ ps) k ≡ Some x → slice_get ps k ≡ Some y → get_or (flanks_from p ps left right) k no_flanks ≡ flanks_between x y left right
  from_point p [] k x y e f = absurd (cc)
  from_point p (q ∷ ps) zero x y e f =
      ap (λ z. flanks_between z q left right) (one_found p x (Some p) refl e) ∙ ap (λ z. flanks_between x z left right) (one_found q y (Some q) refl f)
  from_point p (q ∷ ps) (suc k) x y e f = from_point q ps k x y e f

  along : (ps : List Point) (k : ℕ) (x y : Point) → slice_get ps k ≡ Some x → slice_get ps (suc k) ≡ Some y → get_or (flanks_along ps left right) k no_flanks ≡ flanks_between x y left right
  along [] k x y e f = absurd (cc)
  along (p ∷ ps) k x y e f = from_point p ps k x y e f

  length-flanks_from : (p : Point) (ps : List Point) → length (flanks_from p ps left right) ≡ length ps
  length-flanks_from p [] = refl
  length-flanks_from p (q ∷ ps) = let rest = length-flanks_from q ps in omega arith

  length-flanks_along : (ps : List Point) → length (flanks_along ps left right) ≡ length ps - 1
  length-flanks_along [] = refl
  length-flanks_along (p ∷ ps) = let rest = length-flanks_from p ps in omega arith

abbrev of_this : MapChain → List Flanks
of_this z = flanks_along z.points z.left z.right

of_chain : (cs : List MapChain) (c k : ℕ) (x : MapChain) → slice_get cs c ≡ Some x → k + 1 < length x.points → get_or (flanks_of cs) (segments_before cs c + k) no_flanks ≡ get_or (of_this x) k no_flanks
of_chain [] c k x e lt = absurd (cc)
of_chain (y ∷ cs) zero k x e lt =
    let same : y ≡ x = one_found y x (Some y) refl e in
    let count : length (of_this x) ≡ length x.points - 1 = length-flanks_along x.left x.right x.points in
    let place : 0 + k ≡ k = omega arith in
    subst (λ (z : MapChain). get_or (of_this z ++ flanks_of cs) (0 + k) no_flanks ≡ get_or (of_this x) k no_flanks) (sym same)
    (ap (λ n. get_or (of_this x ++ flanks_of cs) n no_flanks) place ∙ get_or_append_left (of_this x) (flanks_of cs) no_flanks k (omega (arith, count, lt)))
of_chain (y ∷ cs) (suc c) k x e lt =
    let place : segments_before (y ∷ cs) (suc c) + k ≡ length (of_this y) + (segments_before cs c + k) =
    omega (arith, length-flanks_along y.left y.right y.points, sum_by-cons (λ (z : MapChain). length z.points - 1) y (take c cs)) in
    ap (λ n. get_or (of_this y ++ flanks_of cs) n no_flanks) place
    ∙ get_or-append-add (of_this y) (flanks_of cs) (segments_before cs c + k) no_flanks ∙ of_chain cs c k x e lt

-- the sides of two points of a chain that follow one another
pub by_points : (cs : List MapChain) (s c k : ℕ) (p q : Point) (number : IsSegmentOf cs s c k) → slice_get number.chain.points k ≡ Some p → slice_get number.chain.points (k + 1) ≡ Some q → flanks_at cs s ≡ flanks_between p q number.chain.left number.chain.right
by_points cs s c k p q number e f =
    ap (λ n. get_or (flanks_of cs) n no_flanks) number.number ∙ of_chain cs c k number.chain number.is number.place
    ∙ along number.chain.left number.chain.right number.chain.points k p q e (ap (λ n. slice_get number.chain.points n) (after k) ∙ f)
  where
    after : (k : ℕ) → suc k ≡ k + 1
    after k = omega arith

pub is_lt : (x y : ℤ) → x <ℤ y → int_lt x y ≡ true
is_lt x y h = go (int_lt x y) h.lt
  where
    go : (b : Bool) → T b → b ≡ true
    go true t = refl
    go false t = absurd t

pub no_lt : (x y : ℤ) → y ≤ℤ x → int_lt x y ≡ false
no_lt x y h = go (int_lt x y) refl
  where
    go : (b : Bool) → int_lt x y ≡ b → b ≡ false
    go false e = refl
    go true e = absurd (let lt : x <ℤ y = record { lt = subst T (sym e) tt } in omega (arith, ints, lt, h))

-- what is told of a segment and of the chain that it is one of
module _ (cs : List MapChain) (s c k d j tlid : ℕ) (segment : Segment) (points : List Point) (left right : Side) (first last : Point) (number : IsSegmentOf cs s c k) (joins : Joins cs c k segment) (of : IsSegmentOf cs s d j) (told : IsChain (slice_get cs d) tlid points left right) (a : first ≡ segment.a) (b : last ≡ segment.b) where
  pub by_chain : flanks_at cs s ≡ flanks_between first last left right
  by_chain =
      let one : number.chain ≡ joins.chain = one_found number.chain joins.chain (slice_get cs c) number.is joins.is in
      let other : number.chain ≡ told.chain = one_found number.chain told.chain (slice_get cs c) number.is (ap (λ n. slice_get cs n) (one_chain cs s c k d j number of) ∙ told.is) in
      by_points cs s c k segment.a segment.b number (ap (λ (z : MapChain). slice_get z.points k) one ∙ joins.from) (ap (λ (z : MapChain). slice_get z.points (k + 1)) one ∙ joins.to)
      ∙ (λ i. flanks_between (sym a i) (sym b i) ((ap (λ (z : MapChain). z.left) other ∙ sym told.left_is) i) ((ap (λ (z : MapChain). z.right) other ∙ sym told.right_is) i))

  pub upward : first.y <ℤ last.y → record { near = left; far = right } ≡ flanks_at cs s
  upward up = sym (by_chain ∙ ap (λ t. if t then record { near = left; far = right } else record { near = right; far = left }) (is_lt first.y last.y up))

  pub downward : last.y ≤ℤ first.y → record { near = right; far = left } ≡ flanks_at cs s
  downward down = sym (by_chain ∙ ap (λ t. if t then record { near = left; far = right } else record { near = right; far = left }) (no_lt first.y last.y down))

-- the sides of one segment more
pub flanks_more : (chains : List MapChain) (segments : List ℕ) (place : ℕ) (flanks new : List Flanks) (one : Flanks) → place < length segments → flanks ≡ map (flanks_at chains) (take place segments) → one ≡ flanks_at chains (get_or segments place 0) → new ≡ flanks ++ one ∷ [] → new ≡ map (flanks_at chains) (take (place + 1) segments)
flanks_more chains segments place flanks new one lt is one_is more =
    more ∙ ap (λ f. flanks ++ f ∷ []) one_is ∙ ap (λ fs. fs ++ flanks_at chains (get_or segments place 0) ∷ []) is
    ∙ sym (ap (map (flanks_at chains)) (take_more segments place 0 lt) ∙ map-append (flanks_at chains) (take place segments) (get_or segments place 0 ∷ []))
