-- A segment's place midway between two heights that it passes: it lies on the segment, strictly within the slab. From such places
-- neighbours of a slab's list face one another.
use Rattle.std.proofs.Common.{◌≡◌, ◌≢◌, ℕ, ◌+◌, ℤ, pos, ◌+ℤ◌, ◌-ℤ◌, ◌*ℤ◌, ◌<ℤ◌, ◌≤ℤ◌, List, [], ◌∷◌, ◌++◌, refl, sym, ap, ap₂, ◌∙◌, arith}
use Rattle.std.specs.Prelude.{All}
use Rattle.std.proofs.lemmas.Int.{ints}
use Rattle.tl_geom.specs.declared.point.Point.{Point}
use Rattle.tl_geom.specs.declared.rational.Rational.{Rational}
use Rattle.tl_geom.specs.declared.segment.Segment.{Segment}
use Rattle.tl_geom.specs.Plane.{IsOn}
use Rattle.tl_geom.proofs.Polynomials.{num, ◌⊕◌, ◌⊖◌, ◌⊗◌, same}
use Rattle.tl_geom.proofs.Signs.{mono}
use Rattle.tl_map_county.specs.declared.sides.Side.TheVariants.{Outside}
use Rattle.tl_map_county.specs.TheMap.{MapChain}
use Rattle.tl_check_planar.specs.Planar.{IsPlanar}
use Rattle.tl_check_planar.proofs.Numbering.{HaveSameEnds}
use Rattle.tl_check_planar.specs.ByHeight.Heights.{height, height_of, AreNear, low_end, high_end, turn_at}
use Rattle.tl_check_planar.specs.ByHeight.Neighbours.{IsNumbered}
use Rattle.tl_check_planar.specs.ByHeight.Slabs.{IsActive, IsListOf}
use Rattle.tl_check_planar.proofs.ByHeight.Rising.{AreEndsOf, ends_of}
use Rattle.tl_check_planar.proofs.ByHeight.Lying.{lies_on}
use Rattle.tl_check_planar.proofs.ByHeight.Numbered.{one_segment}
use Rattle.tl_check_planar.proofs.ByHeight.Walking.{all_head, all_tail}
use Rattle.tl_check_faces.specs.Lists.{west_side, east_side, AreAllNear}
use Rattle.tl_check_faces.specs.Disagreements.{facing_west, facing_east, IsFaceDisagreement, IsOutwardDisagreement, IsInSlab, IsMidway, HaveOneHeight, twice_rise, twice_risen}
use Rattle.tl_check_faces.proofs.Lines.{IsWestward, height_by}
use Rattle.tl_check_faces.proofs.Neighbours.{all_back, neighbours, westward, first, last}
use Rattle.tl_geom.proofs.Places.{part_straight as straight_by}

-- the rise of a segment from its low end, and its height midway over it
midway_height : (n a w : ℤ) → (pos 2 *ℤ w) *ℤ a +ℤ (pos 2 *ℤ n +ℤ pos 1 -ℤ pos 2 *ℤ a) *ℤ w ≡ w *ℤ (pos 2 *ℤ n +ℤ pos 1)
midway_height n a w =
    let two = num (pos 2) in
    same ((two ⊗ num w) ⊗ num a ⊕ (two ⊗ num n ⊕ num (pos 1) ⊖ two ⊗ num a) ⊗ num w) (num w ⊗ (two ⊗ num n ⊕ num (pos 1))) (omega arith)

-- with its low and its high end
module _ (K n : ℤ) (u : Segment) (near : AreNear K u.a u.b) where
  abbrev low : Point
  low = low_end K u

  abbrev high : Point
  high = high_end K u

  abbrev rise : ℤ
  rise = height K high -ℤ height K low

  ends : AreEndsOf K u low high
  ends = ends_of K u near

  rises : pos 0 <ℤ rise
  rises = let e = ends in let up = e.rising in omega (arith, ints, up)

  pub some_midway : (p : Rational) × IsMidway K n u p
  some_midway = (
    record {
      x = twice_rise K u *ℤ low.x +ℤ twice_risen K n u *ℤ (high.x -ℤ low.x);
      y = twice_rise K u *ℤ low.y +ℤ twice_risen K n u *ℤ (high.y -ℤ low.y);
      d = twice_rise K u;
      above_zero = let h = rises in omega (arith, ints, h);
    },
    record { d = refl; x = refl; y = refl },
  )

  module _ (p : Rational) (m : IsMidway K n u p) where
    pub height_is : height_of K p ≡ rise *ℤ (pos 2 *ℤ n +ℤ pos 1)
    height_is =
        ap₂ (λ y x. K *ℤ y -ℤ x) m.y m.x
        ∙ height_by K low.x low.y high.x high.y (twice_risen K n u) p.d
        ∙ ap (λ d. d *ℤ height K low +ℤ twice_risen K n u *ℤ rise) m.d
        ∙ midway_height n (height K low) rise

    straight : turn_at low high p ≡ pos 0
    straight =
        ap₂ (λ y x. (high.x -ℤ low.x) *ℤ (y -ℤ p.d *ℤ low.y) -ℤ (high.y -ℤ low.y) *ℤ (x -ℤ p.d *ℤ low.x)) m.y m.x
        ∙ straight_by (high.x -ℤ low.x) (high.y -ℤ low.y) low.x low.y (twice_risen K n u) p.d

    pub inside : IsInSlab K n p
    inside =
        let is = height_is in let h = rises in
        let under : p.d *ℤ n ≡ (pos 2 *ℤ rise) *ℤ n = ap (λ d. d *ℤ n) m.d in
        let over : p.d *ℤ (n +ℤ pos 1) ≡ (pos 2 *ℤ rise) *ℤ (n +ℤ pos 1) = ap (λ d. d *ℤ (n +ℤ pos 1)) m.d in
        let one = parts_below rise in let other = parts_above rise in
        record { above = omega (arith, ints, is, h, under, one); below = omega (arith, ints, is, h, over, other) }
      where
        parts_below : (w : ℤ) → w *ℤ (pos 2 *ℤ n +ℤ pos 1) ≡ (pos 2 *ℤ w) *ℤ n +ℤ w
        parts_below w = same (num w ⊗ (num (pos 2) ⊗ num n ⊕ num (pos 1))) ((num (pos 2) ⊗ num w) ⊗ num n ⊕ num w) (omega arith)

        parts_above : (w : ℤ) → (pos 2 *ℤ w) *ℤ (n +ℤ pos 1) ≡ w *ℤ (pos 2 *ℤ n +ℤ pos 1) +ℤ w
        parts_above w = same ((num (pos 2) ⊗ num w) ⊗ (num n ⊕ num (pos 1))) (num w ⊗ (num (pos 2) ⊗ num n ⊕ num (pos 1)) ⊕ num w) (omega arith)

    pub lies_there : height K low ≤ℤ n → n <ℤ height K high → IsOn u p
    lies_there begun lasting =
        let in_slab = inside in let d : pos 0 <ℤ p.d = p.above_zero in
        let from : (p.d *ℤ height K low) ≤ℤ (p.d *ℤ n) = mono p.d (height K low) n (omega (arith, ints, d)) begun in
        let to : (p.d *ℤ (n +ℤ pos 1)) ≤ℤ (p.d *ℤ height K high) =
        mono p.d (n +ℤ pos 1) (height K high) (omega (arith, ints, d)) (omega (arith, ints, lasting)) in
        let more = in_slab.above in let less = in_slab.below in
        lies_on K u low high ends p straight (omega (arith, ints, from, more)) (omega (arith, ints, to, less))

-- two such places have one height
pub one_height : (K n : ℤ) (u w : Segment) → AreNear K u.a u.b → AreNear K w.a w.b → (p q : Rational) → IsMidway K n u p → IsMidway K n w q →
    HaveOneHeight K p q
one_height K n u w near near' p q m m' =
    ap₂ (λ h d. h *ℤ d) (height_is K n u near p m) m'.d
    ∙ exchanged (height K (high_end K u) -ℤ height K (low_end K u)) (height K (high_end K w) -ℤ height K (low_end K w))
    ∙ sym (ap₂ (λ h d. h *ℤ d) (height_is K n w near' q m') m.d)
  where
    exchanged : (v z : ℤ) → (v *ℤ (pos 2 *ℤ n +ℤ pos 1)) *ℤ (pos 2 *ℤ z) ≡ (z *ℤ (pos 2 *ℤ n +ℤ pos 1)) *ℤ (pos 2 *ℤ v)
    exchanged v z =
        let odd = num (pos 2) ⊗ num n ⊕ num (pos 1) in
        same ((num v ⊗ odd) ⊗ (num (pos 2) ⊗ num z)) ((num z ⊗ odd) ⊗ (num (pos 2) ⊗ num v)) (omega arith)

-- ---- of segments that are active in the slab

module _ (K n : ℤ) (chains : List MapChain) (near : AreAllNear K chains) (planar : IsPlanar chains) where
  pub own_near : (s : ℕ) (u : Segment) → IsNumbered chains s u → AreNear K u.a u.b
  own_near s u is = near is.c is.k is.c (is.k + 1) u.a u.b
      (record { chain = is.joins.chain; is = is.joins.is; point = is.joins.from }) (record { chain = is.joins.chain; is = is.joins.is; point = is.joins.to })

  on_active : (s : ℕ) (u : Segment) → IsNumbered chains s u → IsActive K n chains s → (p : Rational) → IsMidway K n u p → IsOn u p
  on_active s u is a p m = lies_there K n u (own_near s u is) p m (rw (sym e.first, sym e.last) a.begun) (rw (sym e.first, sym e.last) a.lasting)
    where
      e : HaveSameEnds a.segment u
      e = one_segment chains s a.segment u a.is is

  module _ (front back : List ℕ) (s : ℕ) (u : Segment) (is : IsNumbered chains s u) (p : Rational) (m : IsMidway K n u p) where
    in_slab : IsInSlab K n p
    in_slab = inside K n u (own_near s u is) p m

    pub neighbours_midway : (t : ℕ) (w : Segment) (is' : IsNumbered chains t w) (q : Rational) → IsMidway K n w q →
        IsListOf K n chains (front ++ (s ∷ (t ∷ back))) →
        east_side K is.joins.chain u ≢ west_side K is'.joins.chain w →
        IsFaceDisagreement chains (facing_east K is.joins.chain u p) (facing_west K is'.joins.chain w q)
    neighbours_midway t w is' q m' of differ =
        neighbours K n chains near planar front back s u is p (on_active s u is (all_head (IsActive K n chains) s (t ∷ back) active) p m) in_slab
        t w is' q (on_active t w is' (all_head (IsActive K n chains) t back (all_tail (IsActive K n chains) s (t ∷ back) active)) q m')
        (one_height K n u w (own_near s u is) (own_near t w is') p q m m') of differ
      where
        active : All (IsActive K n chains) (s ∷ (t ∷ back))
        active = all_back (IsActive K n chains) front (s ∷ (t ∷ back)) of.active

    pub westward_midway : (t : ℕ) (w : Segment) (is' : IsNumbered chains t w) (q : Rational) → IsMidway K n w q →
        IsListOf K n chains (front ++ (s ∷ (t ∷ back))) → IsWestward p q
    westward_midway t w is' q m' of =
        westward K n chains near planar front back s u is p (on_active s u is (all_head (IsActive K n chains) s (t ∷ back) active) p m) in_slab
        t w is' q (on_active t w is' (all_head (IsActive K n chains) t back (all_tail (IsActive K n chains) s (t ∷ back) active)) q m')
        (one_height K n u w (own_near s u is) (own_near t w is') p q m m') of
      where
        active : All (IsActive K n chains) (s ∷ (t ∷ back))
        active = all_back (IsActive K n chains) front (s ∷ (t ∷ back)) of.active

    pub first_midway : IsListOf K n chains (s ∷ back) → west_side K is.joins.chain u ≢ Outside →
        IsOutwardDisagreement chains (facing_west K is.joins.chain u p) (pos 0 -ℤ K) (pos 0 -ℤ pos 1)
    first_midway of differs =
        first K n chains near planar front back s u is p (on_active s u is (all_head (IsActive K n chains) s back of.active) p m) in_slab of differs

    pub last_midway : IsListOf K n chains (front ++ (s ∷ [])) → east_side K is.joins.chain u ≢ Outside →
        IsOutwardDisagreement chains (facing_east K is.joins.chain u p) K (pos 1)
    last_midway of differs =
        last K n chains near planar front back s u is p
        (on_active s u is (all_head (IsActive K n chains) s [] (all_back (IsActive K n chains) front (s ∷ []) of.active)) p m) in_slab of differs
