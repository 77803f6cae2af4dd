-- Where chains are planar, sides are true and counts stay along lines that meet no chain, sides agree about each node: from beside a dart
-- lines that meet no chain lead about the node to beside the next one.
use Rattle.std.proofs.Common.{◌≡◌, ◌≢◌, ◌⊎◌, inl, inr, ⊎_elim, ℕ, ◌+◌, ℤ, pos, ◌+ℤ◌, ◌-ℤ◌, ◌*ℤ◌, ◌<ℤ◌, ◌≤ℤ◌, Option, Some, List, sym, ap, subst, ◌∙◌, arith}
use Rattle.std.proofs.lemmas.Int.{ints, by_lt_z}
use Rattle.tl_geom.specs.declared.point.Point.{Point}
use Rattle.tl_geom.specs.declared.direction.Direction.{Direction}
use Rattle.tl_geom.specs.declared.rational.Rational.{Rational}
use Rattle.tl_geom.specs.Plane.{cross, whole}
use Rattle.tl_geom.specs.Turning.{cross_of, dot_of, IsOneDirection, IsWithin, below_half, above_half, half, full}
use Rattle.tl_geom.proofs.Places.{on_same}
use Rattle.tl_geom.proofs.Polynomials.{num, ◌⊗◌, same}
use Rattle.tl_geom.proofs.Signs.{mono, product_above, product_at_least, zero_product, sign}
use Rattle.tl_map_county.specs.declared.sides.Side.{Side}
use Rattle.tl_map_county.specs.declared.sides.Side.TheVariants.{Outside, Polygon}
use Rattle.tl_map_county.specs.TheMap.{MapChain}
use Rattle.tl_map_county.specs.Darts.{dart_start, dart_second, dart_left}
use Rattle.tl_check_planar.specs.Planar.{IsPlanar}
use Rattle.tl_check_planar.specs.Keeping.Apart.{one_found}
use Rattle.tl_check_sides.specs.Sides.{IsNext, SidesAgree, dart_right}
use Rattle.tl_check_sides.proofs.Headings.{dart_within}
use Rattle.tl_check_faces.specs.Crossings.Headings.{AreProper}
use Rattle.tl_check_faces.specs.Facing.{IsOff, IsStrictlyBetween}
use Rattle.tl_check_faces.specs.Truth.{LiesAt, AreSidesTrue}
use Rattle.tl_check_faces.proofs.Bounds.{IsFar, far, AreBounded, some_bound}
use Rattle.tl_check_faces.proofs.Numbers.{above_by, below_by}
use Rattle.tl_check_faces.proofs.Others.{nearness}
use Rattle.tl_check_faces.proofs.Unique.{unique}
use Rattle.tigertopo_border.specs.Whole.Lines.{IsClearLine, DoPolygonsStay}
use Rattle.tigertopo_border.proofs.WholeLemmas.Beside.{some_nearness}
use Rattle.tigertopo_border.proofs.WholeLemmas.Spokes.{IsSpoke, spoke_of}
use Rattle.tigertopo_border.proofs.WholeLemmas.Spots.{spot, IsClose, IsToward, toward}
use Rattle.tigertopo_border.proofs.WholeLemmas.Darting.{IsBeside, beside}
use Rattle.tigertopo_border.proofs.WholeLemmas.Turning.{cross_from, cross_to, dot_from, norm_above, mix_from, mix_to, beside_from, beside_to, first_to, from_last, left_turn, right_turn, back_from, back_to, back_dot, no_cross, no_cross_to, no_dot, mixed_x, mixed_close, mixed_close_below}
use Rattle.tl_check_faces.proofs.Outside.{last_turned as minus_times}
use Rattle.tl_check_faces.proofs.CrossingsLemmas.OneWay.{scaled_x, scaled_y}
use Rattle.tl_check_faces.proofs.ToFaces.{both_above}

-- ---- about a node

alike : (x y : Option Side) (s t : Side) → x ≡ Some s → y ≡ Some t → s ≡ t → x ≡ y
alike x y s t e f same_side = e ∙ ap Some same_side ∙ sym f

module _ (chains : List MapChain) (proper : AreProper chains) (planar : IsPlanar chains) (true_there : AreSidesTrue chains) (stay : DoPolygonsStay chains) where
  -- what lies at the one end of a line that meets no chain lies at the other
  carried : (p q : Rational) → IsClearLine chains p q → (side : Side) → LiesAt chains p side → LiesAt chains q side
  carried p q line Outside lies = λ i. stay p q line i (pos 0) (lies i)
  carried p q line (Polygon i) lies = (stay p q line i (pos 1) lies.0, λ other ne. stay p q line other (pos 0) (lies.1 other ne))

  bound : (n : ℕ) × AreBounded n chains
  bound = some_bound chains

  module _ (a : ℕ) (v : Point) (starts : dart_start chains a ≡ Some v) where
    e : ℤ
    e = nearness (whole v) bound.0

    some_e : pos 0 <ℤ e
    unfolding e
    some_e = some_nearness (whole v) bound.0

    -- a set of directions toward which no dart of the node heads
    module _ (In : (x y : ℤ) → Type 0) (never : (x y : ℤ) → In x y → ¬ IsToward chains v x y) where
      off_spot : (x y m : ℤ) (some : pos 0 <ℤ m) → In x y → IsClose e x y m → IsOff chains (spot v x y m some)
      unfolding e
      off_spot x y m some inside close c chain is on = never x y inside (toward chains proper planar a v starts bound.0 bound.1 x y m some close c chain is on)

      module _ (x y m z w l : ℤ) (some : pos 0 <ℤ m) (some' : pos 0 <ℤ l) (inside : In x y) (inside' : In z w) (close : IsClose e x y m) (close' : IsClose e z w l)
          (mixed : (i j : ℤ) → pos 0 <ℤ i → pos 0 <ℤ j → In (i *ℤ x +ℤ j *ℤ z) (i *ℤ y +ℤ j *ℤ w)) where
        clear_line : IsClearLine chains (spot v x y m some) (spot v z w l some')
        clear_line = record {
          first = off_spot x y m some inside close;
          last = off_spot z w l some' inside' close';
          between = off_between;
        }
          where
            off_between : (r : Rational) → IsStrictlyBetween (spot v x y m some) (spot v z w l some') r → IsOff chains r
            off_between r b c chain is (k, held) =
                off_spot (b.m *ℤ x +ℤ b.n *ℤ z) (b.m *ℤ y +ℤ b.n *ℤ w) (b.m *ℤ m +ℤ b.n *ℤ l) above (mixed b.m b.n b.some_p b.some_q)
                (record {
                  west = mixed_close_below e b.m b.n x z m l b.some_p b.some_q close.west close'.west;
                  east = mixed_close e b.m b.n x z m l b.some_p b.some_q close.east close'.east;
                  south = mixed_close_below e b.m b.n y w m l b.some_p b.some_q close.south close'.south;
                  north = mixed_close e b.m b.n y w m l b.some_p b.some_q close.north close'.north;
                })
                c chain is (
                  k,
                  record {
                    segment = held.segment;
                    from = held.from;
                    to = held.to;
                    on = on_same held.segment r (spot v (b.m *ℤ x +ℤ b.n *ℤ z) (b.m *ℤ y +ℤ b.n *ℤ w) (b.m *ℤ m +ℤ b.n *ℤ l) above)
                        (record {
                          x = b.x ∙ ap (λ t. t *ℤ r.d) (sym (mixed_x b.m b.n v.x x z m l));
                          y = b.y ∙ ap (λ t. t *ℤ r.d) (sym (mixed_x b.m b.n v.y y w m l));
                        }) held.on;
                  },
                )
              where
                above : pos 0 <ℤ (b.m *ℤ m +ℤ b.n *ℤ l)
                above = both_above b.m b.n m l b.some_p b.some_q some some'

        carried_on : (side : Side) → LiesAt chains (spot v x y m some) side → LiesAt chains (spot v z w l some') side
        carried_on = carried (spot v x y m some) (spot v z w l some') clear_line

  -- ---- a dart and the next

  module _ (a b : ℕ) (next : IsNext chains a b) where
    s : IsSpoke chains a
    s = spoke_of chains proper a (dart_within chains a next.node next.a_starts)

    t : IsSpoke chains b
    t = spoke_of chains proper b (dart_within chains b next.node next.b_starts)

    abbrev v : Point
    v = s.v

    same_node : t.v ≡ v
    same_node =
        one_found t.v next.node (dart_start chains b) t.starts next.b_starts
        ∙ sym (one_found s.v next.node (dart_start chains a) s.starts next.a_starts)

    at_node : next.node ≡ v
    at_node = sym (one_found s.v next.node (dart_start chains a) s.starts next.a_starts)

    abbrev ax : ℤ
    ax = s.second.x -ℤ s.v.x

    abbrev ay : ℤ
    ay = s.second.y -ℤ s.v.y

    abbrev bx : ℤ
    bx = t.second.x -ℤ t.v.x

    abbrev by : ℤ
    by = t.second.y -ℤ t.v.y

    from_x : next.from.x ≡ ax
    from_x = next.a_heads.x ∙
        (λ i. (one_found next.a_heads.second s.second (dart_second chains a) next.a_heads.goes s.goes i).x
        -ℤ (one_found next.a_heads.first s.v (dart_start chains a) next.a_heads.starts s.starts i).x)

    from_y : next.from.y ≡ ay
    from_y = next.a_heads.y ∙
        (λ i. (one_found next.a_heads.second s.second (dart_second chains a) next.a_heads.goes s.goes i).y
        -ℤ (one_found next.a_heads.first s.v (dart_start chains a) next.a_heads.starts s.starts i).y)

    to_x : next.to.x ≡ bx
    to_x = next.b_heads.x ∙
        (λ i. (one_found next.b_heads.second t.second (dart_second chains b) next.b_heads.goes t.goes i).x
        -ℤ (one_found next.b_heads.first t.v (dart_start chains b) next.b_heads.starts t.starts i).x)

    to_y : next.to.y ≡ by
    to_y = next.b_heads.y ∙
        (λ i. (one_found next.b_heads.second t.second (dart_second chains b) next.b_heads.goes t.goes i).y
        -ℤ (one_found next.b_heads.first t.v (dart_start chains b) next.b_heads.starts t.starts i).y)

    -- the turn, and how long both are
    abbrev turn : ℤ
    turn = cross ax ay bx by

    abbrev dot : ℤ
    dot = ax *ℤ bx +ℤ ay *ℤ by

    turn_is : cross_of next.from next.to ≡ turn
    turn_is = λ i. cross (from_x i) (from_y i) (to_x i) (to_y i)

    dot_is : dot_of next.from next.to ≡ dot
    dot_is = λ i. from_x i *ℤ to_x i +ℤ from_y i *ℤ to_y i

    long_a : pos 0 <ℤ (ax *ℤ ax +ℤ ay *ℤ ay)
    long_a = subst (λ z. pos 0 <ℤ z) (λ i. from_x i *ℤ from_x i +ℤ from_y i *ℤ from_y i) (norm_above next.from)

    long_b : pos 0 <ℤ (bx *ℤ bx +ℤ by *ℤ by)
    long_b = subst (λ z. pos 0 <ℤ z) (λ i. to_x i *ℤ to_x i +ℤ to_y i *ℤ to_y i) (norm_above next.to)

    -- a dart that heads toward (x, y), and not within the turn
    record IsMissing (x y : ℤ) : Type 0 where
      heading : Direction
      k : ℤ
      l : ℤ
      some_k : pos 0 <ℤ k
      some_l : pos 0 <ℤ l
      along_x : l *ℤ heading.x ≡ k *ℤ x
      along_y : l *ℤ heading.y ≡ k *ℤ y
      not_within : ¬ IsWithin next.from next.to heading

    missing : (x y : ℤ) → (x ≡ pos 0 → y ≡ pos 0 → ⊥) → IsToward chains v x y → IsMissing x y
    missing x y some w = record {
      heading = w.heading;
      k = k;
      l = l;
      some_k = some_k;
      some_l = by_lt_z (pos 0) l (λ h. h) (λ none. absurd (nothing (let h = w.forward_dot in omega (arith, ints, h, none))));
      along_x = ex;
      along_y = ey;
      not_within = next.none_between w.dart w.heading (w.starts ∙ ap Some (sym at_node)) w.heads;
    }
      where
        k : ℤ
        k = w.heading.x *ℤ w.heading.x +ℤ w.heading.y *ℤ w.heading.y

        some_k : pos 0 <ℤ k
        some_k = norm_above w.heading

        l : ℤ
        l = w.heading.x *ℤ x +ℤ w.heading.y *ℤ y

        ex : l *ℤ w.heading.x ≡ k *ℤ x
        ex = scaled_x w.heading.x w.heading.y x y w.parallel

        ey : l *ℤ w.heading.y ≡ k *ℤ y
        ey = scaled_y w.heading.x w.heading.y x y w.parallel

        nothing : l ≡ pos 0 → ⊥
        nothing zero = some
            (zero_product k x (λ f. omega (arith, ints, f, some_k)) (sym ex ∙ ap (λ z. z *ℤ w.heading.x) zero ∙ zero_times w.heading.x))
            (zero_product k y (λ f. omega (arith, ints, f, some_k)) (sym ey ∙ ap (λ z. z *ℤ w.heading.y) zero ∙ zero_times w.heading.y))
          where
            zero_times : (z : ℤ) → pos 0 *ℤ z ≡ pos 0
            zero_times z = same (num (pos 0) ⊗ num z) (num (pos 0)) (omega arith)

    module _ (x y : ℤ) (h : IsMissing x y) where
      cross_there : cross_of next.from h.heading ≡ cross ax ay h.heading.x h.heading.y
      cross_there = λ i. cross (from_x i) (from_y i) h.heading.x h.heading.y

      cross_on : cross_of h.heading next.to ≡ cross h.heading.x h.heading.y bx by
      cross_on = λ i. cross h.heading.x h.heading.y (to_x i) (to_y i)

      left_of_first : pos 0 <ℤ cross ax ay x y → pos 0 <ℤ cross_of next.from h.heading
      left_of_first above =
          let e = cross_there in
          let k = above_by h.k (cross ax ay x y) h.l (cross ax ay h.heading.x h.heading.y) h.some_k h.some_l
          (cross_from h.heading.x h.heading.y x y h.k h.l h.along_x h.along_y ax ay) above in
          omega (arith, ints, e, k)

      right_of_first : cross ax ay x y <ℤ pos 0 → cross_of next.from h.heading <ℤ pos 0
      right_of_first below =
          let e = cross_there in
          let k = below_by h.k (cross ax ay x y) h.l (cross ax ay h.heading.x h.heading.y) h.some_k h.some_l
          (cross_from h.heading.x h.heading.y x y h.k h.l h.along_x h.along_y ax ay) below in
          omega (arith, ints, e, k)

      right_of_next : pos 0 <ℤ cross x y bx by → pos 0 <ℤ cross_of h.heading next.to
      right_of_next above =
          let e = cross_on in
          let k = above_by h.k (cross x y bx by) h.l (cross h.heading.x h.heading.y bx by) h.some_k h.some_l
          (cross_to h.heading.x h.heading.y x y h.k h.l h.along_x h.along_y bx by) above in
          omega (arith, ints, e, k)

      behind_first : (ax *ℤ x +ℤ ay *ℤ y) <ℤ pos 0 → dot_of next.from h.heading <ℤ pos 0
      behind_first below =
          let e : dot_of next.from h.heading ≡ ax *ℤ h.heading.x +ℤ ay *ℤ h.heading.y = λ i. from_x i *ℤ h.heading.x +ℤ from_y i *ℤ h.heading.y in
          let k = below_by h.k (ax *ℤ x +ℤ ay *ℤ y) h.l (ax *ℤ h.heading.x +ℤ ay *ℤ h.heading.y) h.some_k h.some_l
          (dot_from h.heading.x h.heading.y x y h.k h.l h.along_x h.along_y ax ay) below in
          omega (arith, ints, e, k)

    -- ---- from beside the one to beside the next

    near : ℤ
    near = e a v s.starts

    some_near : pos 0 <ℤ near
    unfolding near
    some_near = some_e a v s.starts

    size : IsFar dot
    size = far dot

    A : IsBeside chains proper true_there a s near (pos 0 -ℤ ay) ax size.n
    A = beside chains proper true_there a s near (pos 0 -ℤ ay) ax some_near size.n

    B : IsBeside chains proper true_there b t near by (pos 0 -ℤ bx) size.n
    B = beside chains proper true_there b t near by (pos 0 -ℤ bx) some_near size.n

    abbrev first_x : ℤ
    first_x = A.M *ℤ ax +ℤ (pos 0 -ℤ ay)

    abbrev first_y : ℤ
    first_y = A.M *ℤ ay +ℤ ax

    abbrev last_x : ℤ
    last_x = B.M *ℤ bx +ℤ by

    abbrev last_y : ℤ
    last_y = B.M *ℤ by +ℤ (pos 0 -ℤ bx)

    first_left : cross ax ay first_x first_y ≡ ax *ℤ ax +ℤ ay *ℤ ay
    first_left = beside_from ax ay A.M

    last_right : cross last_x last_y bx by ≡ bx *ℤ bx +ℤ by *ℤ by
    last_right = beside_to bx by B.M

    module _ (In : (x y : ℤ) → Type 0) (never : (x y : ℤ) → In x y → ¬ IsToward chains v x y) (in_first : In first_x first_y) (in_last : In last_x last_y) where
      unfold_close : IsClose near first_x first_y A.m → IsClose (e a v s.starts) first_x first_y A.m
      unfolding near
      unfold_close c = c

      unfold_close' : IsClose near last_x last_y B.m → IsClose (e a v s.starts) last_x last_y B.m
      unfolding near
      unfold_close' c = c

      agree_by : ((side : Side) → LiesAt chains (spot v first_x first_y A.m A.some_m) side → LiesAt chains (spot v last_x last_y B.m B.some_m) side) →
          dart_left chains a ≡ dart_right chains b
      agree_by carry =
          let clear : IsOff chains (spot v first_x first_y A.m A.some_m) =
          off_spot a v s.starts In never first_x first_y A.m A.some_m in_first (unfold_close A.close) in
          let clear' : IsOff chains (spot v last_x last_y B.m B.some_m) =
          off_spot a v s.starts In never last_x last_y B.m B.some_m in_last (unfold_close' B.close) in
          let up = left_turn ax ay in let down = right_turn bx by in let la = long_a in let lb = long_b in
          let one : (side : Side) × (dart_left chains a ≡ Some side) × LiesAt chains (spot v first_x first_y A.m A.some_m) side =
          A.left (omega (arith, ints, up, la)) clear in
          let other : (side : Side) × (dart_right chains b ≡ Some side) × LiesAt chains (spot t.v last_x last_y B.m B.some_m) side =
          B.right (omega (arith, ints, down, lb)) (subst (λ z. IsOff chains (spot z last_x last_y B.m B.some_m)) (sym same_node) clear') in
          let same_side : one.0 ≡ other.0 =
          unique chains (spot v last_x last_y B.m B.some_m) one.0 other.0 (carry one.0 one.2)
          (subst (λ z. LiesAt chains (spot z last_x last_y B.m B.some_m) other.0) same_node other.2) in
          alike (dart_left chains a) (dart_right chains b) one.0 other.0 one.1 other.1 same_side

      -- by one line
      direct : ((i j : ℤ) → pos 0 <ℤ i → pos 0 <ℤ j → In (i *ℤ first_x +ℤ j *ℤ last_x) (i *ℤ first_y +ℤ j *ℤ last_y)) → dart_left chains a ≡ dart_right chains b
      direct mixed =
          agree_by (carried_on a v s.starts In never first_x first_y A.m last_x last_y B.m A.some_m B.some_m in_first in_last
          (unfold_close A.close) (unfold_close' B.close) mixed)

      -- by two lines, past what is opposite to the first dart
      past : In (pos 0 -ℤ ax) (pos 0 -ℤ ay) →
          ((i j : ℤ) → pos 0 <ℤ i → pos 0 <ℤ j → In (i *ℤ first_x +ℤ j *ℤ (pos 0 -ℤ ax)) (i *ℤ first_y +ℤ j *ℤ (pos 0 -ℤ ay))) →
          ((i j : ℤ) → pos 0 <ℤ i → pos 0 <ℤ j → In (i *ℤ (pos 0 -ℤ ax) +ℤ j *ℤ last_x) (i *ℤ (pos 0 -ℤ ay) +ℤ j *ℤ last_y)) → dart_left chains a ≡ dart_right chains b
      past in_back to_back from_back =
          agree_by (λ side lies.
          carried_on a v s.starts In never (pos 0 -ℤ ax) (pos 0 -ℤ ay) m last_x last_y B.m some_m B.some_m in_back in_last close_back (unfold_close' B.close) from_back side
          (carried_on a v s.starts In never first_x first_y A.m (pos 0 -ℤ ax) (pos 0 -ℤ ay) m A.some_m some_m in_first in_back (unfold_close A.close) close_back to_back side lies))
        where
          fx : IsFar ax
          fx = far ax

          fy : IsFar ay
          fy = far ay

          g : ℕ
          g = fx.n + fy.n

          m : ℤ
          m = e a v s.starts *ℤ pos g +ℤ pos 1

          some_m : pos 0 <ℤ m
          some_m = let h = some_e a v s.starts in let p = product_at_least (e a v s.starts) (pos g) (omega (arith, ints, h)) (omega (arith, ints)) in omega (arith, ints, p)

          below : (z : ℤ) → z ≤ℤ pos g → (e a v s.starts *ℤ z) <ℤ m
          below z le = let h = some_e a v s.starts in let p : (e a v s.starts *ℤ z) ≤ℤ (e a v s.starts *ℤ pos g) = mono (e a v s.starts) z (pos g) (omega (arith, ints, h)) le in omega (arith, ints, p)

          close_back : IsClose (e a v s.starts) (pos 0 -ℤ ax) (pos 0 -ℤ ay) m
          close_back = record {
            west = below (pos 0 -ℤ (pos 0 -ℤ ax)) (let h = fx.above in omega (arith, ints, h));
            east = below (pos 0 -ℤ ax) (let h = fx.below in omega (arith, ints, h));
            south = below (pos 0 -ℤ (pos 0 -ℤ ay)) (let h = fy.above in omega (arith, ints, h));
            north = below (pos 0 -ℤ ay) (let h = fy.below in omega (arith, ints, h));
          }

    -- ---- by the turn

    -- M times a turn above 0 is more than the inner product
    outweighs : (M : ℤ) → pos size.n <ℤ M → pos 0 <ℤ turn → pos 0 <ℤ (M *ℤ turn -ℤ dot)
    outweighs M great left =
        let p : (M *ℤ pos 1) ≤ℤ (M *ℤ turn) = mono M (pos 1) turn (omega (arith, ints, great)) (omega (arith, ints, left)) in
        let f : M *ℤ pos 1 ≡ M = same (num M ⊗ num (pos 1)) (num M) (omega arith) in
        let h = size.above in omega (arith, ints, p, f, h, great)

    not_nothing : (x y : ℤ) → pos 0 <ℤ cross ax ay x y → x ≡ pos 0 → y ≡ pos 0 → ⊥
    not_nothing x y above f h = let k = no_cross ax ay x y f h in omega (arith, ints, above, k)

    not_nothing' : (x y : ℤ) → pos 0 <ℤ cross x y bx by → x ≡ pos 0 → y ≡ pos 0 → ⊥
    not_nothing' x y above f h = let k = no_cross_to bx by x y f h in omega (arith, ints, above, k)

    by_left : pos 0 <ℤ turn → dart_left chains a ≡ dart_right chains b
    by_left left = direct In never in_first in_last mixed
      where
        In : (x y : ℤ) → Type 0
        In x y = (pos 0 <ℤ cross ax ay x y) × (pos 0 <ℤ cross x y bx by)

        never : (x y : ℤ) → In x y → ¬ IsToward chains v x y
        never x y h w =
            let m : IsMissing x y = missing x y (not_nothing x y h.0) w in
            m.not_within (below_half (let k = turn_is in omega (arith, ints, k, left)) (left_of_first x y m h.0) (right_of_next x y m h.1))

        in_first : In first_x first_y
        in_first = (
          (let f = first_left in let l = long_a in omega (arith, ints, f, l)),
          (let f = first_to ax ay bx by A.M in let h = outweighs A.M A.great left in omega (arith, ints, f, h)),
        )

        in_last : In last_x last_y
        in_last = (
          (let f = from_last ax ay bx by B.M in let h = outweighs B.M B.great left in omega (arith, ints, f, h)),
          (let f = last_right in let l = long_b in omega (arith, ints, f, l)),
        )

        mixed : (i j : ℤ) → pos 0 <ℤ i → pos 0 <ℤ j → In (i *ℤ first_x +ℤ j *ℤ last_x) (i *ℤ first_y +ℤ j *ℤ last_y)
        mixed i j some some' = (
          (let f = mix_from ax ay i j first_x first_y last_x last_y in let h = both_above i j (cross ax ay first_x first_y) (cross ax ay last_x last_y) some some' in_first.0 in_last.0 in omega (arith, ints, f, h)),
          (let f = mix_to bx by i j first_x first_y last_x last_y in let h = both_above i j (cross first_x first_y bx by) (cross last_x last_y bx by) some some' in_first.1 in_last.1 in omega (arith, ints, f, h)),
        )

    by_right : turn <ℤ pos 0 → dart_left chains a ≡ dart_right chains b
    by_right right = past In never (inl first_above) (inr last_above) (inr back_above) to_back from_back
      where
        In : (x y : ℤ) → Type 0
        In x y = (pos 0 <ℤ cross ax ay x y) ⊎ (pos 0 <ℤ cross x y bx by)

        never : (x y : ℤ) → In x y → ¬ IsToward chains v x y
        never x y (inl h) w =
            let m : IsMissing x y = missing x y (not_nothing x y h) w in
            m.not_within (above_half (let k = turn_is in omega (arith, ints, k, right)) (inl (left_of_first x y m h)))
        never x y (inr h) w =
            let m : IsMissing x y = missing x y (not_nothing' x y h) w in
            m.not_within (above_half (let k = turn_is in omega (arith, ints, k, right)) (inr (right_of_next x y m h)))

        first_above : pos 0 <ℤ cross ax ay first_x first_y
        first_above = let f = first_left in let l = long_a in omega (arith, ints, f, l)

        last_above : pos 0 <ℤ cross last_x last_y bx by
        last_above = let f = last_right in let l = long_b in omega (arith, ints, f, l)

        back_above : pos 0 <ℤ cross (pos 0 -ℤ ax) (pos 0 -ℤ ay) bx by
        back_above = let f = back_to ax ay bx by in omega (arith, ints, f, right)

        to_back : (i j : ℤ) → pos 0 <ℤ i → pos 0 <ℤ j → In (i *ℤ first_x +ℤ j *ℤ (pos 0 -ℤ ax)) (i *ℤ first_y +ℤ j *ℤ (pos 0 -ℤ ay))
        to_back i j some some' =
            let f = mix_from ax ay i j first_x first_y (pos 0 -ℤ ax) (pos 0 -ℤ ay) in
            let g = ap (λ z. j *ℤ z) (back_from ax ay) in
            let k = Rattle.tl_geom.proofs.Signs.times_zero j in
            let h = product_above i (cross ax ay first_x first_y) some first_above in
            inl (omega (arith, ints, f, g, k, h))

        from_back : (i j : ℤ) → pos 0 <ℤ i → pos 0 <ℤ j → In (i *ℤ (pos 0 -ℤ ax) +ℤ j *ℤ last_x) (i *ℤ (pos 0 -ℤ ay) +ℤ j *ℤ last_y)
        from_back i j some some' =
            let f = mix_to bx by i j (pos 0 -ℤ ax) (pos 0 -ℤ ay) last_x last_y in
            let h = both_above i j (cross (pos 0 -ℤ ax) (pos 0 -ℤ ay) bx by) (cross last_x last_y bx by) some some' back_above last_above in
            inr (omega (arith, ints, f, h))

    by_opposite : turn ≡ pos 0 → dot <ℤ pos 0 → dart_left chains a ≡ dart_right chains b
    by_opposite level back = direct In never first_above last_above mixed
      where
        In : (x y : ℤ) → Type 0
        In x y = pos 0 <ℤ cross ax ay x y

        never : (x y : ℤ) → In x y → ¬ IsToward chains v x y
        never x y h w =
            let m : IsMissing x y = missing x y (not_nothing x y h) w in
            let k = dot_is in
            m.not_within (half (record { parallel = turn_is ∙ level; other_way = omega (arith, ints, k, back) }) (left_of_first x y m h))

        first_above : In first_x first_y
        first_above = let f = first_left in let l = long_a in omega (arith, ints, f, l)

        last_above : In last_x last_y
        last_above =
            let f = from_last ax ay bx by B.M in
            let g = ap (λ z. B.M *ℤ z) level in let k = Rattle.tl_geom.proofs.Signs.times_zero B.M in
            omega (arith, ints, f, g, k, back)

        mixed : (i j : ℤ) → pos 0 <ℤ i → pos 0 <ℤ j → In (i *ℤ first_x +ℤ j *ℤ last_x) (i *ℤ first_y +ℤ j *ℤ last_y)
        mixed i j some some' =
            let f = mix_from ax ay i j first_x first_y last_x last_y in
            let h = both_above i j (cross ax ay first_x first_y) (cross ax ay last_x last_y) some some' first_above last_above in
            omega (arith, ints, f, h)

    by_one : turn ≡ pos 0 → pos 0 <ℤ dot → dart_left chains a ≡ dart_right chains b
    by_one level same_way = past In never (inl first_above) (inr (inl last_below)) (inr (inr (back_from ax ay, back_below))) to_back from_back
      where
        In : (x y : ℤ) → Type 0
        In x y = (pos 0 <ℤ cross ax ay x y) ⊎ ((cross ax ay x y <ℤ pos 0) ⊎ ((cross ax ay x y ≡ pos 0) × ((ax *ℤ x +ℤ ay *ℤ y) <ℤ pos 0)))

        one_way : IsOneDirection next.from next.to
        one_way = record { parallel = turn_is ∙ level; same_way = let k = dot_is in omega (arith, ints, k, same_way) }

        never : (x y : ℤ) → In x y → ¬ IsToward chains v x y
        never x y (inl h) w =
            let m : IsMissing x y = missing x y (not_nothing x y h) w in
            m.not_within (full one_way (λ one. let p : cross_of next.from m.heading ≡ pos 0 = one.parallel in let k = left_of_first x y m h in omega (arith, ints, p, k)))
        never x y (inr (inl h)) w =
            let m : IsMissing x y = missing x y (λ f g. let k = no_cross ax ay x y f g in omega (arith, ints, h, k)) w in
            m.not_within (full one_way (λ one. let p : cross_of next.from m.heading ≡ pos 0 = one.parallel in let k = right_of_first x y m h in omega (arith, ints, p, k)))
        never x y (inr (inr h)) w =
            let back = h.1 in
            let m : IsMissing x y = missing x y (λ f g. let k = no_dot ax ay x y f g in omega (arith, ints, back, k)) w in
            m.not_within (full one_way (λ one. let p : pos 0 <ℤ dot_of next.from m.heading = one.same_way in let k = behind_first x y m back in omega (arith, ints, p, k)))

        first_above : pos 0 <ℤ cross ax ay first_x first_y
        first_above = let f = first_left in let l = long_a in omega (arith, ints, f, l)

        last_below : cross ax ay last_x last_y <ℤ pos 0
        last_below =
            let f = from_last ax ay bx by B.M in
            let g = ap (λ z. B.M *ℤ z) level in let k = Rattle.tl_geom.proofs.Signs.times_zero B.M in
            omega (arith, ints, f, g, k, same_way)

        back_below : (ax *ℤ (pos 0 -ℤ ax) +ℤ ay *ℤ (pos 0 -ℤ ay)) <ℤ pos 0
        back_below = let f = back_dot ax ay in let l = long_a in omega (arith, ints, f, l)

        to_back : (i j : ℤ) → pos 0 <ℤ i → pos 0 <ℤ j → In (i *ℤ first_x +ℤ j *ℤ (pos 0 -ℤ ax)) (i *ℤ first_y +ℤ j *ℤ (pos 0 -ℤ ay))
        to_back i j some some' =
            let f = mix_from ax ay i j first_x first_y (pos 0 -ℤ ax) (pos 0 -ℤ ay) in
            let g = ap (λ z. j *ℤ z) (back_from ax ay) in
            let k = Rattle.tl_geom.proofs.Signs.times_zero j in
            let h = product_above i (cross ax ay first_x first_y) some first_above in
            inl (omega (arith, ints, f, g, k, h))

        from_back : (i j : ℤ) → pos 0 <ℤ i → pos 0 <ℤ j → In (i *ℤ (pos 0 -ℤ ax) +ℤ j *ℤ last_x) (i *ℤ (pos 0 -ℤ ay) +ℤ j *ℤ last_y)
        from_back i j some some' =
            let f = mix_from ax ay i j (pos 0 -ℤ ax) (pos 0 -ℤ ay) last_x last_y in
            let g = ap (λ z. i *ℤ z) (back_from ax ay) in
            let k = Rattle.tl_geom.proofs.Signs.times_zero i in
            let h = product_above j (pos 0 -ℤ cross ax ay last_x last_y) some' (omega (arith, ints, last_below)) in
            let l = minus_times j (cross ax ay last_x last_y) in
            inr (inl (omega (arith, ints, f, g, k, h, l)))

    no_level : turn ≡ pos 0 → dot ≡ pos 0 → ⊥
    no_level level none =
        next.to.nonzero (to_x ∙ zero_product norm bx some (sym (scaled_x ax ay bx by level) ∙ ap (λ z. z *ℤ ax) none ∙ zero_times ax))
        (to_y ∙ zero_product norm by some (sym (scaled_y ax ay bx by level) ∙ ap (λ z. z *ℤ ay) none ∙ zero_times ay))
      where
        norm : ℤ
        norm = ax *ℤ ax +ℤ ay *ℤ ay

        some : norm ≢ pos 0
        some f = let l = long_a in omega (arith, ints, l, f)

        zero_times : (z : ℤ) → pos 0 *ℤ z ≡ pos 0
        zero_times z = same (num (pos 0) ⊗ num z) (num (pos 0)) (omega arith)

    agree : dart_left chains a ≡ dart_right chains b
    agree =
        ⊎_elim by_right
        (⊎_elim
        (λ level. ⊎_elim (by_opposite level) (⊎_elim (λ none. absurd (no_level level none)) (by_one level)) (sign dot))
        by_left)
        (sign turn)

  pub sides_agree : SidesAgree chains
  sides_agree a b next = agree a b next
