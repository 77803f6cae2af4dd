-- Places beside a segment, near any place of it.
use Rattle.std.proofs.Common.{◌≡◌, ◌≢◌, inl, inr, ⊎_elim, ℕ, ◌+◌, ℤ, pos, ◌+ℤ◌, ◌-ℤ◌, ◌*ℤ◌, ◌<ℤ◌, ◌≤ℤ◌, List, refl, sym, ap, subst, ◌∙◌, arith}
use Rattle.std.proofs.lemmas.Bool.{cases_order}
use Rattle.std.proofs.lemmas.Int.{ints, by_lt_z}
use Rattle.tl_geom.specs.declared.rational.Rational.{Rational}
use Rattle.tl_geom.specs.declared.segment.Segment.{Segment}
use Rattle.tl_geom.specs.Plane.{IsOn, IsBetween, cross}
use Rattle.tl_geom.proofs.Polynomials.{num, ◌⊕◌, ◌⊖◌, ◌⊗◌, same}
use Rattle.tl_geom.proofs.Places.{some_step}
use Rattle.tl_geom.proofs.Signs.{mono, cancel_le, product_above, product_at_least, square, square_above, times_zero}
use Rattle.tl_map_county.specs.TheMap.{MapChain}
use Rattle.tl_map_county.specs.Segments.{segments_before}
use Rattle.tl_check_planar.specs.Planar.{IsPlanar}
use Rattle.tl_check_planar.specs.ByHeight.Neighbours.{IsNumbered}
use Rattle.tl_check_planar.proofs.Numbering.{HaveSameEnds}
use Rattle.tl_check_planar.proofs.ByHeight.Numbered.{one_segment}
use Rattle.tl_check_faces.specs.Facing.{IsOfChain, IsOff, IsStrictlyOn}
use Rattle.tl_check_faces.specs.Truth.{IsNearer, turn_about}
use Rattle.tl_check_faces.proofs.Alone.{alone}
use Rattle.tl_check_faces.proofs.Bounds.{IsFar, far, AreBounded}
use Rattle.tl_check_faces.proofs.Ends as chain_ends
use Rattle.tl_check_faces.proofs.Others.{widest_of, nearness}
use Rattle.tl_check_faces.proofs.ToFaces.{ahead}
use Rattle.tigertopo_border.proofs.WholeLemmas.Ahead.{is_near, left_of}
use Rattle.tigertopo_border.proofs.WholeLemmas.Near.{on_near}

times_one : (z : ℤ) → z *ℤ pos 1 ≡ z
times_one z = same (num z ⊗ num (pos 1)) (num z) (omega arith)

one_times : (z : ℤ) → pos 1 *ℤ z ≡ z
one_times z = same (num (pos 1) ⊗ num z) (num z) (omega arith)

-- ---- nearness

smaller : (e e' z w : ℤ) → pos 0 <ℤ e → e ≤ℤ e' → pos 0 <ℤ w → (e' *ℤ z) <ℤ w → (e *ℤ z) <ℤ w
smaller e e' z w some le above less =
    by_lt_z z (pos 0)
    (λ below.
    let m : (e *ℤ z) ≤ℤ (e *ℤ pos 0) = mono e z (pos 0) (omega (arith, ints, some)) (omega (arith, ints, below)) in
    let zero = times_zero e in omega (arith, ints, m, zero, above))
    (λ more.
    let m : (z *ℤ e) ≤ℤ (z *ℤ e') = mono z e e' more le in
    let a : z *ℤ e ≡ e *ℤ z = same (num z ⊗ num e) (num e ⊗ num z) (omega arith) in
    let b : z *ℤ e' ≡ e' *ℤ z = same (num z ⊗ num e') (num e' ⊗ num z) (omega arith) in
    omega (arith, ints, m, a, b, less))

pub less_near : (e e' : ℤ) (r q : Rational) → pos 0 <ℤ e → e ≤ℤ e' → IsNearer e' r q → IsNearer e r q
less_near e e' r q some le near =
    let w : pos 0 <ℤ (r.d *ℤ q.d) = product_above r.d q.d r.above_zero q.above_zero in
    record {
      west = smaller e e' _ (r.d *ℤ q.d) some le w near.west;
      east = smaller e e' _ (r.d *ℤ q.d) some le w near.east;
      south = smaller e e' _ (r.d *ℤ q.d) some le w near.south;
      north = smaller e e' _ (r.d *ℤ q.d) some le w near.north;
    }

pub some_nearness : (r : Rational) (n : ℕ) → pos 0 <ℤ nearness r n
some_nearness r n = product_above r.d (widest_of n +ℤ widest_of n +ℤ pos 1) r.above_zero (omega (arith, ints))

-- ---- between a place of a segment and its middle

module _ (a b x d m : ℤ) (d_above : pos 0 <ℤ d) (some_m : pos 0 <ℤ m) where
  abbrev middle : ℤ
  middle = m *ℤ x +ℤ pos 1 *ℤ (a +ℤ b)

  abbrev parts : ℤ
  parts = m *ℤ d +ℤ pos 1 *ℤ pos 2

  spread : (v : ℤ) → parts *ℤ v ≡ m *ℤ (d *ℤ v) +ℤ v +ℤ v
  spread v = same ((num m ⊗ num d ⊕ num (pos 1) ⊗ num (pos 2)) ⊗ num v) (num m ⊗ (num d ⊗ num v) ⊕ num v ⊕ num v) (omega arith)

  rises : (v w : ℤ) → (d *ℤ v) ≤ℤ x → x ≤ℤ (d *ℤ w) → v ≤ℤ w
  rises v w low high = cancel_le d v w d_above (omega (arith, ints, low, high))

  from : (v w : ℤ) → a +ℤ b ≡ v +ℤ w → (d *ℤ v) ≤ℤ x → x ≤ℤ (d *ℤ w) → ((parts *ℤ v) ≤ℤ middle) × (middle ≤ℤ (parts *ℤ w))
  from v w e low high =
      let le = rises v w low high in
      let one : (m *ℤ (d *ℤ v)) ≤ℤ (m *ℤ x) = mono m (d *ℤ v) x (omega (arith, ints, some_m)) low in
      let two : (m *ℤ x) ≤ℤ (m *ℤ (d *ℤ w)) = mono m x (d *ℤ w) (omega (arith, ints, some_m)) high in
      let f = spread v in let g = spread w in let h = one_times (a +ℤ b) in
      (omega (arith, ints, le, one, f, h, e), omega (arith, ints, le, two, g, h, e))

  pub middle_between : IsBetween (d *ℤ a) (d *ℤ b) x → IsBetween (parts *ℤ a) (parts *ℤ b) middle
  middle_between = ⊎_elim (λ k. inl (from a b refl k.0 k.1)) (λ k. inr (from b a (omega (arith, ints)) k.0 k.1))

  apart : (v w : ℤ) → a +ℤ b ≡ v +ℤ w → v ≢ w → (d *ℤ v) ≤ℤ x → x ≤ℤ (d *ℤ w) → (middle *ℤ pos 1 ≢ v *ℤ parts) × (middle *ℤ pos 1 ≢ w *ℤ parts)
  apart v w e ne low high =
      let le = rises v w low high in
      let lt : v <ℤ w = by_lt_z v w (λ k. k) (λ k. absurd (ne (omega (arith, ints, le, k)))) in
      let one : (m *ℤ (d *ℤ v)) ≤ℤ (m *ℤ x) = mono m (d *ℤ v) x (omega (arith, ints, some_m)) low in
      let two : (m *ℤ x) ≤ℤ (m *ℤ (d *ℤ w)) = mono m x (d *ℤ w) (omega (arith, ints, some_m)) high in
      let f = spread v in let g = spread w in let h = one_times (a +ℤ b) in let i = times_one middle in
      let j : v *ℤ parts ≡ parts *ℤ v = same (num v ⊗ (num m ⊗ num d ⊕ num (pos 1) ⊗ num (pos 2))) ((num m ⊗ num d ⊕ num (pos 1) ⊗ num (pos 2)) ⊗ num v) (omega arith) in
      let k : w *ℤ parts ≡ parts *ℤ w = same (num w ⊗ (num m ⊗ num d ⊕ num (pos 1) ⊗ num (pos 2))) ((num m ⊗ num d ⊕ num (pos 1) ⊗ num (pos 2)) ⊗ num w) (omega arith) in (
        λ z. omega (arith, ints, lt, one, f, h, e, i, j, z),
        λ z. omega (arith, ints, lt, two, g, h, e, i, k, z),
      )

  pub no_ends : a ≢ b → IsBetween (d *ℤ a) (d *ℤ b) x → (middle *ℤ pos 1 ≢ a *ℤ parts) × (middle *ℤ pos 1 ≢ b *ℤ parts)
  no_ends ne = ⊎_elim (λ k. apart a b refl ne k.0 k.1)
      (λ k. let two = apart b a (omega (arith, ints)) (λ e. ne (sym e)) k.0 k.1 in (two.1, two.0))

straight_on : (ax ay bx by rx ry rd m : ℤ) →
    cross (bx -ℤ ax) (by -ℤ ay) ((m *ℤ rx +ℤ pos 1 *ℤ (ax +ℤ bx)) -ℤ (m *ℤ rd +ℤ pos 1 *ℤ pos 2) *ℤ ax) ((m *ℤ ry +ℤ pos 1 *ℤ (ay +ℤ by)) -ℤ (m *ℤ rd +ℤ pos 1 *ℤ pos 2) *ℤ ay) ≡
    m *ℤ cross (bx -ℤ ax) (by -ℤ ay) (rx -ℤ rd *ℤ ax) (ry -ℤ rd *ℤ ay)
straight_on ax ay bx by rx ry rd m =
    let a = num ax in let b = num ay in let c = num bx in let e = num by in let M = num m in let R = num rd in let one = num (pos 1) in let two = num (pos 2) in
    same ((c ⊖ a) ⊗ ((M ⊗ num ry ⊕ one ⊗ (b ⊕ e)) ⊖ (M ⊗ R ⊕ one ⊗ two) ⊗ b) ⊖ (e ⊖ b) ⊗ ((M ⊗ num rx ⊕ one ⊗ (a ⊕ c)) ⊖ (M ⊗ R ⊕ one ⊗ two) ⊗ a))
    (M ⊗ ((c ⊖ a) ⊗ (num ry ⊖ R ⊗ b) ⊖ (e ⊖ b) ⊗ (num rx ⊖ R ⊗ a))) (omega arith)

abbrev pub some_two : pos 0 ≤ℤ pos 2
some_two = omega (arith, ints)

abbrev pub one : pos 0 <ℤ pos 1
one = omega (arith, ints)

module _ (u : Segment) (r : Rational) (on : IsOn u r) (m : ℤ) (some_m : pos 0 <ℤ m) where
  abbrev pub inner : Rational
  inner = ahead r (u.a.x +ℤ u.b.x) (u.a.y +ℤ u.b.y) (pos 2) some_two m (pos 1) some_m one

  inner_on : IsOn u inner
  inner_on = record {
    straight = straight_on u.a.x u.a.y u.b.x u.b.y r.x r.y r.d m ∙ ap (λ z. m *ℤ z) on.straight ∙ times_zero m;
    x_between = middle_between u.a.x u.b.x r.x r.d m r.above_zero some_m on.x_between;
    y_between = middle_between u.a.y u.b.y r.y r.d m r.above_zero some_m on.y_between;
  }

  pub strictly : IsStrictlyOn u inner
  strictly = record {
    on = inner_on;
    no_end = ⊎_elim
        (λ ne.
        let two = no_ends u.a.x u.b.x r.x r.d m r.above_zero some_m (λ e. ne (omega (arith, ints, e))) on.x_between in
        ⊎_elim (λ k. two.0 k.x) (λ k. two.1 k.x))
        (λ level.
        let two = no_ends u.a.y u.b.y r.y r.d m r.above_zero some_m (λ e. level.1 (omega (arith, ints, e))) on.y_between in
        ⊎_elim (λ k. two.0 k.y) (λ k. two.1 k.y))
        (some_step u);
  }

-- ---- as near as may be

-- so many parts of the place, that one of the other is as near as e
module _ (p : Rational) (x y d : ℤ) (at_least : pos 0 ≤ℤ d) (e : ℤ) (some_e : pos 0 <ℤ e) where
  east : IsFar (x *ℤ p.d -ℤ p.x *ℤ d)
  east = far (x *ℤ p.d -ℤ p.x *ℤ d)

  north : IsFar (y *ℤ p.d -ℤ p.y *ℤ d)
  north = far (y *ℤ p.d -ℤ p.y *ℤ d)

  b : ℕ
  b = east.n + north.n

  pub enough : ℤ
  enough = e *ℤ pos b +ℤ pos 1

  pub some_parts : pos 0 <ℤ enough
  unfolding enough
  some_parts = let more = product_at_least e (pos b) (omega (arith, ints, some_e)) (omega (arith, ints)) in omega (arith, ints, more)

  pub ahead_near : IsNearer e p (ahead p x y d at_least enough (pos 1) some_parts one)
  unfolding enough b
  ahead_near =
      is_near p x y d at_least e enough some_e some_parts one b (omega (arith, ints))
      (let h = east.below in omega (arith, ints, h)) (let h = east.above in omega (arith, ints, h))
      (let h = north.below in omega (arith, ints, h)) (let h = north.above in omega (arith, ints, h))

-- strictly within a segment, near any place of it
pub record IsWithin (u : Segment) (r : Rational) (e : ℤ) : Type 0 where
  pub place : Rational
  pub near : IsNearer e r place
  pub strictly : IsStrictlyOn u place

pub within : (u : Segment) (r : Rational) → IsOn u r → (e : ℤ) → pos 0 <ℤ e → IsWithin u r e
within u r on e some_e =
    let m : ℤ = enough r (u.a.x +ℤ u.b.x) (u.a.y +ℤ u.b.y) (pos 2) some_two e some_e in
    let some_m : pos 0 <ℤ m = some_parts r (u.a.x +ℤ u.b.x) (u.a.y +ℤ u.b.y) (pos 2) some_two e some_e in
    record {
      place = inner u r on m some_m;
      near = ahead_near r (u.a.x +ℤ u.b.x) (u.a.y +ℤ u.b.y) (pos 2) some_two e some_e;
      strictly = strictly u r on m some_m;
    }

-- ---- on the left of a segment, near a place strictly within it

left_step : (ux uy px py d : ℤ) → cross ux uy ((pos 0 -ℤ uy) *ℤ d -ℤ px *ℤ pos 0) (ux *ℤ d -ℤ py *ℤ pos 0) ≡ d *ℤ (ux *ℤ ux +ℤ uy *ℤ uy)
left_step ux uy px py d =
    let U = num ux in let V = num uy in let zero = num (pos 0) in
    same (U ⊗ (U ⊗ num d ⊖ num py ⊗ zero) ⊖ V ⊗ ((zero ⊖ V) ⊗ num d ⊖ num px ⊗ zero)) (num d ⊗ (U ⊗ U ⊕ V ⊗ V)) (omega arith)

pub long : (u : Segment) → pos 0 <ℤ ((u.b.x -ℤ u.a.x) *ℤ (u.b.x -ℤ u.a.x) +ℤ (u.b.y -ℤ u.a.y) *ℤ (u.b.y -ℤ u.a.y))
long u =
    let p = square (u.b.x -ℤ u.a.x) in let q = square (u.b.y -ℤ u.a.y) in
    ⊎_elim (λ ne. let h = square_above (u.b.x -ℤ u.a.x) ne in omega (arith, ints, h, q))
    (λ level. let h = square_above (u.b.y -ℤ u.a.y) level.1 in omega (arith, ints, h, p)) (some_step u)

-- a place as near as e, on no chain and on the left
pub record IsLeft (chains : List MapChain) (u : Segment) (p : Rational) (e : ℤ) : Type 0 where
  pub place : Rational
  pub near : IsNearer e p place
  pub left : pos 0 <ℤ turn_about u place
  pub off : IsOff chains place

module _ (chains : List MapChain) (planar : IsPlanar chains) (n : ℕ) (bounded : AreBounded n chains) (chain : MapChain) (u : Segment) (of : IsOfChain chains chain u)
    (p : Rational) (on : IsStrictlyOn u p) where
  -- near it the chains hold what the segment holds alone
  pub off_near : (q : Rational) → IsNearer (nearness p n) p q → ¬ (turn_about u q ≡ pos 0) → IsOff chains q
  off_near q near some c other is (k, held) =
      let own : IsNumbered chains (segments_before chains of.c + of.k) u = chain_ends.numbered chains of.c chain of.is of.k u of.from of.to in
      let there : IsNumbered chains (segments_before chains c + k) held.segment = chain_ends.numbered chains c other is k held.segment held.from held.to in
      let on' : IsOn held.segment p = on_near chains n bounded p q near (segments_before chains c + k) held.segment there held.on in
      let no : ¬ ¬ (segments_before chains of.c + of.k ≡ segments_before chains c + k) = λ ne.
      alone chains planar (segments_before chains of.c + of.k) (segments_before chains c + k) u held.segment p own there on ne on' in
      ⊎_elim (λ e. absurd (on_it (one_segment chains (segments_before chains c + k) u held.segment (subst (λ s. IsNumbered chains s u) e own) there) held.on))
      (λ other. absurd (no (λ e. ⊎_elim (λ lt. omega (arith, lt, e)) (λ lt. omega (arith, lt, e)) other)))
      (cases_order (segments_before chains of.c + of.k) (segments_before chains c + k))
    where
      on_it : HaveSameEnds u held.segment → IsOn held.segment q → ⊥
      on_it e h = some (sides e ∙ h.straight)
        where
          sides : HaveSameEnds u held.segment → turn_about u q ≡ turn_about held.segment q
          sides e = rw (e.first, e.last) refl

  pub left_near : (e : ℤ) → pos 0 <ℤ e → IsLeft chains u p e
  left_near e some_e =
      let more : ℤ = e +ℤ nearness p n in
      let some_near = some_nearness p n in
      let some : pos 0 <ℤ more = omega (arith, ints, some_e, some_near) in
      let x : ℤ = pos 0 -ℤ (u.b.y -ℤ u.a.y) in let y : ℤ = u.b.x -ℤ u.a.x in
      let zero : pos 0 ≤ℤ pos 0 = omega (arith, ints) in
      let m : ℤ = enough p x y (pos 0) zero more some in
      let some_m : pos 0 <ℤ m = some_parts p x y (pos 0) zero more some in
      let near : IsNearer more p (ahead p x y (pos 0) zero m (pos 1) some_m one) = ahead_near p x y (pos 0) zero more some in
      let step = left_step (u.b.x -ℤ u.a.x) (u.b.y -ℤ u.a.y) p.x p.y p.d in
      let some_left = product_above p.d ((u.b.x -ℤ u.a.x) *ℤ (u.b.x -ℤ u.a.x) +ℤ (u.b.y -ℤ u.a.y) *ℤ (u.b.y -ℤ u.a.y)) p.above_zero (long u) in
      let left = left_of p x y (pos 0) zero u on m some_m one (omega (arith, ints, step, some_left)) in
      record {
        place = ahead p x y (pos 0) zero m (pos 1) some_m one;
        near = less_near e more p (ahead p x y (pos 0) zero m (pos 1) some_m one) some_e (omega (arith, ints, some_near)) near;
        left = left;
        off = off_near (ahead p x y (pos 0) zero m (pos 1) some_m one)
            (less_near (nearness p n) more p (ahead p x y (pos 0) zero m (pos 1) some_m one) some_near (omega (arith, ints, some_e)) near)
            (λ z. omega (arith, ints, left, z));
      }
