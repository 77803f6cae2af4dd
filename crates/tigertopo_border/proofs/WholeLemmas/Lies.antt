-- What lies at a place of a sound map whose faces are true, told by the counts of any sides; also at a place on a chain, where it isn't of
-- the boundary of those sides.
use Rattle.std.proofs.Common.{◌≡◌, ◌↔◌, ℕ, ◌+◌, ℤ, pos, ◌+ℤ◌, ◌<ℤ◌, Bool, false, Some, List, slice_get, subst, arith}
use Rattle.std.proofs.lemmas.Int.{ints}
use Rattle.tl_geom.specs.declared.rational.Rational.{Rational}
use Rattle.tl_map_county.specs.declared.sides.Side.{Side}
use Rattle.tl_map_county.specs.declared.sides.Side.TheVariants.{Outside}
use Rattle.tl_map_county.specs.TheMap.{MapChain}
use Rattle.tl_map_county.specs.Segments.{segments_before}
use Rattle.tl_check_planar.specs.Planar.{IsPlanar, IsOnSegment}
use Rattle.tl_check_sides.specs.Sides.{SidesAgree}
use Rattle.tl_check_faces.specs.Crossings.Headings.{AreProper}
use Rattle.tl_check_inside.specs.Inside.{IsCountAt}
use Rattle.tl_check_faces.specs.Facing.{IsOfChain, IsOff, IsStrictlyOn, FacesAgree}
use Rattle.tl_check_faces.specs.Clear.{IsOffBoundary}
use Rattle.tl_check_faces.specs.Truth.{LiesAt, IsNearer, IsTrueAbout, AreFacesTrue}
use Rattle.tl_check_faces.proofs.CrossingsLemmas.Apart.{apart}
use Rattle.tl_check_faces.proofs.Along.{AreFaced, by_faces}
use Rattle.tl_check_faces.proofs.Bounds.{IsSteep, AreBounded, some_bound, some_steepness}
use Rattle.tl_check_faces.proofs.Ends as chain_ends
use Rattle.tl_check_faces.proofs.FromTruth.{faces_are_true}
use Rattle.tl_check_faces.proofs.Items.{IsLine, steep_line}
use Rattle.tl_check_faces.proofs.OnePolygon.{IsSeen, seen, count, lies_by, no_end_off}
use Rattle.tl_check_faces.proofs.Others.{nearness}
use Rattle.tl_check_faces.proofs.Staying.{stays}
use Rattle.tl_check_faces.proofs.Sums.{number_of}
use Rattle.tl_check_faces.proofs.Unique.{unique}
use Rattle.tigertopo_border.proofs.WholeLemmas.Near.{between_near, on_near}
use Rattle.tigertopo_border.proofs.WholeLemmas.Beside.{some_nearness, less_near, IsWithin, within, IsLeft, left_near}

-- chains of a sound map whose faces are true
pub record AreGood (chains : List MapChain) : Type 0 where
  pub proper : AreProper chains
  pub planar : IsPlanar chains
  pub agree : SidesAgree chains
  pub truth : AreFacesTrue chains

-- the side lies at the place, by the counts of any sides
abbrev pub HasCounts : List MapChain → Rational → Side → Type 0
HasCounts chains q side = (S : Side → Bool) → S Outside ≡ false → IsCountAt chains q S (number_of (S side))

module _ (chains : List MapChain) (good : AreGood chains) where
  faces : FacesAgree chains
  faces = (faces_are_true chains good.proper good.planar good.agree).1 good.truth

  faced : AreFaced chains
  faced = by_faces chains good.planar faces

  -- a place on no chain
  pub counted : (q : Rational) → IsOff chains q → (side : Side) × HasCounts chains q side
  counted q off =
      let k : (K : ℤ) × IsSteep K chains q = some_steepness chains q in
      let line : IsLine k.0 chains q = steep_line k.0 chains q k.1 (no_end_off chains q off) in
      let s : (side : Side) × IsSeen k.0 chains q k.1 line faced off side = seen k.0 chains q k.1 line faced off in
      (s.0, λ S none. count k.0 chains q k.1 line faced off s.0 S none s.1)

  pub counts_of : (q : Rational) → IsOff chains q → (side : Side) → LiesAt chains q side → HasCounts chains q side
  counts_of q off side lies =
      let k : (other : Side) × HasCounts chains q other = counted q off in
      subst (HasCounts chains q) (unique chains q k.0 side (lies_by chains q k.0 k.1) lies) k.1

  -- ---- near a place

  bound : (n : ℕ) × AreBounded n chains
  bound = some_bound chains

  n : ℕ
  n = bound.0

  pub closeness : Rational → ℤ
  closeness r = nearness r n

  pub some_closeness : (r : Rational) → pos 0 <ℤ closeness r
  unfolding closeness
  some_closeness r = some_nearness r n

  module _ (S : Side → Bool) where
    pub boundary_near : (r q : Rational) → IsOffBoundary chains S r → IsNearer (closeness r) r q → IsOffBoundary chains S q
    unfolding closeness n
    boundary_near r q off near c chain is differ (k, held) =
        off c chain is differ (
          k,
          record {
            segment = held.segment;
            from = held.from;
            to = held.to;
            on = on_near chains n bound.1 r q near (segments_before chains c + k) held.segment
                (chain_ends.numbered chains c chain is k held.segment held.from held.to) held.on;
          },
        )

    pub stays_near : (r q : Rational) → IsOffBoundary chains S r → IsNearer (closeness r) r q → (m : ℤ) → IsCountAt chains r S m ↔ IsCountAt chains q S m
    stays_near r q off near m =
        stays chains good.proper S r q
        (record {
          first = off;
          last = boundary_near r q off near;
          between = λ t b. boundary_near r t off (between_near (closeness r) r q t near b);
        })
        (apart chains good.planar good.proper) good.agree m

  -- ---- a place on a chain

  module _ (c : ℕ) (chain : MapChain) (is : slice_get chains c ≡ Some chain) (r : Rational) (k : ℕ) (held : IsOnSegment chain.points k r)
      (S : Side → Bool) (none : S Outside ≡ false) (off : IsOffBoundary chains S r) where
    of : IsOfChain chains chain held.segment
    of = record { c = c; k = k; is = is; from = held.from; to = held.to }

    by_left : (p : Rational) → IsNearer (closeness r) r p → IsStrictlyOn held.segment p → (e : ℤ) × IsTrueAbout chains chain held.segment p e →
        IsCountAt chains r S (number_of (S chain.left))
    unfolding closeness n
    by_left p near on (e, about) =
        (stays_near S r p off near (number_of (S chain.left))).1
        ((stays_near S p l.place (boundary_near S r p off near) (at_near) (number_of (S chain.left))).1
        (counts_of l.place l.off chain.left (about.left l.place (as_near) l.off l.left) S none))
      where
        l : IsLeft chains held.segment p (e +ℤ closeness p)
        l = left_near chains good.planar n bound.1 chain held.segment of p on (e +ℤ closeness p) some
          where
            some : pos 0 <ℤ (e +ℤ closeness p)
            some = omega (arith, ints, about.some, some_closeness p)

        at_near : IsNearer (closeness p) p l.place
        at_near = less_near (closeness p) (e +ℤ closeness p) p l.place (some_closeness p) (omega (arith, ints, about.some)) l.near

        as_near : IsNearer e p l.place
        as_near = less_near e (e +ℤ closeness p) p l.place about.some (omega (arith, ints, some_closeness p)) l.near

    pub on_chain : IsCountAt chains r S (number_of (S chain.left))
    on_chain =
        let w : IsWithin held.segment r (closeness r) = within held.segment r held.on (closeness r) (some_closeness r) in
        by_left w.place w.near w.strictly (good.truth.true_sides chain held.segment w.place of w.strictly)
