-- A ring winds about no point outside of a rectangle that holds it.
use Rattle.std.proofs.Common.{◌≡◌, ⊎_elim, ℕ, suc, ◌<◌, ℤ, pos, neg_ℤ, ◌-ℤ◌, ◌<ℤ◌, Bool, true, false, cond, Option, Some, None, List, [], ◌∷◌, length, reverse, All, refl, sym, ap, ◌∙◌, arith}
use Rattle.std.specs.Prelude.{slice_get, slice_index}
use Rattle.std.proofs.lemmas.Int.{ints}
use Rattle.tl_geom.specs.declared.point.Point.{Point}
use Rattle.tl_geom.specs.declared.rect.Rect.{Rect}
use Rattle.tl_geom.specs.Rectangle.{Holds}
use Rattle.tl_map_county.specs.TheMap.{MapChain}
use Rattle.tl_map_county.specs.Darts.{chain_of, is_along, dart_start, dart_end}
use Rattle.tl_check_sides.specs.Sides.{IsRing}
use Rattle.tl_check_faces.specs.Crossings.Heights.{is_above}
use Rattle.tl_check_faces.specs.Crossings.Boxes.{IsOutsideOfBox}
use Rattle.tl_check_faces.specs.Crossings.Rings.{crossing, crossings_from, crossings, dart_crossings, winding, HoldsRing}
use Rattle.tl_check_faces.proofs.CrossingsLemmas.Telescoping.{bit, last_of}
use Rattle.tl_check_faces.proofs.CrossingsLemmas.Ends.{last_is}
use Rattle.tl_check_faces.proofs.CrossingsLemmas.Boxes.{outside_rect}
use Rattle.tl_check_faces.proofs.CrossingsLemmas.Across.{east_adds, south_adds, north_adds, west_adds}
use Rattle.tl_check_faces.proofs.CrossingsLemmas.Adding.{total_same, total_none, round_gains}

-- ---- along a chain

module _ (q : Point) (P : Point → Type 0) where
  rest_of : (a : Point) (points : List Point) → All P (a ∷ points) → All P points
  rest_of a points all k d lt = all (suc k) d (omega (arith, lt))

  -- no segment adds
  module _ (none : (a b : Point) → P a → P b → crossing q a b ≡ pos 0) where
    none_from : (a : Point) (points : List Point) → P a → All P points → crossings_from q a points ≡ pos 0
    none_from a [] p all = refl
    none_from a (b ∷ points) p all =
        let next : P b = all 0 b (omega arith) in
        let here = none a b p next in
        let rest = none_from b points next (rest_of b points all) in
        omega (arith, ints, here, rest)

    pub none_along : (points : List Point) → All P points → crossings q points ≡ pos 0
    none_along [] all = refl
    none_along (a ∷ points) all = none_from a points (all 0 a (omega arith)) (rest_of a points all)

-- a point counts where it is above the height of q
abbrev height_of : Point → Option Point → ℤ
height_of q None = pos 0
height_of q (Some p) = pos (bit (is_above q.y p))

module _ (q : Point) where
  abbrev IsEastward : Point → Type 0
  IsEastward p = q.x <ℤ p.x

  abbrev final : Point → List Point → Point
  final a points = last_of a points

  gains_from : (a : Point) (points : List Point) → IsEastward a → All IsEastward points →
      crossings_from q a points ≡ height_of q (Some (final a points)) -ℤ height_of q (Some a)
  unfolding last_of
  gains_from a [] p all = omega (arith, ints)
  gains_from a (b ∷ points) p all =
      let next : IsEastward b = all 0 b (omega arith) in
      let here = west_adds q a b p next in
      let rest = gains_from b points next (rest_of q IsEastward b points all) in
      omega (arith, ints, here, rest)

  -- a chain that is east of q adds what is above its height at the end less what is at the start
  gains_along : (points : List Point) → All IsEastward points →
      crossings q points ≡ height_of q (slice_get (reverse points) 0) -ℤ height_of q (slice_get points 0)
  gains_along [] all = refl
  gains_along (a ∷ points) all =
      gains_from a points (all 0 a (omega arith)) (rest_of q IsEastward a points all)
      ∙ ap (λ o. height_of q o -ℤ height_of q (Some a)) (sym (last_is a points))

-- ---- a dart

module _ (chains : List MapChain) (q : Point) where
  abbrev start_height : ℕ → ℤ
  start_height d = height_of q (dart_start chains d)

  abbrev end_height : ℕ → ℤ
  end_height d = height_of q (dart_end chains d)

  -- each point of its chain is so
  abbrev AllOf : (Point → Type 0) → ℕ → Type 0
  AllOf P d = (chain : MapChain) → chain_of chains d ≡ Some chain → All P chain.points

  abbrev signed : Bool → ℤ → ℤ
  signed along n = cond along n (neg_ℤ n)

  pub dart_gains : (d : ℕ) → AllOf (IsEastward q) d → dart_crossings chains q d ≡ end_height d -ℤ start_height d
  dart_gains d all = go (chain_of chains d) (is_along d) refl refl
    where
      go : (o : Option MapChain) (along : Bool) → chain_of chains d ≡ o → is_along d ≡ along → dart_crossings chains q d ≡ end_height d -ℤ start_height d
      go None along e f = rw e refl
      go (Some c) true e f = rw (e, f) (gains_along q c.points (all c e))
      go (Some c) false e f =
          let gains = gains_along q c.points (all c e) in
          rw (e, f) (omega (arith, ints, gains))

  none_dart : (P : Point → Type 0) → ((a b : Point) → P a → P b → crossing q a b ≡ pos 0) → (d : ℕ) → AllOf P d → dart_crossings chains q d ≡ pos 0
  none_dart P none d all = go (chain_of chains d) (is_along d) refl refl
    where
      go : (o : Option MapChain) (along : Bool) → chain_of chains d ≡ o → is_along d ≡ along → dart_crossings chains q d ≡ pos 0
      go None along e f = rw e refl
      go (Some c) true e f = rw (e, f) (none_along q P none c.points (all c e))
      go (Some c) false e f = rw (e, f) (ap neg_ℤ (none_along q P none c.points (all c e)))

  -- ---- a ring

  module _ (ring : List ℕ) (is : IsRing chains ring) where
    abbrev EachOf : (Point → Type 0) → Type 0
    EachOf P = (k : ℕ) → k < length ring → AllOf P (slice_index ring k)

    gains_nothing : EachOf (IsEastward q) → winding chains q ring ≡ pos 0
    gains_nothing each =
        total_same (dart_crossings chains q) (λ d. end_height d -ℤ start_height d) ring (λ k lt. dart_gains (slice_index ring k) (each k lt))
        ∙ round_gains start_height end_height ring (λ k lt. ap (height_of q) (is.follows k lt).meets)

    none_ring : (P : Point → Type 0) → ((a b : Point) → P a → P b → crossing q a b ≡ pos 0) → EachOf P → winding chains q ring ≡ pos 0
    none_ring P none each =
        total_same (dart_crossings chains q) (λ d. pos 0) ring (λ k lt. none_dart P none (slice_index ring k) (each k lt))
        ∙ total_none ring

    pub winds_about_none : (r : Rect) → HoldsRing chains r ring → ¬ Holds r q → winding chains q ring ≡ pos 0
    winds_about_none r holds out =
        ⊎_elim
        (λ west. gains_nothing (each (IsEastward q) west))
        (λ rest. ⊎_elim
        (λ east. none_ring (λ p. p.x <ℤ q.x) (east_adds q) (each (λ p. p.x <ℤ q.x) east))
        (λ rest. ⊎_elim
        (λ south. none_ring (λ p. q.y <ℤ p.y) (south_adds q) (each (λ p. q.y <ℤ p.y) south))
        (λ north. none_ring (λ p. p.y <ℤ q.y) (north_adds q) (each (λ p. p.y <ℤ q.y) north))
        rest)
        rest)
        outside
      where
        outside : IsOutsideOfBox (Holds r) q
        outside = outside_rect (Holds r) r q (λ p h. h) out

        each : (P : Point → Type 0) → ((p : Point) → Holds r p → P p) → EachOf P
        each P of k lt chain at i d within = of _ (holds k 0 lt chain at i d within)
