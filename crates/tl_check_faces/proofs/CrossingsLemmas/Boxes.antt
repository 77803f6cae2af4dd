-- Boxes as rectangles, and the box of all chains.
use Rattle.std.proofs.Common.{inl, inr, ⊎_elim, ◌<ℤ◌, ℕ, ◌+◌, Bool, List, arith}
use Rattle.std.proofs.lemmas.Int.{ints, by_lt_z}
use Rattle.tl_geom.specs.declared.point.Point.{Point}
use Rattle.tl_geom.specs.declared.rect.Rect.{Rect}
use Rattle.tl_geom.specs.declared.segment.Segment.{Segment}
use Rattle.tl_geom.specs.Plane.{IsOn, whole}
use Rattle.tl_geom.specs.Rectangle.{Holds}
use Rattle.tl_map_county.specs.declared.sides.Side.{Side}
use Rattle.tl_map_county.specs.TheMap.{MapChain}
use Rattle.tl_check_inside.specs.Places.{IsHeldBy}
use Rattle.tl_check_faces.specs.Crossings.Boxes.{IsOnBoundary, IsOfChains, IsOutsideOfBox}
use Rattle.tl_check_faces.proofs.CrossingsLemmas.AtHeight.{all_east, all_west, one_times}
use Rattle.tl_check_faces.proofs.CrossingsLemmas.Boxed.{contained}

-- a point that a rectangle doesn't hold lies outside of the box of points that it holds
pub outside_rect : (P : Point → Type 0) (r : Rect) (q : Point) → ((p : Point) → P p → Holds r p) → ¬ Holds r q → IsOutsideOfBox P q
outside_rect P r q holds out =
    by_lt_z q.x r.xmin (λ west. inl (λ p h. let k = (holds p h).west in omega (arith, ints, west, k)))
    (λ from_west. by_lt_z r.xmax q.x (λ east. inr (inl (λ p h. let k = (holds p h).east in omega (arith, ints, east, k))))
    (λ from_east. by_lt_z q.y r.ymin (λ south. inr (inr (inl (λ p h. let k = (holds p h).south in omega (arith, ints, south, k)))))
    (λ from_south. by_lt_z r.ymax q.y (λ north. inr (inr (inr (λ p h. let k = (holds p h).north in omega (arith, ints, north, k)))))
    (λ from_north. absurd (out (record { west = from_west; east = from_east; south = from_south; north = from_north }))))))

of_fewer : (P Q : Point → Type 0) (q : Point) → ((p : Point) → Q p → P p) → IsOutsideOfBox P q → IsOutsideOfBox Q q
of_fewer P Q q of outside =
    ⊎_elim (λ west. inl (λ p h. west p (of p h)))
    (λ rest. ⊎_elim (λ east. inr (inl (λ p h. east p (of p h)))) (λ rest. ⊎_elim (λ south. inr (inr (inl (λ p h. south p (of p h))))) (λ north. inr (inr (inr (λ p h. north p (of p h))))) rest) rest)
    outside

-- what is outside of the box of all chains is outside of that of a boundary
pub of_all : (chains : List MapChain) (S : Side → Bool) (q : Point) → IsOutsideOfBox (IsOfChains chains) q → IsOutsideOfBox (IsOnBoundary chains S) q
of_all chains S q outside = of_fewer (IsOfChains chains) (IsOnBoundary chains S) q (λ p b. record { c = b.c; chain = b.chain; is = b.is; holds = b.holds }) outside

-- and on no chain
south_of : (s : Segment) (q : Point) → q.y <ℤ s.a.y → q.y <ℤ s.b.y → ¬ IsOn s (whole q)
south_of s q a b on =
    let f = one_times s.a.y in
    let g = one_times s.b.y in
    ⊎_elim (λ h. let k = h.0 in omega (arith, ints, a, f, k)) (λ h. let k = h.0 in omega (arith, ints, b, g, k)) on.y_between

north_of : (s : Segment) (q : Point) → s.a.y <ℤ q.y → s.b.y <ℤ q.y → ¬ IsOn s (whole q)
north_of s q a b on =
    let f = one_times s.a.y in
    let g = one_times s.b.y in
    ⊎_elim (λ h. let k = h.1 in omega (arith, ints, b, g, k)) (λ h. let k = h.1 in omega (arith, ints, a, f, k)) on.y_between

pub off_all : (chains : List MapChain) (q : Point) (c : ℕ) → IsOutsideOfBox (IsOfChains chains) q → ¬ IsHeldBy chains q c
off_all chains q c outside held =
    let s : Segment = held.on.1.segment in
    let first : IsOfChains chains s.a = record { c = c; chain = held.chain; is = held.is; holds = contained held.chain.points held.on.0 s.a held.on.1.from } in
    let last : IsOfChains chains s.b = record { c = c; chain = held.chain; is = held.is; holds = contained held.chain.points (held.on.0 + 1) s.b held.on.1.to } in
    let one = one_times q.x in
    ⊎_elim
    (λ west. let past = all_east s q (whole q) (west s.a first) (west s.b last) held.on.1.on in omega (arith, ints, past, one))
    (λ rest. ⊎_elim
    (λ east. let past = all_west s q (whole q) (east s.a first) (east s.b last) held.on.1.on in omega (arith, ints, past, one))
    (λ rest. ⊎_elim (λ south. south_of s q (south s.a first) (south s.b last) held.on.1.on) (λ north. north_of s q (north s.a first) (north s.b last) held.on.1.on) rest)
    rest)
    outside
