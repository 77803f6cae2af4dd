-- Headings of darts, and what is within the turn from one to another.
use Rattle.std.proofs.Common.{◌≡◌, inl, inr, ⊎_elim, ℕ, zero, suc, ℤ, pos, ◌-ℤ◌, ◌*ℤ◌, ◌<ℤ◌, ◌<◌, ◌/◌, Some, None, List, [], ◌∷◌, length, sym, ◌∙◌, arith}
use Rattle.std.specs.Prelude.{slice_get}
use Rattle.std.specs.Option.{option_and_then}
use Rattle.std.proofs.lemmas.Int.{ints}
use Rattle.tl_geom.specs.declared.point.Point.{Point}
use Rattle.tl_geom.specs.declared.direction.Direction.{Direction}
use Rattle.tl_geom.specs.Turning.{cross_of, dot_of, IsOneDirection, IsWithin, below_half, above_half, half, full, IsBelow}
use Rattle.tl_geom.proofs.Polynomials.{num, ◌⊖◌, ◌⊗◌, same}
use Rattle.tl_geom.proofs.Halves.{halves, same_way, AreOneHalf}
use Rattle.tl_geom.proofs.Order.{before_of, not_after, not_one}
use Rattle.tl_geom.proofs.Within.{alike_below, alike_above}
use Rattle.tl_map_county.specs.TheMap.{MapChain}
use Rattle.tl_map_county.specs.Darts.{Heads, dart_start, directed, is_along}
use Rattle.tl_check_sides.specs.Sides.{dart_count}
use Rattle.tl_check_sides.specs.Rounds.{HeadsBefore}

-- a dart that starts somewhere is one of the chains'
pub dart_within : (chains : List MapChain) (d : ℕ) (p : Point) → dart_start chains d ≡ Some p → d < dart_count chains
dart_within chains d p at = let h = go chains (d / 2) at in omega (arith, h)
  where
    go : (cs : List MapChain) (i : ℕ) → option_and_then (λ (c : MapChain). slice_get (directed (is_along d) c.points) 0) (slice_get cs i) ≡ Some p → i < length cs
    go [] i at = absurd (let e : None ≡ Some p = at in cc)
    go (c ∷ cs) zero at = omega arith
    go (c ∷ cs) (suc i) at = let h = go cs i at in omega (arith, h)

crossed : (a b c d : ℤ) → a ≡ c → b ≡ d → (a *ℤ d) -ℤ (b *ℤ c) ≡ pos 0
crossed a b c d e f = rw (e, f) (same (num c ⊗ num d ⊖ num d ⊗ num c) (num (pos 0)) (omega arith))

one_half_both : (u v : Direction) → u.x ≡ v.x → u.y ≡ v.y → AreOneHalf u v
one_half_both u v x y = ⊎_elim
    (λ f. inl (f, ⊎_elim (λ up. inl (omega (arith, ints, up, y))) (λ level. inr (omega (arith, ints, level.0, y), omega (arith, ints, level.1, x))) f))
    (λ s. inr (s, ⊎_elim (λ down. inl (omega (arith, ints, down, y))) (λ level. inr (omega (arith, ints, level.0, y), omega (arith, ints, level.1, x))) s))
    (halves u)

same_direction : (u v : Direction) → u.x ≡ v.x → u.y ≡ v.y → IsOneDirection u v
same_direction u v x y =
    let parallel : cross_of u v ≡ pos 0 = crossed u.x u.y v.x v.y x y in
    record { parallel = parallel; same_way = same_way u v (one_half_both u v x y) parallel }

-- two headings of one dart are one direction
pub heads_alike : (chains : List MapChain) (d : ℕ) (u v : Direction) → Heads chains d u → Heads chains d v → IsOneDirection u v
heads_alike chains d u v hu hv =
    let first : Some hu.first ≡ Some hv.first = sym hu.starts ∙ hv.starts in
    let second : Some hu.second ≡ Some hv.second = sym hu.goes ∙ hv.goes in
    let p : hu.first ≡ hv.first = cc in
    let q : hu.second ≡ hv.second = cc in
    let x : u.x ≡ v.x = hu.x ∙ (λ i. (q i).x -ℤ (p i).x) ∙ sym hv.x in
    let y : u.y ≡ v.y = hu.y ∙ (λ i. (q i).y -ℤ (p i).y) ∙ sym hv.y in
    same_direction u v x y

-- the order of two darts, by any of their headings
pub with_heads : (chains : List MapChain) (d e : ℕ) (u v : Direction) → HeadsBefore chains d e → Heads chains d u → Heads chains e v → IsBelow u v
with_heads chains d e u v b hu hv =
    alike_below u b.first v (heads_alike chains d u b.first hu b.d_heads) (alike_above v b.second b.first (heads_alike chains e v b.second hv b.e_heads) b.rises)

pub never_both : (u v : Direction) → IsBelow u v → ¬ IsBelow v u
never_both u v b c = not_after u v (before_of u v b) (before_of v u c)

pub never_one : (u v : Direction) → IsBelow u v → ¬ IsOneDirection u v
never_one u v b = not_one u v (before_of u v b)

-- within the full turn from a direction to itself is nothing that has the direction
pub nothing_within : (u w v : Direction) → IsOneDirection u w → IsOneDirection u v → ¬ IsWithin u w v
nothing_within u w v o p (below_half r a b) = let e : cross_of u w ≡ pos 0 = o.parallel in omega (arith, ints, e, r)
nothing_within u w v o p (above_half r some) = let e : cross_of u w ≡ pos 0 = o.parallel in omega (arith, ints, e, r)
nothing_within u w v o p (half t a) =
    let h : pos 0 <ℤ dot_of u w = o.same_way in
    let k : dot_of u w <ℤ pos 0 = t.other_way in
    omega (arith, ints, h, k)
nothing_within u w v o p (full t n) = n p
