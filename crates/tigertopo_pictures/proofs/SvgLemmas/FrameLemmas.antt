-- Rectangles and frames, part by part.
use Rattle.std.proofs.Common.{◌≡◌, ℕ, ◌+◌, ◌*◌, ◌≤◌, arith, ℤ, List, length, drop, refl, sym, ap, ap₂, ◌∙◌}
use Rattle.tigertopo_pictures.specs.declared.svg.frame.Frame.{Frame}
use Rattle.std.specs.Prelude.{slice_get, Option, Some}
use Rattle.std.proofs.Math.Nat.{mul-le-mul_left, mul-le-mul_right}
use Rattle.std.proofs.lemmas.List.{at_drop_all}
use Rattle.tl_geom.specs.declared.point.Point.{Point}
use Rattle.tl_geom.specs.declared.rational.Rational.{Rational}
use Rattle.tl_map_county.specs.declared.sides.Side.{Side}
use Rattle.tl_map_county.specs.TheMap.{MapChain, IsChain}
use Rattle.std.specs.Prelude.{Bool, true, false, ◌&&◌}
use Rattle.tigertopo_pictures.specs.Svg.Frames.{around_points, around_chains, around_place, around_places, is_across, are_one_sided}
use Rattle.tigertopo_pictures.proofs.PieceLemmas.{from_place}
use Rattle.tl_geom.specs.declared.rect.Rect.{Rect}

pub product_le : (a b m n : ℕ) → a ≤ m → b ≤ n → a * b ≤ m * n
product_le a b m n first second = omega (arith, mul-le-mul_right b first, mul-le-mul_left m second)

-- two rectangles with the same sides
pub same_sides : (a b c d e f g h : ℤ) → a ≡ e → b ≡ f → c ≡ g → d ≡ h
    → ◌≡◌ {A = Rect} (record { xmin = a; ymin = b; xmax = c; ymax = d }) (record { xmin = e; ymin = f; xmax = g; ymax = h })
same_sides a b c d e f g h p q r s =
    ap₂ (λ x y. record { xmin = x; ymin = y; xmax = c; ymax = d }) p q ∙ ap₂ (λ x y. record { xmin = e; ymin = f; xmax = x; ymax = y }) r s

-- one chain more is held
pub around_next : (chains : List MapChain) (n tlid : ℕ) (points : List Point) (left right : Side) (rect next whole : Rect) → IsChain (slice_get chains n) tlid points left right
    → next ≡ around_points rect points → around_chains rect (drop n chains) ≡ whole → around_chains next (drop (n + 1) chains) ≡ whole
around_next chains n tlid points left right rect next whole it same before =
    ap (λ r. around_chains r (drop (n + 1) chains)) (same ∙ ap (around_points rect) it.points_are)
    ∙ sym (ap (around_chains rect) (from_place chains n it.chain it.is)) ∙ before

-- all are
pub around_end : (chains : List MapChain) (n : ℕ) (rect whole : Rect) → length chains ≤ n → around_chains rect (drop n chains) ≡ whole → rect ≡ whole
around_end chains n rect whole past before = sym (at_drop_all (around_chains rect) chains n past) ∙ before

-- one place more is held
pub places_next : (places : List (Option Rational)) (n : ℕ) (place : Option Rational) (rect next whole : Rect) → slice_get places n ≡ Some place
    → next ≡ around_place rect place → around_places rect (drop n places) ≡ whole → around_places next (drop (n + 1) places) ≡ whole
places_next places n place rect next whole is same before =
    ap (λ r. around_places r (drop (n + 1) places)) same ∙ sym (ap (around_places rect) (from_place places n place is)) ∙ before

-- all are
pub places_end : (places : List (Option Rational)) (n : ℕ) (rect whole : Rect) → length places ≤ n → around_places rect (drop n places) ≡ whole → rect ≡ whole
places_end places n rect whole past before = sym (at_drop_all (around_places rect) places n past) ∙ before

-- two frames about rectangles with the same parts
pub same_frame : (a b : ℤ) (c d e : ℕ) (f g : ℤ) (h i j : ℕ) → a ≡ f → b ≡ g → c ≡ h → d ≡ i → e ≡ j
    → ◌≡◌ {A = Frame} (record { origin = record { x = a; y = b }; shift = 0; wide = c; high = d; cosine = e })
    (record { origin = record { x = f; y = g }; shift = 0; wide = h; high = i; cosine = j })
same_frame a b c d e f g h i j p q r s t = rw (p, q, r, s, t) refl

-- a test of numbers that are kept
pub across_is : (r : Bool) (first last u v f l x y : ℤ) → r ≡ is_across first last u v → first ≡ f → last ≡ l → u ≡ x → v ≡ y → r ≡ is_across f l x y
across_is r first last u v f l x y e p q s t = e ∙ ap₂ (λ a b. is_across a b u v) p q ∙ ap₂ (λ a b. is_across f l a b) s t

-- two tests, one behind the other
pub and_then : (a b x y : Bool) → a ≡ true → a ≡ x → b ≡ y → b ≡ (x && y)
and_then a b x y so first second = second ∙ ap (λ z. z && y) (sym so ∙ first)

pub and_else : (a x y : Bool) → a ≡ false → a ≡ x → a ≡ (x && y)
and_else a x y not_so first = not_so ∙ ap (λ z. z && y) (sym not_so ∙ first)

-- the same four numbers
pub same_four : (a b c d e f g h : ℤ) → a ≡ e → b ≡ f → c ≡ g → d ≡ h → are_one_sided a b c d ≡ are_one_sided e f g h
same_four a b c d e f g h p q r s = ap₂ (λ x y. are_one_sided x y c d) p q ∙ ap₂ (λ x y. are_one_sided e f x y) r s
