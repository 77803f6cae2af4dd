-- Three chains between two nodes, two of which run alike: their sides agree, but what crosses a height doesn't cancel.
use Rattle.std.proofs.Common.{◌≡◌, ◌≢◌, ℕ, zero, suc, ◌+◌, ◌<◌, pos, negsuc, ◌+ℤ◌, ◌-ℤ◌, ◌*ℤ◌, ◌<ℤ◌, Some, None, List, [], ◌∷◌, length, get_or, refl, sym, ap, subst, ◌∙◌, arith}
use Rattle.std.proofs.lemmas.Int.{ints}
use Rattle.tl_geom.specs.declared.point.Point.{Point}
use Rattle.tl_geom.specs.declared.direction.Direction.{Direction}
use Rattle.tl_geom.specs.Plane.{cross}
use Rattle.tl_geom.specs.Turning.{cross_of, dot_of, full}
use Rattle.tl_map_county.specs.Chains.{IsProperChain}
use Rattle.tl_map_county.specs.declared.sides.Side.{Side}
use Rattle.tl_map_county.specs.declared.sides.Side.TheVariants.{Polygon}
use Rattle.tl_map_county.specs.TheMap.{MapChain}
use Rattle.tl_map_county.specs.Darts.{dart_start, dart_second, dart_left}
use Rattle.tl_check_planar.specs.Keeping.Apart.{one_found}
use Rattle.tl_check_sides.specs.Sides.{dart_right, IsNext, SidesAgree}
use Rattle.tl_check_sides.proofs.Headings.{dart_within}
use Rattle.tl_check_inside.specs.Inside.{balance, is_polygon}
use Rattle.tl_check_faces.specs.Crossings.Heights.{crossed_at}
use Rattle.tl_check_faces.specs.Crossings.Headings.{AreProper}

abbrev low : Point
low = record { x = pos 0; y = pos 0 }

abbrev high : Point
high = record { x = pos 0; y = pos 2 }

abbrev middle : Point
middle = record { x = pos 1; y = pos 1 }

abbrev chain_by : ℕ → List Point → MapChain
chain_by tlid points = record { tlid = tlid; points = points; left = Polygon 0; right = Polygon 1; start_cell = None; end_cell = None }

abbrev pub chains : List MapChain
chains = chain_by 1 (low ∷ high ∷ []) ∷ chain_by 2 (low ∷ high ∷ []) ∷ chain_by 3 (high ∷ middle ∷ low ∷ []) ∷ []

low_high : low ≢ high
low_high e = let y : pos 0 ≡ pos 2 = ap (λ (p : Point). p.y) e in omega (arith, ints, y)

high_middle : high ≢ middle
high_middle e = let y : pos 2 ≡ pos 1 = ap (λ (p : Point). p.y) e in omega (arith, ints, y)

middle_low : middle ≢ low
middle_low e = let y : pos 1 ≡ pos 0 = ap (λ (p : Point). p.y) e in omega (arith, ints, y)

straight : IsProperChain (low ∷ high ∷ [])
straight = record { several = omega arith; distinct = distinct }
  where
    distinct : (k : ℕ) (d : Point) → k + 1 < length (low ∷ high ∷ []) → get_or (low ∷ high ∷ []) k d ≢ get_or (low ∷ high ∷ []) (k + 1) d
    distinct zero d lt = low_high
    distinct (suc k) d lt = absurd (let h : suc k + 1 < 2 = lt in omega (arith, h))

bent : IsProperChain (high ∷ middle ∷ low ∷ [])
bent = record { several = omega arith; distinct = distinct }
  where
    distinct : (k : ℕ) (d : Point) → k + 1 < length (high ∷ middle ∷ low ∷ []) → get_or (high ∷ middle ∷ low ∷ []) k d ≢ get_or (high ∷ middle ∷ low ∷ []) (k + 1) d
    distinct zero d lt = high_middle
    distinct (suc zero) d lt = middle_low
    distinct (suc (suc k)) d lt = absurd (let h : suc (suc k) + 1 < 3 = lt in omega (arith, h))

points_of : (c x : MapChain) → Some c ≡ Some x → IsProperChain c.points → IsProperChain x.points
points_of c x e proper = let same : c ≡ x = cc in subst (λ (z : MapChain). IsProperChain z.points) same proper

pub proper : AreProper chains
proper zero x e = points_of (chain_by 1 (low ∷ high ∷ [])) x e straight
proper (suc zero) x e = points_of (chain_by 2 (low ∷ high ∷ [])) x e straight
proper (suc (suc zero)) x e = points_of (chain_by 3 (high ∷ middle ∷ low ∷ [])) x e bent
proper (suc (suc (suc c))) x e = absurd (let none : None ≡ Some x = e in cc)

-- ---- the six darts: each starts at a point and goes on to a second

record Runs (d : ℕ) (first second : Point) (left right : Side) : Type 0 where
  starts : dart_start chains d ≡ Some first
  goes : dart_second chains d ≡ Some second
  left_is : dart_left chains d ≡ Some left
  right_is : dart_right chains d ≡ Some right

data IsWay (d : ℕ) : Type 0 where
  up : Runs d low high (Polygon 0) (Polygon 1) → IsWay d
  down : Runs d high low (Polygon 1) (Polygon 0) → IsWay d
  down_beside : Runs d high middle (Polygon 0) (Polygon 1) → IsWay d
  up_beside : Runs d low middle (Polygon 1) (Polygon 0) → IsWay d

way : (d : ℕ) → d < 6 → IsWay d
way zero lt = up (record { starts = refl; goes = refl; left_is = refl; right_is = refl })
way (suc zero) lt = down (record { starts = refl; goes = refl; left_is = refl; right_is = refl })
way (suc (suc zero)) lt = up (record { starts = refl; goes = refl; left_is = refl; right_is = refl })
way (suc (suc (suc zero))) lt = down (record { starts = refl; goes = refl; left_is = refl; right_is = refl })
way (suc (suc (suc (suc zero)))) lt = down_beside (record { starts = refl; goes = refl; left_is = refl; right_is = refl })
way (suc (suc (suc (suc (suc zero))))) lt = up_beside (record { starts = refl; goes = refl; left_is = refl; right_is = refl })
way (suc (suc (suc (suc (suc (suc d)))))) lt = absurd (omega (arith, lt))

-- two darts of two nodes aren't next
of_two : (a b : ℕ) (p q : Point) → p ≢ q → dart_start chains a ≡ Some p → dart_start chains b ≡ Some q → ¬ IsNext chains a b
of_two a b p q ne a_starts b_starts n =
    ne (one_found p n.node (dart_start chains a) a_starts n.a_starts ∙ one_found n.node q (dart_start chains b) n.b_starts b_starts)

-- nor two that run alike, where a third leaves the node in another direction
module _ (a b c : ℕ) (p q r : Point) (heading : Direction) where
  blocked : dart_start chains a ≡ Some p → dart_second chains a ≡ Some q → dart_start chains b ≡ Some p → dart_second chains b ≡ Some q →
      dart_start chains c ≡ Some p → dart_second chains c ≡ Some r → heading.x ≡ r.x -ℤ p.x → heading.y ≡ r.y -ℤ p.y →
      cross (q.x -ℤ p.x) (q.y -ℤ p.y) (q.x -ℤ p.x) (q.y -ℤ p.y) ≡ pos 0 →
      pos 0 <ℤ ((q.x -ℤ p.x) *ℤ (q.x -ℤ p.x) +ℤ (q.y -ℤ p.y) *ℤ (q.y -ℤ p.y)) →
      cross (q.x -ℤ p.x) (q.y -ℤ p.y) (r.x -ℤ p.x) (r.y -ℤ p.y) ≢ pos 0 → ¬ IsNext chains a b
  blocked a_starts a_goes b_starts b_goes c_starts c_goes x y parallel same_way turns n =
      n.none_between c heading (c_starts ∙ sym a_starts ∙ n.a_starts) (record { first = p; second = r; starts = c_starts; goes = c_goes; x = x; y = y })
      (full (record { parallel = one ∙ parallel; same_way = subst (λ z. pos 0 <ℤ z) two same_way }) (λ same. turns (three ∙ same.parallel)))
    where
      from_x : n.from.x ≡ q.x -ℤ p.x
      from_x = n.a_heads.x ∙ (λ i. (one_found n.a_heads.second q (dart_second chains a) n.a_heads.goes a_goes i).x -ℤ (one_found n.a_heads.first p (dart_start chains a) n.a_heads.starts a_starts i).x)

      from_y : n.from.y ≡ q.y -ℤ p.y
      from_y = n.a_heads.y ∙ (λ i. (one_found n.a_heads.second q (dart_second chains a) n.a_heads.goes a_goes i).y -ℤ (one_found n.a_heads.first p (dart_start chains a) n.a_heads.starts a_starts i).y)

      to_x : n.to.x ≡ q.x -ℤ p.x
      to_x = n.b_heads.x ∙ (λ i. (one_found n.b_heads.second q (dart_second chains b) n.b_heads.goes b_goes i).x -ℤ (one_found n.b_heads.first p (dart_start chains b) n.b_heads.starts b_starts i).x)

      to_y : n.to.y ≡ q.y -ℤ p.y
      to_y = n.b_heads.y ∙ (λ i. (one_found n.b_heads.second q (dart_second chains b) n.b_heads.goes b_goes i).y -ℤ (one_found n.b_heads.first p (dart_start chains b) n.b_heads.starts b_starts i).y)

      one : cross_of n.from n.to ≡ cross (q.x -ℤ p.x) (q.y -ℤ p.y) (q.x -ℤ p.x) (q.y -ℤ p.y)
      one i = cross (from_x i) (from_y i) (to_x i) (to_y i)

      two : (q.x -ℤ p.x) *ℤ (q.x -ℤ p.x) +ℤ (q.y -ℤ p.y) *ℤ (q.y -ℤ p.y) ≡ dot_of n.from n.to
      two i = sym from_x i *ℤ sym to_x i +ℤ sym from_y i *ℤ sym to_y i

      three : cross (q.x -ℤ p.x) (q.y -ℤ p.y) (r.x -ℤ p.x) (r.y -ℤ p.y) ≡ cross_of n.from heading
      three i = cross (sym from_x i) (sym from_y i) (sym x i) (sym y i)

pub agree : SidesAgree chains
agree a b n = go (way a (dart_within chains a n.node n.a_starts)) (way b (dart_within chains b n.node n.b_starts))
  where
    go : IsWay a → IsWay b → dart_left chains a ≡ dart_right chains b
    go (up r) (down s) = r.left_is ∙ sym s.right_is
    go (up r) (up_beside s) = r.left_is ∙ sym s.right_is
    go (down r) (up s) = r.left_is ∙ sym s.right_is
    go (down r) (down_beside s) = r.left_is ∙ sym s.right_is
    go (down_beside r) (down s) = r.left_is ∙ sym s.right_is
    go (down_beside r) (up_beside s) = r.left_is ∙ sym s.right_is
    go (up_beside r) (up s) = r.left_is ∙ sym s.right_is
    go (up_beside r) (down_beside s) = r.left_is ∙ sym s.right_is
    go (up r) (down_beside s) = absurd (of_two a b low high low_high r.starts s.starts n)
    go (down_beside r) (up s) = absurd (of_two a b high low (λ e. low_high (sym e)) r.starts s.starts n)
    go (down r) (up_beside s) = absurd (of_two a b high low (λ e. low_high (sym e)) r.starts s.starts n)
    go (up_beside r) (down s) = absurd (of_two a b low high low_high r.starts s.starts n)
    go (up r) (up s) = absurd (blocked a b 5 low high middle (record { x = pos 1; y = pos 1; nonzero = λ e. absurd (omega (arith, ints, e)) }) r.starts r.goes s.starts s.goes refl refl refl refl refl (omega (arith, ints)) (λ e. omega (arith, ints, e)) n)
    go (down r) (down s) = absurd (blocked a b 4 high low middle (record { x = pos 1; y = negsuc 0; nonzero = λ e. absurd (omega (arith, ints, e)) }) r.starts r.goes s.starts s.goes refl refl refl refl refl (omega (arith, ints)) (λ e. omega (arith, ints, e)) n)
    go (down_beside r) (down_beside s) = absurd (blocked a b 1 high middle low (record { x = pos 0; y = negsuc 1; nonzero = λ e f. omega (arith, ints, f) }) r.starts r.goes s.starts s.goes refl refl refl refl refl (omega (arith, ints)) (λ e. omega (arith, ints, e)) n)
    go (up_beside r) (up_beside s) = absurd (blocked a b 0 low middle high (record { x = pos 0; y = pos 2; nonzero = λ e f. omega (arith, ints, f) }) r.starts r.goes s.starts s.goes refl refl refl refl refl (omega (arith, ints)) (λ e. omega (arith, ints, e)) n)

-- at the height of the low node the first polygon is near twice, and far once
pub one_too_many : balance (is_polygon 0) (crossed_at (pos 0) chains) ≡ pos 1
one_too_many = refl
