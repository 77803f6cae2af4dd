-- The order of directions by halves and cross products is the order of a turn from east.
use Rattle.std.proofs.Common.{◌≡◌, ◌⊎◌, inl, inr, ⊎_elim, pos, ◌-ℤ◌, ◌*ℤ◌, ◌<ℤ◌, ◌≤ℤ◌, ap, sym, subst, ◌∙◌, arith}
use Rattle.std.proofs.lemmas.Int.{ints}
use Rattle.tl_geom.specs.declared.direction.Direction.{Direction}
use Rattle.tl_geom.specs.Turning.{cross_of, dot_of, IsOneDirection, IsWithin, below_half, above_half, half, full, IsBelow, east, IsFirstHalf, IsSecondHalf}
use Rattle.tl_geom.proofs.Polynomials.{num, ◌⊕◌, ◌⊖◌, ◌⊗◌, same, same_by}
use Rattle.tl_geom.proofs.Signs.{product_above, above_of_product, mono, times_zero}
use Rattle.tl_geom.proofs.Halves.{halves, one_half, other_way, AreOneHalf, AreTwoHalves}

-- u is in the first half and v in the second, or both are in one half and v is to the left of u
abbrev pub IsBefore : (u v : Direction) → Type 0
IsBefore u v = (IsFirstHalf u × IsSecondHalf v) ⊎ (AreOneHalf u v × (pos 0 <ℤ cross_of u v))

-- ---- it is the order of a turn from east

east_is : (u : Direction) → u.y ≡ pos 0 → pos 0 <ℤ u.x → IsOneDirection east u
east_is u e h = record { parallel = omega (arith, ints, e); same_way = omega (arith, ints, e, h) }

is_east : (u : Direction) → IsOneDirection east u → (u.y ≡ pos 0) × (pos 0 <ℤ u.x)
is_east u o =
    let p : cross_of east u ≡ pos 0 = o.parallel in
    let q : pos 0 <ℤ dot_of east u = o.same_way in
    (omega (arith, ints, p), omega (arith, ints, p, q))

-- the cross product where the first, or the second, is level
level_first : (u v : Direction) → u.y ≡ pos 0 → cross_of u v ≡ u.x *ℤ v.y
level_first u v e =
    same_by (num u.x ⊗ num v.y ⊖ num u.y ⊗ num v.x) (num u.x ⊗ num v.y) (num (pos 0) ⊖ num v.x) (num u.y) (num (pos 0)) e (omega arith)

level_second : (u v : Direction) → v.y ≡ pos 0 → cross_of u v ≡ u.y *ℤ (pos 0 -ℤ v.x)
level_second u v e =
    same_by (num u.x ⊗ num v.y ⊖ num u.y ⊗ num v.x) (num u.y ⊗ (num (pos 0) ⊖ num v.x)) (num u.x) (num v.y) (num (pos 0)) e (omega arith)

turned_back : (u v : Direction) → u.y ≡ pos 0 → pos 0 <ℤ u.x → v.y ≤ℤ pos 0 → cross_of u v ≤ℤ pos 0
turned_back u v e h k = let m : (u.x *ℤ v.y) ≤ℤ (u.x *ℤ pos 0) = mono u.x v.y (pos 0) (omega (arith, ints, h)) k in omega (arith, ints, m, times_zero u.x, level_first u v e)

-- from the sign of y, where the cross product with a level direction is above 0
y_above : (u v : Direction) → v.y ≡ pos 0 → v.x <ℤ pos 0 → pos 0 <ℤ cross_of u v → pos 0 <ℤ u.y
y_above u v e h k =
    let f : (pos 0 -ℤ v.x) *ℤ u.y ≡ u.y *ℤ (pos 0 -ℤ v.x) = same ((num (pos 0) ⊖ num v.x) ⊗ num u.y) (num u.y ⊗ (num (pos 0) ⊖ num v.x)) (omega arith) in
    above_of_product (pos 0 -ℤ v.x) u.y (omega (arith, ints, h)) (omega (arith, ints, k, f, level_second u v e))

y_below : (u v : Direction) → v.y ≡ pos 0 → pos 0 <ℤ v.x → pos 0 <ℤ cross_of u v → u.y <ℤ pos 0
y_below u v e h k =
    let f : v.x *ℤ (pos 0 -ℤ u.y) ≡ u.y *ℤ (pos 0 -ℤ v.x) = same (num v.x ⊗ (num (pos 0) ⊖ num u.y)) (num u.y ⊗ (num (pos 0) ⊖ num v.x)) (omega arith) in
    let m : pos 0 <ℤ (pos 0 -ℤ u.y) = above_of_product v.x (pos 0 -ℤ u.y) (omega (arith, ints, h)) (omega (arith, ints, k, f, level_second u v e)) in
    omega (arith, ints, m)

-- what is not level is within the turn from east to a direction of the second half
to_second : (u v : Direction) → pos 0 <ℤ u.y → IsSecondHalf v → IsWithin east v u
to_second u v up =
    ⊎_elim (λ down. above_half (omega (arith, ints, down)) (inl (omega (arith, ints, up))))
    (λ west. half (record { parallel = omega (arith, ints, west.0); other_way = omega (arith, ints, west.0, west.1) }) (omega (arith, ints, up)))

no_east : (v : Direction) → IsSecondHalf v → ¬ IsOneDirection east v
no_east v s o = let e : (v.y ≡ pos 0) × (pos 0 <ℤ v.x) = is_east v o in one_half v (inr (e.0, e.1)) s

pub below_of : (u v : Direction) → IsBefore u v → IsBelow u v
below_of u v =
    ⊎_elim
    (λ two.
    record {
      not_east = no_east v two.1;
      before = ⊎_elim (λ up. inr (to_second u v up two.1)) (λ level. inl (east_is u level.0 level.1)) two.0;
    })
    (λ one. ⊎_elim (λ first. in_first first.0 first.1 one.1) (λ second. in_second second.0 second.1 one.1) one.0)
  where
    in_first : IsFirstHalf u → IsFirstHalf v → pos 0 <ℤ cross_of u v → IsBelow u v
    in_first f g left =
        let away : ¬ IsOneDirection east v = λ o.
        let e : (v.y ≡ pos 0) × (pos 0 <ℤ v.x) = is_east v o in
        let d : u.y <ℤ pos 0 = y_below u v e.0 e.1 left in
        one_half u f (inl d) in
        record {
          not_east = away;
          before =
              ⊎_elim (λ up. inr (⊎_elim (λ up'. below_half (omega (arith, ints, up')) (omega (arith, ints, up)) left) (λ level. absurd (away (east_is v level.0 level.1))) g))
              (λ level. inl (east_is u level.0 level.1)) f;
        }

    in_second : IsSecondHalf u → IsSecondHalf v → pos 0 <ℤ cross_of u v → IsBelow u v
    in_second f g left =
        record {
          not_east = no_east v g;
          before =
              inr (⊎_elim (λ down. above_half (omega (arith, ints, down)) (inr left)) (λ west. absurd (one_half u (inl (y_above u v west.0 west.1 left)) f)) g);
        }

pub before_of : (u v : Direction) → IsBelow u v → IsBefore u v
before_of u v b = ⊎_elim (λ o. from_east (is_east u o)) (λ w. within w) b.before
  where
    from_east : (u.y ≡ pos 0) × (pos 0 <ℤ u.x) → IsBefore u v
    from_east e =
        ⊎_elim
        (λ f. ⊎_elim (λ up. inr (inl (inr e, f), subst (λ z. pos 0 <ℤ z) (sym (level_first u v e.0)) (product_above u.x v.y e.1 up))) (λ level. absurd (b.not_east (east_is v level.0 level.1))) f)
        (λ s. inl (inr e, s)) (halves v)

    within : IsWithin east v u → IsBefore u v
    within (below_half turn left right) = inr (inl (inl (omega (arith, ints, left)), inl (omega (arith, ints, turn))), right)
    within (above_half turn some) =
        ⊎_elim (λ f. inl (f, inl (omega (arith, ints, turn))))
        (λ s. ⊎_elim (λ left. absurd (one_half u (inl (omega (arith, ints, left))) s)) (λ right. inr (inr (s, inl (omega (arith, ints, turn))), right)) some) (halves u)
    within (half opposite left) =
        let p : cross_of east v ≡ pos 0 = opposite.parallel in
        let q : dot_of east v <ℤ pos 0 = opposite.other_way in
        inl (inl (omega (arith, ints, left)), inr (omega (arith, ints, p), omega (arith, ints, p, q)))
    within (full one apart) = absurd (b.not_east one)

-- ---- of two directions one comes first, unless they are one

pub reversed : (u v : Direction) → cross_of v u ≡ pos 0 -ℤ cross_of u v
reversed u v = same (num v.x ⊗ num u.y ⊖ num v.y ⊗ num u.x) (num (pos 0) ⊖ (num u.x ⊗ num v.y ⊖ num u.y ⊗ num v.x)) (omega arith)

pub not_after : (u v : Direction) → IsBefore u v → ¬ IsBefore v u
not_after u v b c =
    ⊎_elim
    (λ two. ⊎_elim (λ two'. one_half u two.0 two'.1)
    (λ one. ⊎_elim (λ f. one_half v f.0 two.1) (λ s. one_half u two.0 s.1) one.0) c)
    (λ one. ⊎_elim (λ two. ⊎_elim (λ f. one_half u f.0 two.1) (λ s. one_half v two.0 s.1) one.0)
    (λ one'. let e : cross_of v u ≡ pos 0 -ℤ cross_of u v = reversed u v in omega (arith, ints, one.1, one'.1, e)) c) b

-- one direction is in one half
pub one_direction_half : (u v : Direction) → IsOneDirection u v → AreTwoHalves u v → ⊥
one_direction_half u v o two = let h : dot_of u v <ℤ pos 0 = other_way u v two o.parallel in omega (arith, ints, h, o.same_way)

pub not_one : (u v : Direction) → IsBefore u v → ¬ IsOneDirection u v
not_one u v b o = ⊎_elim (λ two. one_direction_half u v o (inl two)) (λ one. omega (arith, ints, one.1, o.parallel)) b

pub one_back : (u v : Direction) → IsOneDirection u v → IsOneDirection v u
one_back u v o =
    record {
      parallel = reversed u v ∙ ap (λ z. pos 0 -ℤ z) o.parallel;
      same_way = subst (λ z. pos 0 <ℤ z) (same (num u.x ⊗ num v.x ⊕ num u.y ⊗ num v.y) (num v.x ⊗ num u.x ⊕ num v.y ⊗ num u.y) (omega arith)) o.same_way;
    }
