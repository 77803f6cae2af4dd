-- What lies within turns from one direction to others.
use Rattle.std.proofs.Common.{◌⊎◌, inl, inr, ⊎_elim, arith}
use Rattle.std.proofs.lemmas.Int.{ints}
use Rattle.tl_geom.specs.declared.direction.Direction.{Direction}
use Rattle.tl_geom.specs.Turning.{cross_of, IsOneDirection, IsWithin, full, IsBelow}
use Rattle.tl_geom.proofs.Signs.{sign}
use Rattle.tl_geom.proofs.Halves.{halves, same_way, AreOneHalf}
use Rattle.tl_geom.proofs.Order.{below_of, reversed, one_back}
use Rattle.tl_geom.proofs.Within.{below_trans, below_between, below_around, alike_below, alike_above}
use Rattle.tl_check_sides.proofs.Headings.{never_both, never_one, nothing_within}

-- the first comes before the other, or they are one, or the other comes before it
abbrev pub Order : (u v : Direction) → Type 0
Order u v = IsBelow u v ⊎ (IsOneDirection u v ⊎ IsBelow v u)

pub order : (u v : Direction) → Order u v
order u v =
    ⊎_elim
    (λ f. ⊎_elim (λ g. in_one (inl (f, g)) (inl (g, f))) (λ s. inl (below_of u v (inl (f, s)))) (halves v))
    (λ s. ⊎_elim (λ g. inr (inr (below_of v u (inl (g, s))))) (λ t. in_one (inr (s, t)) (inr (t, s))) (halves v))
    (halves u)
  where
    in_one : AreOneHalf u v → AreOneHalf v u → Order u v
    in_one one back =
        ⊎_elim
        (λ less. inr (inr (below_of v u (inr (back, (let e = reversed u v in omega (arith, ints, e, less)))))))
        (λ more. ⊎_elim (λ none. inr (inl (record { parallel = none; same_way = same_way u v one none }))) (λ left. inl (below_of u v (inr (one, left)))) more)
        (sign (cross_of u v))

is_below : (u v : Direction) → IsBelow u v ⊎ (¬ IsBelow u v)
is_below u v =
    ⊎_elim inl (λ rest. inr (⊎_elim (λ one b. never_one u v b one) (λ after b. never_both u v b after) rest)) (order u v)

-- a direction is within a turn, or it isn't
pub is_within : (u w v : Direction) → IsWithin u w v ⊎ (¬ IsWithin u w v)
is_within u w v =
    ⊎_elim
    (λ up.
    let k = below_between u v w up in
    ⊎_elim (λ a. ⊎_elim (λ b. inl (k.1 (a, b))) (λ no. inr (λ h. no (k.0 h).1)) (is_below v w)) (λ no. inr (λ h. no (k.0 h).0)) (is_below u v))
    (λ rest. ⊎_elim
    (λ one. ⊎_elim (λ below. inl (full one (never_one u v below))) (λ other. ⊎_elim (λ same. inr (nothing_within u w v one same)) (λ after. inl (full one (λ same. never_one v u after (one_back u v same)))) other) (order u v))
    (λ down.
    let k = below_around u v w down in
    ⊎_elim (λ a. inl (k.1 (inl a))) (λ no. ⊎_elim (λ b. inl (k.1 (inr b))) (λ not. inr (λ h. ⊎_elim no not (k.0 h))) (is_below v w)) (is_below u v))
    rest)
    (order u w)

not_itself : (u : Direction) → ¬ IsBelow u u
not_itself u b = never_both u u b b

-- one direction, by a third
pub joined : (u v w : Direction) → IsOneDirection u v → IsOneDirection v w → IsOneDirection u w
joined u v w p q = ⊎_elim
    (λ less. absurd (never_one v w (alike_below v u w (one_back u v p) less) q))
    (λ rest. ⊎_elim (λ one. one) (λ more. absurd (never_one w v (alike_above v u w (one_back u v p) more) (one_back v w q))) rest)
    (order u w)

-- no direction is strictly within a turn to itself
pub not_within : (u w v : Direction) → IsOneDirection v w → ¬ IsWithin u w v
not_within u w v same h =
    ⊎_elim
    (λ up. never_one v w ((below_between u v w up).0 h).1 same)
    (λ rest. ⊎_elim
    (λ one. nothing_within u w v one (one_back v u (joined v w u same (one_back u w one))) h)
    (λ down. ⊎_elim (λ a. never_both u v a (alike_below v w u same down)) (λ b. never_one v w b same) ((below_around u v w down).0 h))
    rest)
    (order u w)

-- nor within a turn from itself
pub not_start : (u w v : Direction) → IsOneDirection u v → ¬ IsWithin u w v
not_start u w v same h =
    ⊎_elim
    (λ up. never_one u v ((below_between u v w up).0 h).0 same)
    (λ rest. ⊎_elim
    (λ one. nothing_within u w v one same h)
    (λ down. ⊎_elim (λ a. never_one u v a same) (λ b. never_both u w (alike_below u v w same b) down) ((below_around u v w down).0 h))
    rest)
    (order u w)

-- what is within a shorter turn is within a longer one
pub within_longer : (u w v x : Direction) → IsWithin u w v → IsWithin u v x → IsWithin u w x
within_longer u w v x h k =
    ⊎_elim
    (λ up. below up ((below_between u v w up).0 h))
    (λ rest. ⊎_elim (λ one. whole one) (λ down. around down ((below_around u v w down).0 h)) rest)
    (order u w)
  where
    below : IsBelow u w → IsBelow u v × IsBelow v w → IsWithin u w x
    below up both =
        let inner = (below_between u x v both.0).0 k in
        (below_between u x w up).1 (inner.0, below_trans x v w inner.1 both.1)

    apart : IsOneDirection u w → ¬ IsOneDirection u x
    apart one same = not_start u v x same k

    whole : IsOneDirection u w → IsWithin u w x
    whole one = full one (apart one)

    around : IsBelow w u → IsBelow u v ⊎ IsBelow v w → IsWithin u w x
    around down (inl a) = (below_around u x w down).1 (inl ((below_between u x v a).0 k).0)
    around down (inr b) =
        (below_around u x w down).1 (⊎_elim (λ c. inl c) (λ c. inr (below_trans x v w c b)) ((below_around u x v (below_trans v w u b down)).0 k))

-- of two directions that are apart, one is within the turn from the other to a third
pub one_within : (u v w : Direction) → ¬ IsOneDirection u v → ¬ IsWithin u w v → IsWithin v w u
one_within u v w apart not =
    ⊎_elim (λ up. ⊎_elim (λ up'. both up up') (λ rest. ⊎_elim (λ one. full one back) (λ down. (below_around v u w down).1 (inr up)) rest) (order v w))
    (λ rest. ⊎_elim (λ one. absurd (not (full one apart)))
    (λ down. ⊎_elim (λ up'. absurd (not ((below_around u v w down).1 (inr up')))) (λ rest. ⊎_elim (λ one. full one back) (λ down'. neither down down') rest) (order v w))
    rest)
    (order u w)
  where
    back : ¬ IsOneDirection v u
    back one = apart (one_back v u one)

    both : IsBelow u w → IsBelow v w → IsWithin v w u
    both up up' =
        ⊎_elim (λ less. absurd (not ((below_between u v w up).1 (less, up'))))
        (λ rest. ⊎_elim (λ one. absurd (apart one)) (λ more. (below_between v u w up').1 (more, up)) rest)
        (order u v)

    neither : IsBelow w u → IsBelow w v → IsWithin v w u
    neither down down' =
        ⊎_elim (λ less. absurd (not ((below_around u v w down).1 (inl less))))
        (λ rest. ⊎_elim (λ one. absurd (apart one)) (λ more. (below_around v u w down').1 (inl more)) rest)
        (order u v)

-- one direction takes the place of another
pub within_alike : (u w w' v v' : Direction) → IsOneDirection w w' → IsOneDirection v v' → IsWithin u w v → IsWithin u w' v'
within_alike u w w' v v' p q h =
    ⊎_elim
    (λ up. let both = (below_between u v w up).0 h in (below_between u v' w' (after up)).1 (start both.0, finish both.1))
    (λ rest. ⊎_elim
    (λ one. full (joined u w w' one p) (λ same. nothing_within u w v one (joined u v' v same (one_back v v' q)) h))
    (λ down. (below_around u v' w' (alike_below w' w u (one_back w w' p) down)).1 (⊎_elim (λ a. inl (start a)) (λ b. inr (finish b)) ((below_around u v w down).0 h)))
    rest)
    (order u w)
  where
    after : IsBelow u w → IsBelow u w'
    after b = alike_above w' w u (one_back w w' p) b

    start : IsBelow u v → IsBelow u v'
    start b = alike_above v' v u (one_back v v' q) b

    finish : IsBelow v w → IsBelow v' w'
    finish b = alike_above w' w v' (one_back w w' p) (alike_below v' v w (one_back v v' q) b)
