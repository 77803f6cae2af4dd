-- What lies strictly within a turn from one direction to another, by the order of directions, and what the answers of the
-- order say.
use Rattle.std.proofs.Common.{◌≡◌, ◌⊎◌, inl, inr, ⊎_elim, ◌↔◌, ℤ, pos, ◌+ℤ◌, ◌-ℤ◌, ◌*ℤ◌, ◌<ℤ◌, ◌≤ℤ◌, Ordering, sym, ◌∙◌, refl, arith}
use Rattle.std.proofs.lemmas.Int.{ints, by_lt_z}
use Rattle.std.proofs.lemmas.Cmp.{int_ranked}
use Rattle.std.specs.declared.cmp.Ordering.TheVariants.{Less, Equal, Greater}
use Rattle.std.specs.Ordering.{int_cmp, MatchOrdering}
use Rattle.tl_geom.specs.declared.direction.Direction.{Direction}
use Rattle.tl_geom.specs.Turning.{cross_of, IsOneDirection, IsWithin, below_half, above_half, half, full, IsBelow, IsFirstHalf, IsSecondHalf}
use Rattle.tl_geom.proofs.Polynomials.{num, ◌⊕◌, ◌⊖◌, ◌⊗◌, same, same_by}
use Rattle.tl_geom.proofs.Signs.{product_above, above_of_product, mono, times_zero, sign}
use Rattle.tl_geom.proofs.Halves.{halves, one_half, same_way, other_way, AreOneHalf, AreTwoHalves, height, IsSteep, steep, first_above, second_below, weighed}
use Rattle.tl_geom.proofs.Order.{IsBefore, not_after, reversed, one_direction_half, not_one, one_back, below_of, before_of}

-- ---- three directions in order

-- the signs of two numbers and of a weighed sum of them
record IsSum (p q r : ℤ) : Type 0 where
  weak_first : pos 0 ≤ℤ p → pos 0 <ℤ q → pos 0 <ℤ r
  weak_second : pos 0 <ℤ p → pos 0 ≤ℤ q → pos 0 <ℤ r
  other : pos 0 <ℤ r → p ≤ℤ pos 0 → pos 0 <ℤ q

weighs : (a b c p q r : ℤ) → pos 0 <ℤ a → pos 0 <ℤ b → pos 0 <ℤ c → r *ℤ b ≡ q *ℤ a +ℤ p *ℤ c → IsSum p q r
weighs a b c p q r ha hb hc e =
    record {
      weak_first = λ hp hq. above_of_product b r (omega (arith, ints, hb)) (sum (at_least c p hc hp) (product_above a q ha hq));
      weak_second = λ hp hq. above_of_product b r (omega (arith, ints, hb)) (sum' (product_above c p hc hp) (at_least a q ha hq));
      other = λ hr hp. above_of_product a q (omega (arith, ints, ha)) (rest (product_above b r hb hr) (at_most c p hc hp));
    }
  where
    f : b *ℤ r ≡ a *ℤ q +ℤ c *ℤ p
    f = same (num b ⊗ num r) (num r ⊗ num b) (omega arith) ∙ e ∙ same (num q ⊗ num a ⊕ num p ⊗ num c) (num a ⊗ num q ⊕ num c ⊗ num p) (omega arith)

    sum : pos 0 ≤ℤ (c *ℤ p) → pos 0 <ℤ (a *ℤ q) → pos 0 <ℤ (b *ℤ r)
    sum h k = omega (arith, ints, f, h, k)

    sum' : pos 0 <ℤ (c *ℤ p) → pos 0 ≤ℤ (a *ℤ q) → pos 0 <ℤ (b *ℤ r)
    sum' h k = omega (arith, ints, f, h, k)

    rest : pos 0 <ℤ (b *ℤ r) → (c *ℤ p) ≤ℤ pos 0 → pos 0 <ℤ (a *ℤ q)
    rest h k = omega (arith, ints, f, h, k)

    at_least : (a b : ℤ) → pos 0 <ℤ a → pos 0 ≤ℤ b → pos 0 ≤ℤ (a *ℤ b)
    at_least a b h k = let m : (a *ℤ pos 0) ≤ℤ (a *ℤ b) = mono a (pos 0) b (omega (arith, ints, h)) k in omega (arith, ints, m, times_zero a)

    at_most : (a b : ℤ) → pos 0 <ℤ a → b ≤ℤ pos 0 → (a *ℤ b) ≤ℤ pos 0
    at_most a b h k = let m : (a *ℤ b) ≤ℤ (a *ℤ pos 0) = mono a b (pos 0) (omega (arith, ints, h)) k in omega (arith, ints, m, times_zero a)

-- the weighed sum with some of the weights turned to be above 0
turned : (a b c p q r : ℤ) → r *ℤ b ≡ q *ℤ a +ℤ p *ℤ c →
    (r *ℤ (pos 0 -ℤ b) ≡ q *ℤ (pos 0 -ℤ a) +ℤ p *ℤ (pos 0 -ℤ c)) ×
    ((q *ℤ a ≡ r *ℤ b +ℤ p *ℤ (pos 0 -ℤ c)) × (q *ℤ (pos 0 -ℤ a) ≡ r *ℤ (pos 0 -ℤ b) +ℤ p *ℤ c)) ×
    ((p *ℤ (pos 0 -ℤ c) ≡ q *ℤ a +ℤ r *ℤ (pos 0 -ℤ b)) × (p *ℤ c ≡ q *ℤ (pos 0 -ℤ a) +ℤ r *ℤ b)) ×
    (((pos 0 -ℤ r) *ℤ (pos 0 -ℤ b) ≡ q *ℤ a +ℤ p *ℤ c) × ((pos 0 -ℤ r) *ℤ b ≡ q *ℤ (pos 0 -ℤ a) +ℤ p *ℤ (pos 0 -ℤ c)))
turned a b c p q r e =
    let A = num a in let B = num b in let C = num c in let P = num p in let Q = num q in let R = num r in let z = num (pos 0) in
    let sum = Q ⊗ A ⊕ P ⊗ C in (
      same_by (R ⊗ (z ⊖ B)) (Q ⊗ (z ⊖ A) ⊕ P ⊗ (z ⊖ C)) (num (pos 1)) sum (R ⊗ B) (sym e) (omega arith),
      (same_by (Q ⊗ A) (R ⊗ B ⊕ P ⊗ (z ⊖ C)) (num (pos 1)) sum (R ⊗ B) (sym e) (omega arith), same_by (Q ⊗ (z ⊖ A)) (R ⊗ (z ⊖ B) ⊕ P ⊗ C) (num (pos 1)) (R ⊗ B) sum e (omega arith)),
      (same_by (P ⊗ (z ⊖ C)) (Q ⊗ A ⊕ R ⊗ (z ⊖ B)) (num (pos 1)) (R ⊗ B) sum e (omega arith), same_by (P ⊗ C) (Q ⊗ (z ⊖ A) ⊕ R ⊗ B) (num (pos 1)) sum (R ⊗ B) (sym e) (omega arith)),
      (same_by ((z ⊖ R) ⊗ (z ⊖ B)) sum (num (pos 1)) (R ⊗ B) sum e (omega arith), same_by ((z ⊖ R) ⊗ B) (Q ⊗ (z ⊖ A) ⊕ P ⊗ (z ⊖ C)) (num (pos 1)) sum (R ⊗ B) (sym e) (omega arith)),
    )

below_zero : (z : ℤ) → z <ℤ pos 0 → pos 0 <ℤ (pos 0 -ℤ z)
below_zero z h = omega (arith, ints, h)

-- ---- by the halves that three directions are in

sum_same : (u v w : Direction) → ((IsFirstHalf u × IsFirstHalf v) × IsFirstHalf w) ⊎ ((IsSecondHalf u × IsSecondHalf v) × IsSecondHalf w) → IsSum (cross_of u v) (cross_of v w) (cross_of u w)
sum_same u v w h =
    let s : (k : ℤ) × ((IsSteep k u × IsSteep k v) × IsSteep k w) = steep u v w in
    let k : ℤ = s.0 in
    let e : cross_of u w *ℤ height k v ≡ cross_of v w *ℤ height k u +ℤ cross_of u v *ℤ height k w = weighed k u v w in
    ⊎_elim (λ f. weighs (height k u) (height k v) (height k w) (cross_of u v) (cross_of v w) (cross_of u w) (first_above k u s.1.0.0 f.0.0) (first_above k v s.1.0.1 f.0.1) (first_above k w s.1.1 f.1) e)
    (λ f. weighs (pos 0 -ℤ height k u) (pos 0 -ℤ height k v) (pos 0 -ℤ height k w) (cross_of u v) (cross_of v w) (cross_of u w)
    (below_zero (height k u) (second_below k u s.1.0.0 f.0.0)) (below_zero (height k v) (second_below k v s.1.0.1 f.0.1)) (below_zero (height k w) (second_below k w s.1.1 f.1))
    (turned (height k u) (height k v) (height k w) (cross_of u v) (cross_of v w) (cross_of u w) e).0) h

sum_last : (u v w : Direction) → ((IsFirstHalf u × IsFirstHalf v) × IsSecondHalf w) ⊎ ((IsSecondHalf u × IsSecondHalf v) × IsFirstHalf w) → IsSum (cross_of u v) (cross_of u w) (cross_of v w)
sum_last u v w h =
    let s : (k : ℤ) × ((IsSteep k u × IsSteep k v) × IsSteep k w) = steep u v w in
    let k : ℤ = s.0 in
    let e : cross_of u w *ℤ height k v ≡ cross_of v w *ℤ height k u +ℤ cross_of u v *ℤ height k w = weighed k u v w in
    ⊎_elim (λ f. weighs (height k v) (height k u) (pos 0 -ℤ height k w) (cross_of u v) (cross_of u w) (cross_of v w)
    (first_above k v s.1.0.1 f.0.1) (first_above k u s.1.0.0 f.0.0) (below_zero (height k w) (second_below k w s.1.1 f.1))
    (turned (height k u) (height k v) (height k w) (cross_of u v) (cross_of v w) (cross_of u w) e).1.0)
    (λ f. weighs (pos 0 -ℤ height k v) (pos 0 -ℤ height k u) (height k w) (cross_of u v) (cross_of u w) (cross_of v w)
    (below_zero (height k v) (second_below k v s.1.0.1 f.0.1)) (below_zero (height k u) (second_below k u s.1.0.0 f.0.0)) (first_above k w s.1.1 f.1)
    (turned (height k u) (height k v) (height k w) (cross_of u v) (cross_of v w) (cross_of u w) e).1.1) h

sum_first : (u v w : Direction) → ((IsFirstHalf u × IsSecondHalf v) × IsSecondHalf w) ⊎ ((IsSecondHalf u × IsFirstHalf v) × IsFirstHalf w) → IsSum (cross_of u w) (cross_of v w) (cross_of u v)
sum_first u v w h =
    let s : (k : ℤ) × ((IsSteep k u × IsSteep k v) × IsSteep k w) = steep u v w in
    let k : ℤ = s.0 in
    let e : cross_of u w *ℤ height k v ≡ cross_of v w *ℤ height k u +ℤ cross_of u v *ℤ height k w = weighed k u v w in
    ⊎_elim (λ f. weighs (height k u) (pos 0 -ℤ height k w) (pos 0 -ℤ height k v) (cross_of u w) (cross_of v w) (cross_of u v)
    (first_above k u s.1.0.0 f.0.0) (below_zero (height k w) (second_below k w s.1.1 f.1)) (below_zero (height k v) (second_below k v s.1.0.1 f.0.1))
    (turned (height k u) (height k v) (height k w) (cross_of u v) (cross_of v w) (cross_of u w) e).2.0)
    (λ f. weighs (pos 0 -ℤ height k u) (height k w) (height k v) (cross_of u w) (cross_of v w) (cross_of u v)
    (below_zero (height k u) (second_below k u s.1.0.0 f.0.0)) (first_above k w s.1.1 f.1) (first_above k v s.1.0.1 f.0.1)
    (turned (height k u) (height k v) (height k w) (cross_of u v) (cross_of v w) (cross_of u w) e).2.1) h

sum_middle : (u v w : Direction) → ((IsFirstHalf u × IsSecondHalf v) × IsFirstHalf w) ⊎ ((IsSecondHalf u × IsFirstHalf v) × IsSecondHalf w) → IsSum (cross_of u v) (cross_of v w) (pos 0 -ℤ cross_of u w)
sum_middle u v w h =
    let s : (k : ℤ) × ((IsSteep k u × IsSteep k v) × IsSteep k w) = steep u v w in
    let k : ℤ = s.0 in
    let e : cross_of u w *ℤ height k v ≡ cross_of v w *ℤ height k u +ℤ cross_of u v *ℤ height k w = weighed k u v w in
    ⊎_elim (λ f. weighs (height k u) (pos 0 -ℤ height k v) (height k w) (cross_of u v) (cross_of v w) (pos 0 -ℤ cross_of u w)
    (first_above k u s.1.0.0 f.0.0) (below_zero (height k v) (second_below k v s.1.0.1 f.0.1)) (first_above k w s.1.1 f.1)
    (turned (height k u) (height k v) (height k w) (cross_of u v) (cross_of v w) (cross_of u w) e).3.0)
    (λ f. weighs (pos 0 -ℤ height k u) (height k v) (pos 0 -ℤ height k w) (cross_of u v) (cross_of v w) (pos 0 -ℤ cross_of u w)
    (below_zero (height k u) (second_below k u s.1.0.0 f.0.0)) (first_above k v s.1.0.1 f.0.1) (below_zero (height k w) (second_below k w s.1.1 f.1))
    (turned (height k u) (height k v) (height k w) (cross_of u v) (cross_of v w) (cross_of u w) e).3.1) h

-- ---- what lies within a turn, by the halves

-- u and v in one half, w in the other: v is within the turn exactly where it is to the left of u
within_last : (u v w : Direction) → ((IsFirstHalf u × IsFirstHalf v) × IsSecondHalf w) ⊎ ((IsSecondHalf u × IsSecondHalf v) × IsFirstHalf w) → IsWithin u w v ↔ (pos 0 <ℤ cross_of u v)
within_last u v w h = (to, from)
  where
    two : AreTwoHalves u w
    two = ⊎_elim (λ f. inl (f.0.0, f.1)) (λ f. inr (f.0.0, f.1)) h

    sum : IsSum (cross_of u v) (cross_of u w) (cross_of v w)
    sum = sum_last u v w h

    to : IsWithin u w v → pos 0 <ℤ cross_of u v
    to (below_half r p q) = p
    to (above_half r some) = ⊎_elim (λ p. p) (λ q. by_lt_z (pos 0) (cross_of u v) (λ p. p) (λ p. absurd (let m : pos 0 <ℤ cross_of u w = sum.other q p in omega (arith, ints, m, r)))) some
    to (half o p) = p
    to (full o n) = absurd (one_direction_half u w o two)

    from : pos 0 <ℤ cross_of u v → IsWithin u w v
    from p =
        ⊎_elim (λ r. above_half r (inl p))
        (λ s. ⊎_elim (λ r. half (record { parallel = r; other_way = other_way u w two r }) p) (λ r. below_half r p (sum.weak_second p (omega (arith, ints, r)))) s) (sign (cross_of u w))

-- v and w in one half, u in the other: v is within the turn exactly where w is to the left of it
within_first : (u v w : Direction) → ((IsFirstHalf u × IsSecondHalf v) × IsSecondHalf w) ⊎ ((IsSecondHalf u × IsFirstHalf v) × IsFirstHalf w) → IsWithin u w v ↔ (pos 0 <ℤ cross_of v w)
within_first u v w h = (to, from)
  where
    two : AreTwoHalves u w
    two = ⊎_elim (λ f. inl (f.0.0, f.1)) (λ f. inr (f.0.0, f.1)) h

    sum : IsSum (cross_of u w) (cross_of v w) (cross_of u v)
    sum = sum_first u v w h

    to : IsWithin u w v → pos 0 <ℤ cross_of v w
    to (below_half r p q) = q
    to (above_half r some) = ⊎_elim (λ p. sum.other p (omega (arith, ints, r))) (λ q. q) some
    to (half o p) = sum.other p (omega (arith, ints, o.parallel))
    to (full o n) = absurd (one_direction_half u w o two)

    from : pos 0 <ℤ cross_of v w → IsWithin u w v
    from q =
        ⊎_elim (λ r. above_half r (inr q))
        (λ s. ⊎_elim (λ r. half (record { parallel = r; other_way = other_way u w two r }) (sum.weak_first (omega (arith, ints, r)) q)) (λ r. below_half r (sum.weak_first (omega (arith, ints, r)) q) q) s) (sign (cross_of u w))

-- u and w in one half, v anywhere: the short turn and the long one
within_short : (u v w : Direction) → pos 0 <ℤ cross_of u w → IsWithin u w v → (pos 0 <ℤ cross_of u v) × (pos 0 <ℤ cross_of v w)
within_short u v w r (below_half r' p q) = (p, q)
within_short u v w r (above_half r' some) = absurd (omega (arith, ints, r, r'))
within_short u v w r (half o p) = absurd (omega (arith, ints, r, o.parallel))
within_short u v w r (full o n) = absurd (omega (arith, ints, r, o.parallel))

within_long : (u v w : Direction) → cross_of u w <ℤ pos 0 → IsWithin u w v → (pos 0 <ℤ cross_of u v) ⊎ (pos 0 <ℤ cross_of v w)
within_long u v w r (below_half r' p q) = absurd (omega (arith, ints, r, r'))
within_long u v w r (above_half r' some) = some
within_long u v w r (half o p) = absurd (omega (arith, ints, r, o.parallel))
within_long u v w r (full o n) = absurd (omega (arith, ints, r, o.parallel))

-- v in the other half is never within the short turn, and always within the long one
not_within_short : (u v w : Direction) → ((IsFirstHalf u × IsSecondHalf v) × IsFirstHalf w) ⊎ ((IsSecondHalf u × IsFirstHalf v) × IsSecondHalf w) → pos 0 <ℤ cross_of u w → ¬ IsWithin u w v
not_within_short u v w h r k =
    let both : (pos 0 <ℤ cross_of u v) × (pos 0 <ℤ cross_of v w) = within_short u v w r k in
    let sum : IsSum (cross_of u v) (cross_of v w) (pos 0 -ℤ cross_of u w) = sum_middle u v w h in
    let m : pos 0 <ℤ (pos 0 -ℤ cross_of u w) = sum.weak_second both.0 (omega (arith, ints, both.1)) in
    omega (arith, ints, m, r)

is_within_long : (u v w : Direction) → ((IsFirstHalf u × IsSecondHalf v) × IsFirstHalf w) ⊎ ((IsSecondHalf u × IsFirstHalf v) × IsSecondHalf w) → cross_of u w <ℤ pos 0 → IsWithin u w v
is_within_long u v w h r =
    let sum : IsSum (cross_of u v) (cross_of v w) (pos 0 -ℤ cross_of u w) = sum_middle u v w h in
    above_half r (by_lt_z (pos 0) (cross_of u v) (λ p. inl p) (λ p. inr (sum.other (below_zero (cross_of u w) r) p)))

-- ---- the order, and what is within a turn

-- the order in each case of the halves
ahead : (u v : Direction) → IsFirstHalf u → IsSecondHalf v → IsBefore u v
ahead u v f s = inl (f, s)

never : (u v : Direction) → IsSecondHalf u → IsFirstHalf v → ¬ IsBefore u v
never u v s f b = ⊎_elim (λ two. one_half u two.0 s) (λ one. ⊎_elim (λ k. one_half u k.0 s) (λ k. one_half v f k.1) one.0) b

left_of : (u v : Direction) → AreOneHalf u v → IsBefore u v → pos 0 <ℤ cross_of u v
left_of u v one b =
    ⊎_elim (λ two. absurd (⊎_elim (λ k. one_half v k.1 two.1) (λ k. one_half u two.0 k.0) one)) (λ k. k.1) b

pub before_trans : (u v w : Direction) → IsBefore u v → IsBefore v w → IsBefore u w
before_trans u v w b c =
    ⊎_elim
    (λ two. ⊎_elim (λ two'. absurd (one_half v two'.0 two.1)) (λ one. ⊎_elim (λ k. absurd (one_half v k.0 two.1)) (λ k. inl (two.0, k.1)) one.0) c)
    (λ one. ⊎_elim (λ f. ⊎_elim (λ two. inl (f.0, two.1)) (λ one'. ⊎_elim (λ g. inr (inl (f.0, g.1), (sum_same u v w (inl ((f.0, f.1), g.1))).weak_second one.1 (omega (arith, ints, one'.1)))) (λ g. absurd (one_half v f.1 g.0)) one'.0) c)
    (λ s. ⊎_elim (λ two. absurd (one_half v two.0 s.1)) (λ one'. ⊎_elim (λ g. absurd (one_half v g.0 s.1)) (λ g. inr (inr (s.0, g.1), (sum_same u v w (inr ((s.0, s.1), g.1))).weak_second one.1 (omega (arith, ints, one'.1)))) one'.0) c)
    one.0) b

-- for u before w: within the turn from u to w lies what is after u and before w
pub within_between : (u v w : Direction) → IsBefore u w → IsWithin u w v ↔ (IsBefore u v × IsBefore v w)
within_between u v w b = ⊎_elim (λ two. apart two.0 two.1 (halves v)) (λ one. ⊎_elim (λ f. firsts f.0 f.1 one.1 (halves v)) (λ s. seconds s.0 s.1 one.1 (halves v)) one.0) b
  where
    apart : IsFirstHalf u → IsSecondHalf w → IsFirstHalf v ⊎ IsSecondHalf v → IsWithin u w v ↔ (IsBefore u v × IsBefore v w)
    apart f s (inl g) =
        let k : IsWithin u w v ↔ (pos 0 <ℤ cross_of u v) = within_last u v w (inl ((f, g), s)) in
        (λ h. (inr (inl (f, g), k.0 h), ahead v w g s), λ h. k.1 (left_of u v (inl (f, g)) h.0))
    apart f s (inr g) =
        let k : IsWithin u w v ↔ (pos 0 <ℤ cross_of v w) = within_first u v w (inl ((f, g), s)) in
        (λ h. (ahead u v f g, inr (inr (g, s), k.0 h)), λ h. k.1 (left_of v w (inr (g, s)) h.1))

    firsts : IsFirstHalf u → IsFirstHalf w → pos 0 <ℤ cross_of u w → IsFirstHalf v ⊎ IsSecondHalf v → IsWithin u w v ↔ (IsBefore u v × IsBefore v w)
    firsts f s r (inl g) = (
      λ h. let k : (pos 0 <ℤ cross_of u v) × (pos 0 <ℤ cross_of v w) = within_short u v w r h in (inr (inl (f, g), k.0), inr (inl (g, s), k.1)),
      λ h. below_half r (left_of u v (inl (f, g)) h.0) (left_of v w (inl (g, s)) h.1),
    )
    firsts f s r (inr g) = (λ h. absurd (not_within_short u v w (inl ((f, g), s)) r h), λ h. absurd (never v w g s h.1))

    seconds : IsSecondHalf u → IsSecondHalf w → pos 0 <ℤ cross_of u w → IsFirstHalf v ⊎ IsSecondHalf v → IsWithin u w v ↔ (IsBefore u v × IsBefore v w)
    seconds f s r (inl g) = (λ h. absurd (not_within_short u v w (inr ((f, g), s)) r h), λ h. absurd (never u v f g h.0))
    seconds f s r (inr g) = (
      λ h. let k : (pos 0 <ℤ cross_of u v) × (pos 0 <ℤ cross_of v w) = within_short u v w r h in (inr (inr (f, g), k.0), inr (inr (g, s), k.1)),
      λ h. below_half r (left_of u v (inr (f, g)) h.0) (left_of v w (inr (g, s)) h.1),
    )

-- for w before u: within the turn from u to w, which passes east, lies what is after u or before w
pub within_around : (u v w : Direction) → IsBefore w u → IsWithin u w v ↔ (IsBefore u v ⊎ IsBefore v w)
within_around u v w b =
    ⊎_elim (λ two. apart two.1 two.0 (halves v))
    (λ one. let r : cross_of u w <ℤ pos 0 = let e : cross_of u w ≡ pos 0 -ℤ cross_of w u = reversed w u in omega (arith, ints, e, one.1) in
    ⊎_elim (λ f. firsts f.1 f.0 r (halves v)) (λ s. seconds s.1 s.0 r (halves v)) one.0) b
  where
    apart : IsSecondHalf u → IsFirstHalf w → IsFirstHalf v ⊎ IsSecondHalf v → IsWithin u w v ↔ (IsBefore u v ⊎ IsBefore v w)
    apart f s (inl g) =
        let k : IsWithin u w v ↔ (pos 0 <ℤ cross_of v w) = within_first u v w (inr ((f, g), s)) in
        (λ h. inr (inr (inl (g, s), k.0 h)), λ h. ⊎_elim (λ c. absurd (never u v f g c)) (λ c. k.1 (left_of v w (inl (g, s)) c)) h)
    apart f s (inr g) =
        let k : IsWithin u w v ↔ (pos 0 <ℤ cross_of u v) = within_last u v w (inr ((f, g), s)) in
        (λ h. inl (inr (inr (f, g), k.0 h)), λ h. ⊎_elim (λ c. k.1 (left_of u v (inr (f, g)) c)) (λ c. absurd (never v w g s c)) h)

    firsts : IsFirstHalf u → IsFirstHalf w → cross_of u w <ℤ pos 0 → IsFirstHalf v ⊎ IsSecondHalf v → IsWithin u w v ↔ (IsBefore u v ⊎ IsBefore v w)
    firsts f s r (inl g) = (
      λ h. ⊎_elim (λ p. inl (inr (inl (f, g), p))) (λ q. inr (inr (inl (g, s), q))) (within_long u v w r h),
      λ h. above_half r (⊎_elim (λ c. inl (left_of u v (inl (f, g)) c)) (λ c. inr (left_of v w (inl (g, s)) c)) h),
    )
    firsts f s r (inr g) = (λ h. inl (ahead u v f g), λ h. is_within_long u v w (inl ((f, g), s)) r)

    seconds : IsSecondHalf u → IsSecondHalf w → cross_of u w <ℤ pos 0 → IsFirstHalf v ⊎ IsSecondHalf v → IsWithin u w v ↔ (IsBefore u v ⊎ IsBefore v w)
    seconds f s r (inl g) = (λ h. inr (ahead v w g s), λ h. is_within_long u v w (inr ((f, g), s)) r)
    seconds f s r (inr g) = (
      λ h. ⊎_elim (λ p. inl (inr (inr (f, g), p))) (λ q. inr (inr (inr (g, s), q))) (within_long u v w r h),
      λ h. above_half r (⊎_elim (λ c. inl (left_of u v (inr (f, g)) c)) (λ c. inr (left_of v w (inr (g, s)) c)) h),
    )

-- ---- the same of the order of a turn from east

pub below_trans : (u v w : Direction) → IsBelow u v → IsBelow v w → IsBelow u w
below_trans u v w b c = below_of u w (before_trans u v w (before_of u v b) (before_of v w c))

pub below_between : (u v w : Direction) → IsBelow u w → IsWithin u w v ↔ (IsBelow u v × IsBelow v w)
below_between u v w b =
    let k : IsWithin u w v ↔ (IsBefore u v × IsBefore v w) = within_between u v w (before_of u w b) in
    (λ h. (below_of u v (k.0 h).0, below_of v w (k.0 h).1), λ h. k.1 (before_of u v h.0, before_of v w h.1))

pub below_around : (u v w : Direction) → IsBelow w u → IsWithin u w v ↔ (IsBelow u v ⊎ IsBelow v w)
below_around u v w b =
    let k : IsWithin u w v ↔ (IsBefore u v ⊎ IsBefore v w) = within_around u v w (before_of w u b) in
    (λ h. ⊎_elim (λ c. inl (below_of u v c)) (λ c. inr (below_of v w c)) (k.0 h), λ h. k.1 (⊎_elim (λ c. inl (before_of u v c)) (λ c. inr (before_of v w c)) h))

-- ---- the answers

pub first_is_below : (u v : Direction) → IsBefore u v → IsBelow u v × ((¬ IsOneDirection u v) × (¬ IsBelow v u))
first_is_below u v b = (below_of u v b, (not_one u v b, λ c. not_after u v b (before_of v u c)))

pub one_is_one : (u v : Direction) → AreOneHalf u v → cross_of u v ≡ pos 0 → IsOneDirection u v × ((¬ IsBelow u v) × (¬ IsBelow v u))
one_is_one u v one e = (
  record { parallel = e; same_way = same_way u v one e },
  (
    λ b. let l : pos 0 <ℤ cross_of u v = left_of u v one (before_of u v b) in omega (arith, ints, e, l),
    λ b. let l : pos 0 <ℤ cross_of v u = left_of v u (⊎_elim (λ k. inl (k.1, k.0)) (λ k. inr (k.1, k.0)) one) (before_of v u b) in
        let r : cross_of v u ≡ pos 0 -ℤ cross_of u v = reversed u v in omega (arith, ints, e, l, r),
  ),
)

-- what the three clauses of the order say of an answer
abbrev pub Answers : (u v : Direction) → Ordering → Type 0
Answers u v o = ((o ≡ Less) ↔ IsBelow u v) × (((o ≡ Equal) ↔ IsOneDirection u v) × ((o ≡ Greater) ↔ IsBelow v u))

pub answers : (u v : Direction) (o : Ordering) → MatchOrdering o (IsBefore u v) (AreOneHalf u v × (cross_of u v ≡ pos 0)) (IsBefore v u) → Answers u v o
answers u v Less b =
    let k : IsBelow u v × ((¬ IsOneDirection u v) × (¬ IsBelow v u)) = first_is_below u v b in
    ((λ e. k.0, λ h. refl), ((λ e. absurd (cc), λ h. absurd (k.1.0 h)), (λ e. absurd (cc), λ h. absurd (k.1.1 h))))
answers u v Equal b =
    let k : IsOneDirection u v × ((¬ IsBelow u v) × (¬ IsBelow v u)) = one_is_one u v b.0 b.1 in
    ((λ e. absurd (cc), λ h. absurd (k.1.0 h)), ((λ e. k.0, λ h. refl), (λ e. absurd (cc), λ h. absurd (k.1.1 h))))
answers u v Greater b =
    let k : IsBelow v u × ((¬ IsOneDirection v u) × (¬ IsBelow u v)) = first_is_below v u b in
    ((λ e. absurd (cc), λ h. absurd (k.1.1 h)), ((λ e. absurd (cc), λ h. absurd (k.1.0 (one_back u v h))), (λ e. k.0, λ h. refl)))

-- where both are in one half, the products tell
by_products : (u v : Direction) (o : Ordering) → AreOneHalf u v → MatchOrdering o ((u.y *ℤ v.x) <ℤ (u.x *ℤ v.y)) (u.y *ℤ v.x ≡ u.x *ℤ v.y) ((u.x *ℤ v.y) <ℤ (u.y *ℤ v.x)) → Answers u v o
by_products u v Less one m = answers u v Less (inr (one, omega (arith, ints, m)))
by_products u v Equal one m = answers u v Equal (one, omega (arith, ints, m))
by_products u v Greater one m =
    let e : cross_of v u ≡ pos 0 -ℤ cross_of u v = reversed u v in
    answers u v Greater (inr (⊎_elim (λ k. inl (k.1, k.0)) (λ k. inr (k.1, k.0)) one, omega (arith, ints, m, e)))

pub one_half_answers : (u v : Direction) (o : Ordering) → AreOneHalf u v → o ≡ int_cmp (u.y *ℤ v.x) (u.x *ℤ v.y) → Answers u v o
one_half_answers u v o one e = by_products u v o one (int_ranked (u.y *ℤ v.x) (u.x *ℤ v.y) o e)

-- ---- one direction takes the place of another

alike_before : (u v w : Direction) → IsOneDirection u v → IsBefore v w → IsBefore u w
alike_before u v w o b =
    ⊎_elim
    (λ two. ⊎_elim (λ f. inl (f, two.1)) (λ s. absurd (one_direction_half u v o (inr (s, two.0)))) (halves u))
    (λ one. ⊎_elim
    (λ k. ⊎_elim (λ f. inr (inl (f, k.1), (sum_same u v w (inl ((f, k.0), k.1))).weak_first (omega (arith, ints, o.parallel)) one.1)) (λ s. absurd (one_direction_half u v o (inr (s, k.0)))) (halves u))
    (λ k. ⊎_elim (λ f. absurd (one_direction_half u v o (inl (f, k.0)))) (λ s. inr (inr (s, k.1), (sum_same u v w (inr ((s, k.0), k.1))).weak_first (omega (arith, ints, o.parallel)) one.1)) (halves u))
    one.0) b

alike_after : (u v w : Direction) → IsOneDirection u v → IsBefore w v → IsBefore w u
alike_after u v w o b =
    let back : cross_of v u ≡ pos 0 = (one_back u v o).parallel in
    ⊎_elim
    (λ two. ⊎_elim (λ f. absurd (one_direction_half u v o (inl (f, two.1)))) (λ s. inl (two.0, s)) (halves u))
    (λ one. ⊎_elim
    (λ k. ⊎_elim (λ f. inr (inl (k.0, f), (sum_same w v u (inl ((k.0, k.1), f))).weak_second one.1 (omega (arith, ints, back)))) (λ s. absurd (one_direction_half u v o (inr (s, k.1)))) (halves u))
    (λ k. ⊎_elim (λ f. absurd (one_direction_half u v o (inl (f, k.1)))) (λ s. inr (inr (k.0, s), (sum_same w v u (inr ((k.0, k.1), s))).weak_second one.1 (omega (arith, ints, back)))) (halves u))
    one.0) b

pub alike_below : (u v w : Direction) → IsOneDirection u v → IsBelow v w → IsBelow u w
alike_below u v w o b = below_of u w (alike_before u v w o (before_of v w b))

pub alike_above : (u v w : Direction) → IsOneDirection u v → IsBelow w v → IsBelow w u
alike_above u v w o b = below_of w u (alike_after u v w o (before_of w v b))
