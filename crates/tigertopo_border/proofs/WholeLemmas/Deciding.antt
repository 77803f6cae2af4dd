-- A place lies on a chain that passes a test, or on none.
use Rattle.std.proofs.Common.{◌≡◌, ◌⊎◌, inl, inr, ⊎_elim, ℕ, zero, suc, ◌+◌, ℤ, pos, ◌*ℤ◌, Bool, true, false, Some, List, [], ◌∷◌, slice_get, refl, sym, ap, subst, ◌∙◌, arith}
use Rattle.std.proofs.lemmas.Bool.{false≢true}
use Rattle.std.proofs.lemmas.Int.{ints, by_lt_z}
use Rattle.tl_geom.specs.declared.point.Point.{Point}
use Rattle.tl_geom.specs.declared.rational.Rational.{Rational}
use Rattle.tl_geom.specs.declared.segment.Segment.{Segment}
use Rattle.tl_geom.specs.Plane.{IsOn, IsBetween}
use Rattle.tl_geom.proofs.Signs.{sign}
use Rattle.tl_map_county.specs.TheMap.{MapChain}
use Rattle.tl_check_planar.specs.Planar.{IsOnChain, IsOnSegment}
use Rattle.tl_check_planar.specs.Keeping.Apart.{one_found}
use Rattle.tl_check_planar.specs.ByHeight.Heights.{turn_at}
use Rattle.tl_check_faces.specs.Facing.{IsOff}
use Rattle.tl_check_faces.proofs.Ends.{point_or}

between_or : (p q v : ℤ) → IsBetween p q v ⊎ (¬ IsBetween p q v)
between_or p q v =
    by_lt_z v p
    (λ below.
    by_lt_z v q (λ low. inr (⊎_elim (λ k. let h = k.0 in omega (arith, ints, h, below)) (λ k. let h = k.0 in omega (arith, ints, h, low))))
    (λ le. inl (inr (le, omega (arith, ints, below)))))
    (λ from.
    by_lt_z q v
    (λ past. by_lt_z p v (λ high. inr (⊎_elim (λ k. let h = k.1 in omega (arith, ints, h, past)) (λ k. let h = k.1 in omega (arith, ints, h, high))))
    (λ le. inl (inr (omega (arith, ints, past), le))))
    (λ le. inl (inl (from, le))))

on_or : (u : Segment) (r : Rational) → IsOn u r ⊎ (¬ IsOn u r)
on_or u r =
    ⊎_elim (λ less. inr (λ on. let e = on.straight in omega (arith, ints, less, e)))
    (⊎_elim
    (λ zero.
    ⊎_elim
    (λ x. ⊎_elim (λ y. inl (record { straight = zero; x_between = x; y_between = y })) (λ no. inr (λ on. no on.y_between))
    (between_or (r.d *ℤ u.a.y) (r.d *ℤ u.b.y) r.y))
    (λ no. inr (λ on. no on.x_between))
    (between_or (r.d *ℤ u.a.x) (r.d *ℤ u.b.x) r.x))
    (λ more. inr (λ on. let e = on.straight in omega (arith, ints, more, e))))
    (sign (turn_at u.a u.b r))

-- the segment from p to q
abbrev joining : (p q : Point) → ¬ (p ≡ q) → Segment
joining p q differ = record { a = p; b = q; different = differ }

moved : (p q a b : Point) (differ : ¬ (p ≡ q)) (ne : ¬ (a ≡ b)) (r : Rational) → p ≡ a → q ≡ b → IsOn (joining a b ne) r → IsOn (joining p q differ) r
moved p q a b differ ne r e f on = record {
  straight = subst (λ z. turn_at z q r ≡ pos 0) (sym e) (subst (λ z. turn_at a z r ≡ pos 0) (sym f) on.straight);
  x_between = subst (λ (z : Point). IsBetween (r.d *ℤ z.x) (r.d *ℤ q.x) r.x) (sym e) (subst (λ (z : Point). IsBetween (r.d *ℤ a.x) (r.d *ℤ z.x) r.x) (sym f) on.x_between);
  y_between = subst (λ (z : Point). IsBetween (r.d *ℤ z.y) (r.d *ℤ q.y) r.y) (sym e) (subst (λ (z : Point). IsBetween (r.d *ℤ a.y) (r.d *ℤ z.y) r.y) (sym f) on.y_between);
}

after : (k : ℕ) → suc k + 1 ≡ suc (k + 1)
after k = omega arith

-- the first segment, or another
first_or : (p q : Point) (points : List Point) (r : Rational) → IsOnChain (q ∷ points) r ⊎ (¬ IsOnChain (q ∷ points) r) → (p ≡ q) ⊎ (¬ (p ≡ q)) →
    IsOnChain (p ∷ (q ∷ points)) r ⊎ (¬ IsOnChain (p ∷ (q ∷ points)) r)
first_or p q points r (inl (k, on)) same = inl (suc k, record { segment = on.segment; from = on.from; to = ap (slice_get (p ∷ (q ∷ points))) (after k) ∙ on.to; on = on.on })
first_or p q points r (inr never) (inl e) = inr none
  where
    none : ¬ IsOnChain (p ∷ (q ∷ points)) r
    none (zero, on) =
        on.segment.different
        (sym (one_found p on.segment.a (Some p) refl on.from) ∙ e ∙ one_found q on.segment.b (Some q) refl on.to)
    none (suc k, on) = never (k, record { segment = on.segment; from = on.from; to = ap (slice_get (p ∷ (q ∷ points))) (sym (after k)) ∙ on.to; on = on.on })
first_or p q points r (inr never) (inr differ) = go (on_or (joining p q differ) r)
  where
    go : IsOn (joining p q differ) r ⊎ (¬ IsOn (joining p q differ) r) → IsOnChain (p ∷ (q ∷ points)) r ⊎ (¬ IsOnChain (p ∷ (q ∷ points)) r)
    go (inl on) = inl (zero, record { segment = joining p q differ; from = refl; to = refl; on = on })
    go (inr off) = inr none
      where
        none : ¬ IsOnChain (p ∷ (q ∷ points)) r
        none (zero, on) =
            off (moved p q on.segment.a on.segment.b differ on.segment.different r
            (one_found p on.segment.a (Some p) refl on.from) (one_found q on.segment.b (Some q) refl on.to)
            (record { straight = on.on.straight; x_between = on.on.x_between; y_between = on.on.y_between }))
        none (suc k, on) = never (k, record { segment = on.segment; from = on.from; to = ap (slice_get (p ∷ (q ∷ points))) (sym (after k)) ∙ on.to; on = on.on })

chain_or : (points : List Point) (r : Rational) → IsOnChain points r ⊎ (¬ IsOnChain points r)
chain_or [] r = inr (λ h. none h.0 h.1)
  where
    none : (k : ℕ) → IsOnSegment [] k r → ⊥
    none k on = let e = on.from in cc
chain_or (p ∷ []) r = inr (λ h. none h.0 h.1)
  where
    none : (k : ℕ) → IsOnSegment (p ∷ []) k r → ⊥
    none zero on = let e = on.to in cc
    none (suc k) on = let e = on.to in cc
chain_or (p ∷ (q ∷ points)) r = first_or p q points r (chain_or (q ∷ points) r) (point_or p q)

-- a chain that passes the test and holds the place
pub record IsMet (test : MapChain → Bool) (chains : List MapChain) (r : Rational) : Type 0 where
  pub c : ℕ
  pub chain : MapChain
  pub is : slice_get chains c ≡ Some chain
  pub passes : test chain ≡ true
  pub on : IsOnChain chain.points r

-- none does
abbrev pub IsMissed : (MapChain → Bool) → List MapChain → Rational → Type 0
IsMissed test chains r = (c : ℕ) (chain : MapChain) → slice_get chains c ≡ Some chain → test chain ≡ true → ¬ IsOnChain chain.points r

module _ (test : MapChain → Bool) (r : Rational) where
  found_first : (c : MapChain) (chains : List MapChain) → IsMet test chains r ⊎ IsMissed test chains r → (b : Bool) → test c ≡ b → IsOnChain c.points r ⊎ (¬ IsOnChain c.points r) →
      IsMet test (c ∷ chains) r ⊎ IsMissed test (c ∷ chains) r
  found_first c chains (inl m) b e on = inl (record { c = suc m.c; chain = m.chain; is = m.is; passes = m.passes; on = m.on })
  found_first c chains (inr never) true e (inl on) = inl (record { c = zero; chain = c; is = refl; passes = e; on = on })
  found_first c chains (inr never) true e (inr off) = inr none
    where
      none : IsMissed test (c ∷ chains) r
      none zero chain is t on = off (subst (λ (z : MapChain). IsOnChain z.points r) (sym (one_found c chain (Some c) refl is)) on)
      none (suc d) chain is t on = never d chain is t on
  found_first c chains (inr never) false e on = inr none
    where
      none : IsMissed test (c ∷ chains) r
      none zero chain is t on' = false≢true (sym e ∙ ap test (one_found c chain (Some c) refl is) ∙ t)
      none (suc d) chain is t on' = never d chain is t on'

  pub met_or : (chains : List MapChain) → IsMet test chains r ⊎ IsMissed test chains r
  met_or [] = inr (λ c chain is t on. absurd (cc))
  met_or (c ∷ chains) = found_first c chains (met_or chains) (test c) refl (chain_or c.points r)

-- on some chain, or on none
pub on_some_or : (chains : List MapChain) (r : Rational) → IsMet (λ c. true) chains r ⊎ IsOff chains r
on_some_or chains r = ⊎_elim (λ m. inl m) (λ no. inr (λ c chain is on. no c chain is refl on)) (met_or (λ c. true) r chains)
