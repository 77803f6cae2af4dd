-- What holds or doesn't.
use Rattle.std.proofs.Common.{◌≡◌, ◌⊎◌, inl, inr, ℤ, Option, Some, None, refl, ap, arith}
use Rattle.std.proofs.lemmas.Int.{ints, by_lt_z}
use Rattle.tl_geom.specs.declared.point.Point.{Point}

-- it holds or it doesn't
abbrev pub Decided : Type 0 → Type 0
Decided P = P ⊎ (¬ P)

pub same_int : (a b : ℤ) → Decided (a ≡ b)
same_int a b =
    by_lt_z a b
    (λ less. inr (λ e. omega (arith, ints, less, e)))
    (λ ge. by_lt_z b a (λ more. inr (λ e. omega (arith, ints, more, e))) (λ le. inl (omega (arith, ints, ge, le))))

pub same_point : (p q : Point) → Decided (p ≡ q)
same_point p q = elim (same_int p.x q.x) [
  | inr other ↦ inr (λ e. other (ap (λ (r : Point). r.x) e))
  | inl x ↦ elim (same_int p.y q.y) [
    | inr other ↦ inr (λ e. other (ap (λ (r : Point). r.y) e))
    | inl y ↦ inl (λ i. record { x = x i; y = y i })
  ]
]

-- two that may be there are one where both are and are one, or neither is
pub same_option : {X : Type 0} → ((a b : X) → Decided (a ≡ b)) → (p q : Option X) → Decided (p ≡ q)
same_option same None None = inl refl
same_option same None (Some q) = inr (λ e. absurd cc)
same_option same (Some p) None = inr (λ e. absurd cc)
same_option {X} same (Some p) (Some q) = elim (same p q) [
  | inl one ↦ inl (ap Some one)
  | inr other ↦ inr (λ e. other (let s : Some p ≡ Some q = e in cc))
]

-- both hold, or one doesn't
pub both : {P Q : Type 0} → Decided P → Decided Q → Decided (P × Q)
both (inl p) (inl q) = inl (p, q)
both (inl p) (inr no_q) = inr (λ h. no_q h.1)
both (inr no_p) q = inr (λ h. no_p h.0)

-- one holds, or neither does
pub either : {P Q : Type 0} → Decided P → Decided Q → Decided (P ⊎ Q)
either (inl p) q = inl (inl p)
either (inr no_p) (inl q) = inl (inr q)
either (inr no_p) (inr no_q) = inr (λ h. elim h [ inl p ↦ no_p p | inr q ↦ no_q q ])
