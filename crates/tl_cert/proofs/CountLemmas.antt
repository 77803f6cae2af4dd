-- Which numbers of nodes trees can have.
use Rattle.std.proofs.Common.{◌≡◌, inl, inr, ℕ, zero, suc, ◌-◌, ◌<◌, ◌≤◌, ◌%◌, ◌/◌, arith}
use Rattle.tl_cert.specs.Keeping.Steps.{CanHave}

-- in version 1, where the others are an even number
pub by_halves : (version p r : ℕ) → version < 2 → (p ≡ r → ⊥) → (p ≡ 0 → ⊥) → p ≤ r → (r - p) % 2 ≡ 0 → CanHave version p r
by_halves zero p r old other some more even = inr (omega arith, ((r - p) / 2, omega (arith, even)))
by_halves (suc zero) p r old other some more even = inr (omega arith, ((r - p) / 2, omega (arith, even)))
by_halves (suc (suc version)) p r old other some more even = absurd (omega arith)

pub even_others : (version p r : ℕ) → version < 2 → CanHave version p r → (r - p) % 2 ≡ 0
even_others zero p r old (inl same) = omega (arith, same)
even_others zero p r old (inr more) = omega (arith, more.1.1)
even_others (suc zero) p r old (inl same) = omega (arith, same)
even_others (suc zero) p r old (inr more) = omega (arith, more.1.1)
even_others (suc (suc version)) p r old can = absurd (omega arith)

pub can_same : (version p q r s : ℕ) → p ≡ q → r ≡ s → CanHave version q s → CanHave version p r
can_same version p q r s trees nodes can = rw (trees, nodes) can
