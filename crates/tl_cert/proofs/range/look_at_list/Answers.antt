use Rattle.std.proofs.Common.{◌≡◌, ◌<◌, ℕ, zero, suc, List, [], ◌∷◌, length, get_or, refl, arith}
use Rattle.tl_cert.proofs.range.look_at_list.Goals as goal

-- within a list the default says nothing
within : (xs : List ℕ) (k d : ℕ) → k < length xs → get_or xs k d ≡ get_or xs k 0
within [] k d below = absurd (omega (arith, below))
within (x ∷ xs) zero d below = refl
within (x ∷ xs) (suc k) d below = within xs k d (omega (arith, below))

pub returns : goal.returns
returns c = λ k d below. let fits = c.type_inv.list k in rw (within c.args.list.now k d below) (omega (arith, fits))
