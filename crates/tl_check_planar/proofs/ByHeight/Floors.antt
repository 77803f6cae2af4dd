-- The greatest whole number that isn't above a ratio.
use Rattle.std.proofs.Common.{◌≡◌, ℕ, suc, ◌+◌, ◌-◌, ◌*◌, ◌/◌, ◌<◌, ◌≤◌, ℤ, pos, negsuc, ◌+ℤ◌, ◌-ℤ◌, ◌*ℤ◌, ◌<ℤ◌, ◌≤ℤ◌, subst, mul-le-mul_left, arith}
use Rattle.std.proofs.lemmas.Int.{ints}
use Rattle.tl_geom.proofs.Polynomials.{num, ◌⊕◌, ◌⊖◌, ◌⊗◌, same}

-- n of d parts are h at most, and one more is above
pub record IsFloor (h d : ℤ) : Type 0 where
  pub n : ℤ
  pub from : (d *ℤ n) ≤ℤ h
  pub to : h <ℤ (d *ℤ (n +ℤ pos 1))

one_more : (d n : ℤ) → d *ℤ (n +ℤ pos 1) ≡ d *ℤ n +ℤ d
one_more d n = same (num d ⊗ (num n ⊕ num (pos 1))) (num d ⊗ num n ⊕ num d) (omega arith)

natural : (m e : ℕ) → 0 < e → IsFloor (pos m) (pos e)
natural m e above =
    let low : e * (m / e) ≤ m = omega arith in
    let high : m < e * (m / e) + e = omega arith in
    record {
      n = pos (m / e);
      from = omega (arith, ints, low);
      to = let more = one_more (pos e) (pos (m / e)) in omega (arith, ints, high, more);
    }

-- the same, h being less by k times d
lowered : (h d k : ℤ) → IsFloor (h +ℤ d *ℤ k) d → IsFloor h d
lowered h d k f =
    let apart : d *ℤ (f.n -ℤ k) ≡ d *ℤ f.n -ℤ d *ℤ k = same (num d ⊗ (num f.n ⊖ num k)) (num d ⊗ num f.n ⊖ num d ⊗ num k) (omega arith) in
    let more = one_more d f.n in
    let more' = one_more d (f.n -ℤ k) in
    let from = f.from in
    let to = f.to in
    record { n = f.n -ℤ k; from = omega (arith, ints, apart, from); to = omega (arith, ints, apart, more, more', to) }

pub floor : (h d : ℤ) → pos 0 <ℤ d → IsFloor h d
floor h (negsuc e) above = absurd (omega (arith, ints, above))
floor (pos m) (pos e) above = natural m e (omega (arith, ints, above))
floor (negsuc m) (pos e) above =
    let some : 0 < e = omega (arith, ints, above) in
    let enough : suc m ≤ e * suc m = omega (arith, mul-le-mul_left (suc m) some) in
    lowered (negsuc m) (pos e) (pos (suc m))
    (let is : pos (e * suc m - suc m) ≡ negsuc m +ℤ pos e *ℤ pos (suc m) = omega (arith, ints, enough) in
    subst (λ z. IsFloor z (pos e)) is (natural (e * suc m - suc m) e some))
