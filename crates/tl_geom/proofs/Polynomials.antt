-- Identities and orders of polynomials over whole numbers, by reflection.
-- A polynomial is written as a `Poly`. Its value is a whole number, and its two parts, `plus` and `minus`, are
-- natural numbers whose difference is that value. `omega arith` multiplies natural numbers out, so an identity or an
-- order of two polynomials is one fact on their parts that it proves alone.
--     same, at_most, below       the value of one polynomial is, is at most, or is below that of another
--     same_by, same_by_two       one value is another, by equations k ≡ l, each times a factor c
use Rattle.std.proofs.Common.{◌≡◌, ℕ, ◌+◌, ◌*◌, ◌<◌, ◌≤◌, ℤ, ◌+ℤ◌, ◌-ℤ◌, ◌*ℤ◌, neg_ℤ, ◌<ℤ◌, ◌≤ℤ◌, ap, arith}
use Rattle.std.proofs.lemmas.Int.{ints}
use borrow.Author.Differences.{up, down, sum_is_lem, neg_is, product_is, same_in, below_in, at_most_in}

infixl 6 ◌⊕◌ ◌⊖◌
infixl 7 ◌⊗◌
pub data Poly : Type 0 where
  num : ℤ → Poly
  ◌⊕◌ : Poly → Poly → Poly
  ◌⊖◌ : Poly → Poly → Poly
  ◌⊗◌ : Poly → Poly → Poly

abbrev pub value : Poly → ℤ
value (num z) = z
value (e ⊕ f) = value e +ℤ value f
value (e ⊖ f) = value e -ℤ value f
value (e ⊗ f) = value e *ℤ value f

abbrev mutual
  pub plus : Poly → ℕ
  plus (num z) = up z
  plus (e ⊕ f) = plus e + plus f
  plus (e ⊖ f) = plus e + minus f
  plus (e ⊗ f) = plus e * plus f + minus e * minus f

  pub minus : Poly → ℕ
  minus (num z) = down z
  minus (e ⊕ f) = minus e + minus f
  minus (e ⊖ f) = minus e + plus f
  minus (e ⊗ f) = plus e * minus f + minus e * plus f

-- two products agree where their factors do
product : (u d p m u' d' p' m' : ℕ) → u + m ≡ d + p → u' + m' ≡ d' + p' →
    (u * u' + d * d') + (p * m' + m * p') ≡ (u * d' + d * u') + (p * p' + m * m')
product u d p m u' d' p' m' h k =
    omega (arith, ap (λ n. n * u') h, ap (λ n. n * d') h, ap (λ n. p * n) k, ap (λ n. m * n) k)

-- the two parts of a polynomial, and its value
parts : (e : Poly) → up (value e) + minus e ≡ down (value e) + plus e
parts (num z) = omega arith
parts (e ⊕ f) = omega (arith, sum_is_lem (value e) (value f), parts e, parts f)
parts (e ⊖ f) = omega (arith, sum_is_lem (value e) (neg_ℤ (value f)), neg_is (value f), parts e, parts f)
parts (e ⊗ f) =
    let k : _ = product (up (value e)) (down (value e)) (plus e) (minus e) (up (value f)) (down (value f)) (plus f) (minus f) (parts e) (parts f) in
    omega (arith, product_is (value e) (value f), k)

pub same : (e f : Poly) → plus e + minus f ≡ plus f + minus e → value e ≡ value f
same e f h = same_in (value e) (value f) (omega (arith, parts e, parts f))

pub at_most : (e f : Poly) → plus e + minus f ≤ plus f + minus e → value e ≤ℤ value f
at_most e f h = at_most_in (value e) (value f) (omega (arith, parts e, parts f))

pub below : (e f : Poly) → plus e + minus f < plus f + minus e → value e <ℤ value f
below e f h = below_in (value e) (value f) (omega (arith, parts e, parts f))

-- the same, where one of the two is known to be the other times something: k ≡ l, times c
pub same_by : (e f c k l : Poly) → value k ≡ value l → plus (e ⊕ c ⊗ l) + minus (f ⊕ c ⊗ k) ≡ plus (f ⊕ c ⊗ k) + minus (e ⊕ c ⊗ l) → value e ≡ value f
same_by e f c k l h i =
    let j : value e +ℤ value c *ℤ value l ≡ value f +ℤ value c *ℤ value k = same (e ⊕ c ⊗ l) (f ⊕ c ⊗ k) i in
    let m : value c *ℤ value k ≡ value c *ℤ value l = ap (λ z. value c *ℤ z) h in
    omega (arith, ints, j, m)

-- by two such facts
pub same_by_two : (e f c k l c' k' l' : Poly) → value k ≡ value l → value k' ≡ value l' →
    plus (e ⊕ c ⊗ l ⊕ c' ⊗ l') + minus (f ⊕ c ⊗ k ⊕ c' ⊗ k') ≡ plus (f ⊕ c ⊗ k ⊕ c' ⊗ k') + minus (e ⊕ c ⊗ l ⊕ c' ⊗ l') → value e ≡ value f
same_by_two e f c k l c' k' l' h h' i =
    let j : value e +ℤ value c *ℤ value l +ℤ value c' *ℤ value l' ≡ value f +ℤ value c *ℤ value k +ℤ value c' *ℤ value k' = same (e ⊕ c ⊗ l ⊕ c' ⊗ l') (f ⊕ c ⊗ k ⊕ c' ⊗ k') i in
    let m : value c *ℤ value k ≡ value c *ℤ value l = ap (λ z. value c *ℤ z) h in
    let n : value c' *ℤ value k' ≡ value c' *ℤ value l' = ap (λ z. value c' *ℤ z) h' in
    omega (arith, ints, j, m, n)
