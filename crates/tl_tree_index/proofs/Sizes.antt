-- The sizes of the parts into which a list is split, one after the other.
use Rattle.std.proofs.Common.{◌≡◌, ℕ, suc, ◌+◌, ◌-◌, ◌*◌, ◌/◌, ◌%◌, ◌<◌, ◌≤◌, min, ap, sym, subst, ◌∙◌, add-one, arith, inl, inr}
use Rattle.std.proofs.lemmas.Nat.{div-add-mod', mul-le}
use Rattle.std.proofs.lemmas.Bool.{cases_lt}
use Rattle.tl_tree_index.specs.Keeping.Nodes.{most_items}
use Rattle.tl_tree_index.proofs.NodeLemmas.{items_times, eight_items}

-- n is m parts of p + 1, and less than one more
record Divided (n p m : ℕ) : Type 0 where
  rest : ℕ
  low : rest ≤ p
  whole : m * p + m + rest ≡ n

divided_by : (n p : ℕ) → Divided n p (n / suc p)
divided_by n p =
    let m : ℕ = n / suc p in
    let low : n % suc p < suc p = omega arith in
    let whole : m * suc p + n % suc p ≡ n = div-add-mod' n (suc p) in
    record { rest = n % suc p; low = omega (arith, low); whole = omega (arith, whole) }

divided : (n q p : ℕ) → q ≡ p + 1 → Divided n p (n / q)
divided n q p e = subst (λ k. Divided n p (n / k)) (sym (e ∙ add-one p)) (divided_by n p)

module _ (n q p c : ℕ) (e : q ≡ p + 1) where
  -- where q parts of at most c are to come, the first has no more, and so have the others
  pub first_most : n ≤ p * c + c → n / q ≤ c
  first_most l =
      let m : ℕ = n / q in
      let d : Divided n p m = divided n q p e in
      elim (cases_lt c m) [
        | inl more ↦
            let over : (c + 1) * p ≤ m * p = mul-le (c + 1) p m p (omega (arith, more)) (omega arith) in
            let whole = d.whole in
            absurd (omega (arith, over, whole, l, more))
        | inr few ↦ few
      ]

  pub rest_most : n ≤ p * c + c → n - n / q ≤ p * c
  rest_most l =
      let m : ℕ = n / q in
      let d : Divided n p m = divided n q p e in
      let whole = d.whole in
      let low = d.low in
      elim (cases_lt m c) [
        | inl less ↦
            let under : (m + 1) * p ≤ c * p = mul-le (m + 1) p c p (omega (arith, less)) (omega arith) in
            omega (arith, under, whole, low)
        | inr same ↦ omega (arith, same, l)
      ]

  -- where each has c at least, the first has, and so have the others
  pub first_least : c * p + c ≤ n → c ≤ n / q
  first_least l =
      let m : ℕ = n / q in
      let d : Divided n p m = divided n q p e in
      let whole = d.whole in
      let low = d.low in
      elim (cases_lt m c) [
        | inl less ↦
            let under : (m + 1) * p ≤ c * p = mul-le (m + 1) p c p (omega (arith, less)) (omega arith) in
            absurd (omega (arith, under, whole, low, l, less))
        | inr enough ↦ enough
      ]

  pub rest_least : c * p + c ≤ n → c * p ≤ n - n / q
  rest_least l =
      let m : ℕ = n / q in
      let d : Divided n p m = divided n q p e in
      let whole = d.whole in
      let over : c * p ≤ m * p = mul-le c p m p (first_least l) (omega arith) in
      omega (arith, over, whole)

-- no part has more than all
pub part_within : (n q p : ℕ) → q ≡ p + 1 → n / q ≤ n
part_within n q p e =
    let d : Divided n p (n / q) = divided n q p e in
    let whole = d.whole in
    omega (arith, whole)

-- the greatest of k parts whose sizes differ by at most one
abbrev pub greatest_of : (n k : ℕ) → ℕ
greatest_of n k = (n + (k - 1)) / k

pub all_within : (n k p : ℕ) → k ≡ p + 1 → n ≤ p * greatest_of n k + greatest_of n k
all_within n k p e =
    let m : ℕ = (n + (k - 1)) / k in
    let d : Divided (n + (k - 1)) p m = divided (n + (k - 1)) k p e in
    let whole = d.whole in
    let low = d.low in
    omega (arith, whole, low, e)

-- the least of them
abbrev pub least_of : (n k : ℕ) → ℕ
least_of n k = n / k

pub all_with : (n k p : ℕ) → k ≡ p + 1 → least_of n k * p + least_of n k ≤ n
all_with n k p e =
    let d : Divided n p (n / k) = divided n k p e in
    let whole = d.whole in
    omega (arith, whole)

pub differ_by_one : (n k p : ℕ) → k ≡ p + 1 → greatest_of n k ≤ least_of n k + 1
differ_by_one n k p e =
    let m : ℕ = n / k in
    let b : ℕ = (n + (k - 1)) / k in
    let d : Divided n p m = divided n k p e in
    let more : Divided (n + (k - 1)) p b = divided (n + (k - 1)) k p e in
    let whole = d.whole in
    let low = d.low in
    let others = more.whole in
    elim (cases_lt (m + 1) b) [
      | inl less ↦
          let over : (m + 2) * p ≤ b * p = mul-le (m + 2) p b p (omega (arith, less)) (omega arith) in
          absurd (omega (arith, over, whole, low, others, less, e))
      | inr few ↦ few
    ]

-- each has four, where there are more than eight
pub four_each : (n k : ℕ) → k ≡ min 8 ((n + 7) / 8) → 8 < n → 4 ≤ least_of n k
four_each n k e many =
    let p : ℕ = k - 1 in
    let some : k ≡ p + 1 = omega (arith, e, many) in
    first_least n k p 4 some (omega (arith, e, some, many))

-- with eight children or with full leaves, the parts need one level less
pub level_below : (n k d : ℕ) → k ≡ min 8 ((n + 7) / 8) → 8 < n → n ≤ most_items (suc (suc d)) → greatest_of n k ≤ most_items (suc d)
level_below n k d e many l =
    let x : ℕ = most_items (suc d) in
    let times : most_items (suc (suc d)) ≡ 8 * x = items_times (suc d) in
    let full : 8 ≤ x = eight_items d in
    elim (cases_lt k 8) [
      | inl less ↦
          let p : ℕ = k - 1 in
          let some : k ≡ p + 1 = omega (arith, e, many) in
          let m : ℕ = (n + (k - 1)) / k in
          let parts : Divided (n + (k - 1)) p m = divided (n + (k - 1)) k p some in
          let whole = parts.whole in
          let low = parts.low in
          elim (cases_lt 8 m) [
            | inl more ↦
                let over : 9 * p ≤ m * p = mul-le 9 p m p (omega (arith, more)) (omega arith) in
                absurd (omega (arith, over, whole, low, e, less, some, more))
            | inr few ↦ omega (arith, few, full)
          ]
      | inr eight ↦
          let is : k ≡ 8 = omega (arith, e, eight) in
          let same : greatest_of n k ≡ (n + 7) / 8 = ap (greatest_of n) is ∙ ap (λ a. a / 8) (omega arith) in
          omega (arith, same, times, l)
    ]
