-- The numbers of items while parts are split off, one after the other.
use Rattle.std.proofs.Common.{◌≡◌, ℕ, ◌+◌, ◌-◌, ◌*◌, ◌/◌, ◌<◌, ◌≤◌, List, ◌∷◌, [], ◌++◌, min, length, length-append, ap, ◌∙◌, arith}
use Rattle.tl_tree_index.proofs.Sizes.{greatest_of, least_of, first_most, rest_most, first_least, rest_least, part_within, all_within, all_with, four_each}

-- of k parts of n items, so many are split off; enough items are left for the others, and not too many
pub record AreLeft (n k pushed left : ℕ) : Type 0 where
  pub most : left ≤ (k - pushed) * greatest_of n k
  pub least : least_of n k * (k - pushed) ≤ left
  pub four : 4 * (k - pushed) ≤ left

pub all_left : (n k : ℕ) → k ≡ min 8 ((n + 7) / 8) → 2 ≤ k → 8 < n → AreLeft n k 0 n
all_left n k count several many =
    let one : k ≡ k - 1 + 1 = omega (arith, several) in
    let within : n ≤ (k - 1) * greatest_of n k + greatest_of n k = all_within n k (k - 1) one in
    let times : (k - 1 + 1) * greatest_of n k ≡ (k - 1) * greatest_of n k + greatest_of n k = omega arith in
    let none : k - 0 ≡ k - 1 + 1 = omega (arith, several) in
    let whole : (k - 0) * greatest_of n k ≡ (k - 1 + 1) * greatest_of n k = ap (λ q. q * greatest_of n k) none in
    let each : least_of n k * (k - 1) + least_of n k ≤ n = all_with n k (k - 1) one in
    let all : least_of n k * (k - 0) ≡ least_of n k * (k - 1 + 1) = ap (λ q. least_of n k * q) none in
    record {
      most = omega (arith, within, times, whole);
      least = omega (arith, each, all);
      four = omega (arith, count, many);
    }

-- one part more is split off
pub record IsSplitOff (n k pushed child behind : ℕ) : Type 0 where
  pub left : AreLeft n k (pushed + 1) behind
  pub low : least_of n k ≤ child
  pub high : child ≤ greatest_of n k
  pub some : 4 ≤ child

pub split_off : (n k pushed left child behind : ℕ) → k ≡ min 8 ((n + 7) / 8) → 8 < n → pushed < k → AreLeft n k pushed left → child ≡ left / (k - pushed) → behind + left / (k - pushed) ≡ left → IsSplitOff n k pushed child behind
split_off n k pushed left child behind count many below are front split =
    let most = greatest_of n k in
    let least = least_of n k in
    let four : 4 ≤ least = four_each n k count many in
    let q = k - pushed in
    let p = k - (pushed + 1) in
    let parts : q ≡ p + 1 = omega (arith, below) in
    let are_most = are.most in
    let are_least = are.least in
    let are_four = are.four in
    let times : (p + 1) * most ≡ p * most + most = omega arith in
    let within : left ≤ p * most + most = omega (arith, are_most, ap (λ a. a * most) parts, times) in
    let enough : least * p + least ≤ left = omega (arith, are_least, ap (λ a. least * a) parts) in
    let high : left / q ≤ most = first_most left q p most parts within in
    let others : left - left / q ≤ p * most = rest_most left q p most parts within in
    let low : least ≤ left / q = first_least left q p least parts enough in
    let leasts : least * p ≤ left - left / q = rest_least left q p least parts enough in
    let fours : 4 * p ≤ left - left / q = rest_least left q p 4 parts (omega (arith, are_four, parts)) in
    record {
      left = record { most = omega (arith, others, split); least = omega (arith, leasts, split); four = omega (arith, fours, split) };
      low = omega (arith, low, front);
      high = omega (arith, high, front);
      some = omega (arith, low, four, front);
    }

-- none is left behind the last
pub none_left : (n k pushed left : ℕ) → AreLeft n k pushed left → pushed ≡ k → left ≡ 0
none_left n k pushed left are at =
    let are_most = are.most in
    let none : (k - pushed) * greatest_of n k ≡ 0 * greatest_of n k = ap (λ q. q * greatest_of n k) (omega (arith, at)) in
    omega (arith, are_most, none)

pub gone_more : {X : Type 0} (done child : List X) (pushed : ℕ) → pushed ≤ length done → 4 ≤ length child → pushed + 1 ≤ length (done ++ child)
gone_more done child pushed gone some = omega (arith, length-append done child, gone, some)

pub at_least : (n : ℕ) → 0 ≤ n
at_least n = omega arith

pub one_less : (k : ℕ) → 2 ≤ k → k ≡ k - 1 + 1
one_less k several = omega (arith, several)

-- a count that has come to an end is at it
pub at_end : (i end : ℕ) → end ≤ i → i ≤ end → i ≡ end
at_end i end past within = omega (arith, past, within)

pub long_more : {X : Type 0} (xs ys : List X) (x : X) (n : ℕ) → ys ≡ xs ++ x ∷ [] → length xs ≡ n → length ys ≡ n + 1
long_more xs ys x n is long = ap length is ∙ length-append xs (x ∷ []) ∙ ap (λ m. m + 1) long

-- while one is to be split off
module _ (k pushed : ℕ) (below : pushed < k) where
  pub some_left : 0 < k - pushed
  some_left = omega (arith, below)

  pub fewer_left : k - (pushed + 1) < k - pushed
  fewer_left = omega (arith, below)

  pub first_within : (n : ℕ) → n / (k - pushed) ≤ n
  first_within n = part_within n (k - pushed) (k - (pushed + 1)) (omega (arith, below))

pub four_some : (n : ℕ) → 4 ≤ n → 0 < n
four_some n four = omega (arith, four)

-- a part has fewer items than all
pub is_fewer : {X : Type 0} (part done rest : List X) (k pushed child behind share : ℕ) → part ≡ done ++ rest → child ≡ share → behind + share ≡ length rest → pushed ≤ length done → 2 ≤ k → pushed < k → 4 * (k - (pushed + 1)) ≤ behind → child < length part
is_fewer part done rest k pushed child behind share is front split gone several below four =
    let long : length part ≡ length done + length rest = ap length is ∙ length-append done rest in
    omega (arith, long, front, split, gone, several, below, four)
