-- A budget that is enough for all pairs of segments.
use Rattle.std.proofs.Common.{◌≡◌, ℕ, zero, suc, ◌+◌, ◌*◌, ◌-◌, ◌/◌, ◌≤◌, ◌==◌, Bool, true, false, if◌then◌else◌, List, [], ◌∷◌, length, refl, ap, arith}
use Rattle.tl_geom.specs.declared.rect.Rect.{Rect}
use Rattle.tl_map_county.specs.TheMap.{MapChain}
use Rattle.tl_map_county.specs.Segments.{segments_before}
use Rattle.tl_tree_index.specs.Pairs.{indices, row_sum, pair_sum, meeting, overlaps}
use Rattle.tl_check_planar.specs.Rectangles.{segment_rect}
use Rattle.tl_check_planar.specs.Searching.{meeting_segments}
use Rattle.tl_check.specs.Keeping.Searching.{pairs_of}

one_at_most : (a b : Bool) → (if a then 0 else (if b then 1 else 0)) ≤ 1
one_at_most true b = omega arith
one_at_most false true = omega arith
one_at_most false false = omega arith

meeting_one : (bounds : ℕ → Rect) (x y : ℕ) → meeting bounds x y ≤ 1
unfolding meeting
meeting_one bounds x y = one_at_most (x == y) (overlaps (bounds x) (bounds y))

row_few : (bounds : ℕ → Rect) (x : ℕ) (ys : List ℕ) → row_sum (meeting bounds) x ys ≤ length ys
row_few bounds x [] = omega arith
row_few bounds x (y ∷ ys) = omega (arith, meeting_one bounds x y, row_few bounds x ys)

pairs_few : (bounds : ℕ → Rect) (xs : List ℕ) → 2 * pair_sum (meeting bounds) xs + length xs ≤ length xs * length xs
pairs_few bounds [] = omega arith
pairs_few bounds (x ∷ xs) =
    let n = length xs in
    let row : row_sum (meeting bounds) x xs ≤ n = row_few bounds x xs in
    let rest : 2 * pair_sum (meeting bounds) xs + n ≤ n * n = pairs_few bounds xs in
    let more : suc n * suc n ≡ n * n + n + n + 1 = omega arith in
    omega (arith, row, rest, more)

long : (n : ℕ) → length (indices n) ≡ n
unfolding indices
long zero = refl
long (suc n) = omega (arith, long n)

one_less : (n : ℕ) → suc n - 1 ≡ n
one_less n = omega arith

less_one : (n : ℕ) → n * (n - 1) + n ≡ n * n
less_one zero = refl
less_one (suc n) =
    let product : suc n * (suc n - 1) ≡ suc n * n = ap (λ k. suc n * k) (one_less n) in
    omega (arith, product)

half : (a b : ℕ) → 2 * a ≤ b → a ≤ b / 2
half a b h = omega (arith, h)

-- so many pairs of segments at most have rectangles that meet
pub all_pairs : (chains : List MapChain) → meeting_segments chains ≤ pairs_of (segments_before chains (length chains))
all_pairs chains =
    let n = segments_before chains (length chains) in
    let pairs = pair_sum (meeting (segment_rect chains)) (indices n) in
    let few : 2 * pairs + length (indices n) ≤ length (indices n) * length (indices n) = pairs_few (segment_rect chains) (indices n) in
    let few' : 2 * pairs + n ≤ n * n = rw (long n) at few in
    half pairs (n * (n - 1)) (omega (arith, few', less_one n))

pub enough : (chains : List MapChain) (budget : ℕ) → pairs_of (segments_before chains (length chains)) ≤ budget → meeting_segments chains ≤ budget
enough chains budget h = omega (arith, h, all_pairs chains)
