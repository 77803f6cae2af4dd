-- How many reads of several sources failed.
use Rattle.std.proofs.Common.{◌≡◌, ℕ, ◌+◌, ◌-◌, ◌^◌, ◌<◌, min, List, [], ◌∷◌, refl, arith}
use Rattle.std.specs.List.{sum_by}
use Rattle.std.proofs.lemmas.List.Sums.{sum_by-cons}
use Rattle.tigertopo_files.specs.Joining.{failures_from, failures_of}

none_from : {A : Type 0} (f : A → ℕ) (before : ℕ) (xs : List A) → failures_from f before xs ≡ 0 → (before ≡ 0) × (sum_by f xs ≡ 0)
none_from f before [] none = (none, refl)
none_from f before (x ∷ xs) none =
    let rest = none_from f (min (before + f x) (2 ^ 64 - 1)) xs none in
    let here = rest.0 in
    let there = rest.1 in
    let sum = sum_by-cons f x xs in
    (omega (arith, here), omega (arith, here, there, sum))

some_from : {A : Type 0} (f : A → ℕ) (before : ℕ) (xs : List A) → 0 < failures_from f before xs → 0 < before + sum_by f xs
some_from f before [] some = omega (arith, some)
some_from f before (x ∷ xs) some =
    let rest = some_from f (min (before + f x) (2 ^ 64 - 1)) xs some in
    let sum = sum_by-cons f x xs in
    omega (arith, rest, sum)

sum_from : {A : Type 0} (f : A → ℕ) (before : ℕ) (xs : List A) → before ≡ 0 → sum_by f xs ≡ 0 → failures_from f before xs ≡ 0
sum_from f before [] none clear = none
sum_from f before (x ∷ xs) none clear =
    let sum = sum_by-cons f x xs in
    sum_from f (min (before + f x) (2 ^ 64 - 1)) xs (omega (arith, none, clear, sum)) (omega (arith, clear, sum))

-- where none is counted, none failed
pub none_failed : {A : Type 0} (f : A → ℕ) (xs : List A) → failures_of f xs ≡ 0 → sum_by f xs ≡ 0
none_failed f xs none = (none_from f 0 xs none).1

pub none_counted : {A : Type 0} (f : A → ℕ) (xs : List A) → sum_by f xs ≡ 0 → failures_of f xs ≡ 0
none_counted f xs clear = sum_from f 0 xs refl clear

-- where some are counted, some failed
pub some_failed : {A : Type 0} (f : A → ℕ) (xs : List A) → 0 < failures_of f xs → 0 < sum_by f xs
some_failed f xs some = let all = some_from f 0 xs some in omega (arith, all)
