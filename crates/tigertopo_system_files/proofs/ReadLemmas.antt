-- A source that is read block by block.
use Rattle.std.proofs.Common.{◌≡◌, ◌≢◌, ℕ, ◌+◌, ◌-◌, ◌^◌, ◌≤◌, List, length, take, Option, Some, None, IfSome, refl, ap, arith}
use Rattle.std.specs.Io.KnownBytes.{Consumes}
use Rattle.std.proofs.lemmas.List.{length-take, length-append}
use Rattle.tigertopo_system_files.specs.Calls.{ReadsAll}

-- so many reads took a byte each at least
abbrev pub IsReadOn : Option (List ℕ) → Option (List ℕ) → ℕ → Type 0
IsReadOn old now count = IfSome old (λ xs. (ys : List ℕ) × (now ≡ Some ys) × (length ys + count ≤ length xs))

-- none did
pub none_read : (known : Option (List ℕ)) → IsReadOn known known 0
none_read None = tt
none_read (Some xs) = (xs, refl, omega arith)

on_from : (xs ys : List ℕ) (new : Option (List ℕ)) (count n : ℕ) (buf : List ℕ) → length ys + count ≤ length xs → Consumes (Some ys) new (take n buf) → n ≤ length buf → n ≢ 0
    → (zs : List ℕ) × (new ≡ Some zs) × (length zs + (count + 1) ≤ length xs)
on_from xs ys None count n buf most took fits some = absurd took
on_from xs ys (Some zs) count n buf most took fits some =
    let all = ap length took in
    let joined = length-append (take n buf) zs in
    let long = length-take n buf in
    (zs, refl, omega arith)

-- one more did
pub read_on : (old now new : Option (List ℕ)) (count n : ℕ) (buf : List ℕ) → IsReadOn old now count → Consumes now new (take n buf) → n ≤ length buf → n ≢ 0 → IsReadOn old new (count + 1)
read_on None now new count n buf is took fits some = tt
read_on (Some xs) now new count n buf is took fits some = on_from xs is.0 new count n buf is.2 (rw is.1 at took) fits some

-- so many of them as a u64 counts
pub all_counted : (old now : Option (List ℕ)) (count : ℕ) → IsReadOn old now count → 2 ^ 64 - 1 ≤ count → ReadsAll old now
all_counted None now count is most = tt
all_counted (Some xs) now count is most = λ less. absurd (omega (arith, is.2))
