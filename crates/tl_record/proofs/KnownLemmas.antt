-- The bytes that weren't judged yet, where they are known.
use Rattle.std.proofs.Common.{◌≡◌, ℕ, List, ◌++◌, Option, None, Some, refl, append_assoc}
use Rattle.std.specs.Io.KnownBytes.{Consumes, Keeps, prepend_known}

-- fetched bytes go from the source to the buffer
pub fetched_kept : (old new bytes : List ℕ) (left after : Option (List ℕ)) → new ≡ old ++ bytes → Consumes left after bytes
    → Keeps (prepend_known old left) (prepend_known new after)
fetched_kept old new bytes None after added consumed = tt
fetched_kept old new bytes (Some xs) None added consumed = absurd consumed
fetched_kept old new bytes (Some xs) (Some ys) added consumed = rw (added, consumed, append_assoc) refl

-- a failed read takes nothing
pub failed_kept : (old new : List ℕ) (left after : Option (List ℕ)) → new ≡ old → Keeps left after → Keeps (prepend_known old left) (prepend_known new after)
failed_kept old new None after same kept = tt
failed_kept old new (Some xs) None same kept = absurd kept
failed_kept old new (Some xs) (Some ys) same kept = rw (same, kept) refl
