-- Objects one after the other.
use Rattle.std.proofs.Common.{◌≡◌, ℕ, ◌+◌, List, ◌++◌, refl, add-one}
use Rattle.tigertopo_faults.specs.Objects.Texts.{objects_below}

-- one object more
pub one_object_more : (object : ℕ → List ℕ) (n : ℕ) → objects_below object n ++ object n ≡ objects_below object (n + 1)
one_object_more object n = rw add-one refl
